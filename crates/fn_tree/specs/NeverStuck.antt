-- A sound program is never stuck.
use Rattle.std.specs.Prelude.{◌≡◌, ℕ, true, List, Some, length}
use Rattle.r3_value.specs.declared.value.Val.{Val}
use Rattle.fn_tree.specs.declared.flow.Answer.{Answer}
use Rattle.fn_tree.specs.declared.flow.AskKind.TheVariants as kind
use Rattle.fn_tree.specs.declared.program.Item.{Item}
use Rattle.fn_tree.specs.declared.expr.Expr.{Expr}
use Rattle.fn_tree.specs.Evaluation.{Binding, names_of, End, Gives, Fails, Stuck}
use Rattle.fn_tree.specs.Expression.{evaluated, calls_of}
use Rattle.fn_tree.specs.Soundness.{IsSound, is_some, called, expr_is_sound}
use Rattle.fn_tree.specs.Transaction.{Versions, txn_meaning}
use Rattle.fn_tree.specs.Flow.{flow_meaning}

-- it ends, and isn't stuck
abbrev pub HasEnd : {A : Type 0} → End A → Type 0
HasEnd (Gives a units cost) = Unit {0}
HasEnd (Fails word units cost) = Unit {0}
HasEnd Stuck = ⊥

-- an expression that is sound in the names that are bound ends
abbrev pub ExpressionsNeverStuck : Type 0
ExpressionsNeverStuck = (items : List Item) (e : Expr) (env : List Binding) (units cost : ℕ) → IsSound items → expr_is_sound items e (names_of env) ≡ true → HasEnd (evaluated (calls_of items) e env units cost)

-- a run of a sound program's workflow ends or asks, whatever the answers are
abbrev pub FlowsNeverStuck : Type 0
FlowsNeverStuck = (items : List Item) (name : List ℕ) (args : Val) (answers : List Answer) → IsSound items → is_some (flow_meaning items name args answers) ≡ true

-- a run of a sound program's transaction on as many arguments as it has parameters ends, on every map
abbrev pub TxnsNeverStuck : Type 0
TxnsNeverStuck = (items : List Item) (base : Versions) (name : List ℕ) (args : List Val) → IsSound items → called items name (length args) ≡ Some kind.Txn → is_some (txn_meaning items base name args) ≡ true
