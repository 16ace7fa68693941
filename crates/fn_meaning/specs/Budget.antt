-- A body ends within its units.
use Rattle.std.specs.Prelude.{◌≡◌, ◌≤◌, ℕ, ◌+◌, ◌*◌, List, Some}
use Rattle.r3_value.specs.declared.value.Val.{Val}
use Rattle.fn_tree.specs.declared.expr.Expr.{Expr}
use Rattle.fn_tree.specs.declared.flow.Answer.{Answer}
use Rattle.fn_tree.specs.declared.flow.FlowEnd.{FlowEnd}
use Rattle.fn_tree.specs.declared.look.TxnRun.{TxnRun}
use Rattle.fn_tree.specs.declared.program.Item.{Item}
use Rattle.fn_tree.specs.Evaluation.{Binding, End, Gives, Fails, Stuck}
use Rattle.fn_tree.specs.Expression.{evaluated, calls_of}
use Rattle.fn_tree.specs.Transaction.{Versions, Counted, txn_meaning}
use Rattle.fn_tree.specs.Flow.{flow_meaning}
use Rattle.fn_meaning.specs.Nodes.{in_expression, in_program}

-- the nodes evaluated so far, and so many more for each unit left
abbrev pub load : (each units cost : ℕ) → ℕ
load each units cost = cost + each * units

-- where an evaluation ends, these are at most a bound
abbrev pub Spends : {A : Type 0} → ℕ → ℕ → End A → Type 0
Spends each bound (Gives a units cost) = load each units cost ≤ bound
Spends each bound (Fails word units cost) = load each units cost ≤ bound
Spends each bound Stuck = Unit {0}

-- An expression evaluates each of its nodes once, and for each unit it takes at most as many as its program has.
abbrev pub ExpressionsEnd : Type 0
ExpressionsEnd = (items : List Item) (e : Expr) (env : List Binding) (units cost : ℕ) → Spends (in_program items) (load (in_program items) units cost + in_expression e) (evaluated (calls_of items) e env units cost)

-- A body, which begins with 100,000 units, evaluates at most 100,001 times as many nodes as its program has.
abbrev pub TransactionsEnd : Type 0
TransactionsEnd = (items : List Item) (base : Versions) (name : List ℕ) (args : List Val) (r : Counted TxnRun) → txn_meaning items base name args ≡ Some r → r.cost ≤ in_program items * 100001

abbrev pub FlowsEnd : Type 0
FlowsEnd = (items : List Item) (name : List ℕ) (args : Val) (answers : List Answer) (r : Counted FlowEnd) → flow_meaning items name args answers ≡ Some r → r.cost ≤ in_program items * 100001
