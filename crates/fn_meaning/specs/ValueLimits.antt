-- Values, words and bindings within their limits, and that expressions keep them.
use Rattle.std.specs.Prelude.{◌≡◌, ℕ, true, List, [], ◌∷◌}
use Rattle.r3_value.specs.Value.{IsValue}
use Rattle.r3_value.specs.View.{value_of}
use Rattle.r3_value.specs.declared.value.Outcome.{Outcome}
use Rattle.r3_value.specs.declared.value.Outcome.TheVariants.{Value, Failure}
use Rattle.r3_value.specs.declared.value.Val.{Val}
use Rattle.fn_tree.specs.declared.expr.Expr.{Expr}
use Rattle.fn_tree.specs.declared.program.Item.{Item}
use Rattle.fn_tree.specs.Evaluation.{End, Gives, Fails, Stuck, Binding}
use Rattle.fn_tree.specs.Expression.{evaluated, calls_of}
use Rattle.fn_tree.specs.Literals.{is_text, expr_fits, HoldsValues}

-- numbers of 64 bits, texts in UTF-8, a weight of at most 4,096 bytes and a depth of at most 16
abbrev pub IsVal : Val → Type 0
IsVal v = IsValue (value_of v)

abbrev pub AreVals : List Val → Type 0
AreVals [] = Unit {0}
AreVals (v ∷ vs) = IsVal v × AreVals vs

-- a failure's word is a text that a value can hold
abbrev pub IsWord : List ℕ → Type 0
IsWord word = is_text word ≡ true

abbrev pub IsOutcome : Outcome → Type 0
IsOutcome (Value v) = IsVal v
IsOutcome (Failure word) = IsWord word

abbrev pub AreBindings : List Binding → Type 0
AreBindings [] = Unit {0}
AreBindings (b ∷ env) = IsVal b.1 × AreBindings env

-- what is given is as wanted, and the word of a failure is a text
abbrev pub GivesWithin : {A : Type 0} → (A → Type 0) → End A → Type 0
GivesWithin good (Gives a units cost) = good a
GivesWithin good (Fails word units cost) = IsWord word
GivesWithin good Stuck = Unit {0}

-- Where the literals of a program are values, and what is bound, so is what an expression gives.
abbrev pub ExpressionsStayWithin : Type 0
ExpressionsStayWithin = (items : List Item) (e : Expr) (env : List Binding) (units cost : ℕ)
    → HoldsValues items → expr_fits e ≡ true → AreBindings env
    → GivesWithin IsVal (evaluated (calls_of items) e env units cost)
