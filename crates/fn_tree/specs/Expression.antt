-- What an expression gives.
use Rattle.fn_tree.specs.declared.expr.Expr.{Expr}
use Rattle.fn_tree.specs.declared.expr.Expr.TheFolds.{fold-Expr}
use Rattle.fn_tree.specs.declared.expr.Expr.TheOpen.{Expr-F}
use Rattle.fn_tree.specs.declared.program.Item.{Item}
use Rattle.r3_value.specs.declared.value.Outcome.{Outcome}
use Rattle.r3_value.specs.declared.value.Val.{Val}
use Rattle.r3_value.specs.declared.value.Val.TheVariants.{Null, Bool as Truth, Int, Text}
use Rattle.std.specs.List.{fold}
use Rattle.std.specs.Prelude.{ℕ, suc, Bool, true, false, List, [], ◌∷◌, ◌&&◌, length, nat_eq, Option, Some, None, if◌then◌else◌}
use Rattle.std.specs.Str.{bytes_eq}
use Rattle.fn_tree.specs.declared.program.Item.TheVariants as item
use Rattle.fn_tree.specs.Values.{bool_of}
use Rattle.fn_tree.specs.Arithmetic.{type_failure, sum, difference, product, quotient, remainder, negated}
use Rattle.fn_tree.specs.Comparison.{equal, unequal, less, less_or_equal, greater, greater_or_equal, inverted, truth}
use Rattle.fn_tree.specs.Sequences.{list_or_size, joined, length_of, shown, indexed}
pub use Rattle.fn_tree.specs.Evaluation.{End, Gives, Fails, Stuck, then_do, ends, Binding, names_of, look_up_or, look_up, bound_or_stuck, Run, Calls, values_onto, with_unit}

abbrev pub unary : (Val → Outcome) → Run → Run
unary f a env units cost = then_do (a env units cost) (λ x. ends (f x))

-- two values, from left to right
abbrev pub both : Run → Run → List Binding → ℕ → ℕ → End (Val × Val)
both a b env units cost = then_do (a env units cost) (λ x units cost. then_do (b env units cost) (λ y. Gives (x, y)))

-- both operands are evaluated before either is tested
abbrev pub binary : (Val → Val → Outcome) → Run → Run → Run
binary f a b env units cost = then_do (both a b env units cost) (λ p. ends (f p.0 p.1))

-- the second side of `&&` where the first is true, and of `||` where it is false
abbrev pub both_by : Option Bool → ℕ → ℕ → (ℕ → ℕ → End Val) → End Val
both_by None units cost rest = ends type_failure units cost
both_by (Some false) units cost rest = Gives (Truth false) units cost
both_by (Some true) units cost rest = rest units cost

abbrev pub either_by : Option Bool → ℕ → ℕ → (ℕ → ℕ → End Val) → End Val
either_by None units cost rest = ends type_failure units cost
either_by (Some true) units cost rest = Gives (Truth true) units cost
either_by (Some false) units cost rest = rest units cost

-- an operator without its own count
abbrev pub opened : Calls → Expr-F Run → Run
opened calls (Expr-F.Int z) env units cost = Gives (Int z) units cost
opened calls (Expr-F.Text t) env units cost = Gives (Text t) units cost
opened calls Expr-F.Null env units cost = Gives Null units cost
opened calls Expr-F.True env units cost = Gives (Truth true) units cost
opened calls Expr-F.False env units cost = Gives (Truth false) units cost
opened calls (Expr-F.Name x) env units cost = bound_or_stuck (look_up env x) units cost
opened calls (Expr-F.Helper name args) env units cost =
    then_do (values_onto [] args env units cost) (λ vs units cost. with_unit units cost (calls name vs))
opened calls (Expr-F.List es) env units cost =
    then_do (values_onto [] es env units cost) (λ vs. ends (list_or_size vs))
opened calls (Expr-F.Index a b) env units cost = binary indexed a b env units cost
opened calls (Expr-F.Neg a) env units cost = unary negated a env units cost
opened calls (Expr-F.Not a) env units cost = unary inverted a env units cost
opened calls (Expr-F.Or a b) env units cost =
    then_do (a env units cost) (λ x units cost. either_by (bool_of x) units cost (unary truth b env))
opened calls (Expr-F.And a b) env units cost =
    then_do (a env units cost) (λ x units cost. both_by (bool_of x) units cost (unary truth b env))
opened calls (Expr-F.Eq a b) env units cost = binary equal a b env units cost
opened calls (Expr-F.Ne a b) env units cost = binary unequal a b env units cost
opened calls (Expr-F.Lt a b) env units cost = binary less a b env units cost
opened calls (Expr-F.Le a b) env units cost = binary less_or_equal a b env units cost
opened calls (Expr-F.Gt a b) env units cost = binary greater a b env units cost
opened calls (Expr-F.Ge a b) env units cost = binary greater_or_equal a b env units cost
opened calls (Expr-F.Add a b) env units cost = binary sum a b env units cost
opened calls (Expr-F.Sub a b) env units cost = binary difference a b env units cost
opened calls (Expr-F.Join a b) env units cost = binary joined a b env units cost
opened calls (Expr-F.Mul a b) env units cost = binary product a b env units cost
opened calls (Expr-F.Div a b) env units cost = binary quotient a b env units cost
opened calls (Expr-F.Rem a b) env units cost = binary remainder a b env units cost
opened calls (Expr-F.Len a) env units cost = unary length_of a env units cost
opened calls (Expr-F.Str a) env units cost = unary shown a env units cost

-- One node, with what each child does in its place. It counts when its evaluation begins.
abbrev pub node : Calls → Expr-F Run → Run
node calls e env units cost = opened calls e env units (suc cost)

-- what an expression does
abbrev pub evaluated : Calls → Expr → Run
evaluated calls = fold-Expr Run (node calls)

-- the parameters, bound to the arguments
abbrev pub bound : List (List ℕ) → List Val → List Binding
bound [] vs = []
bound (x ∷ xs) [] = []
bound (x ∷ xs) (v ∷ vs) = (x, v) ∷ bound xs vs

abbrev pub no_calls : Calls
no_calls name vs units cost = Stuck

-- The calls that there are after an item: a helper is called by its name with its number of arguments, and its body calls
-- what was declared before it.
abbrev pub extended : Calls → Item → Calls
extended calls (item.Helper name params body) asked vs units cost =
    if bytes_eq name asked && nat_eq (length params) (length vs) then evaluated calls body (bound params vs) units cost
    else calls asked vs units cost
extended calls _ asked vs units cost = calls asked vs units cost

-- the calls that a program's items declare
abbrev pub calls_of : List Item → Calls
calls_of items = fold extended no_calls items
