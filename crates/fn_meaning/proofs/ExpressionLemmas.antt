-- The meaning of an expression, one level at a time, and induction by levels.
use Rattle.std.proofs.Common.{◌≡◌, subst, ℕ, List, [], ◌∷◌, ◌++◌, ap, sym, ◌∙◌, refl}
use Rattle.std.specs.Prelude.{if◌then◌else◌, suc, map, Option, Some, None}
use Rattle.std.specs.Str.{bytes_eq}
use Rattle.std.proofs.lemmas.List.Sums.{fold-append}
use Rattle.fn_tree.specs.Sequences.{list_or_size}
use Rattle.r3_value.specs.declared.value.Val.{Val}
use Rattle.fn_tree.specs.declared.program.Item.{Item}
use Rattle.fn_tree.specs.Expression.{Binding}
use Rattle.fn_tree.specs.declared.expr.Expr.{Expr, roll-Expr, out-Expr}
use Rattle.fn_tree.specs.declared.expr.Expr.TheOpen.{Expr-F}
use Rattle.fn_tree.specs.declared.expr.Expr as variant
use Rattle.fn_tree.specs.declared.expr.Expr.TheVariants.{rolls-Helper, rolls-List}
use Rattle.fn_tree.specs.declared.expr.Expr.TheFolds.{map-Expr, fold-roll-Expr, ind-Expr}
use Rattle.fn_tree.specs.Soundness.{Scope, Test, node_is_sound, expr_is_sound}
use Rattle.fn_tree.specs.Expression.{Run, Calls, node, evaluated, values_onto, then_do, with_unit, ends, extended, no_calls, calls_of, look_up, look_up_or}

-- an expression of which P is shown
abbrev pub Shown : (Expr → Type 0) → Type 0
Shown P = (e : Expr) × P e

-- what holds of a level whose children have it holds of every expression
pub by_levels : (P : Expr → Type 0) → ((y : Expr-F (Shown P)) → P (roll-Expr (map-Expr (Shown P) Expr (λ s. s.0) y))) → (e : Expr) → P e
by_levels P step = ind-Expr P (λ x y same. subst (λ z. P (roll-Expr z)) same (step y))

pub evaluated_roll : (calls : Calls) (x : Expr-F Expr) (env : List Binding) (units cost : ℕ) → evaluated calls (roll-Expr x) env units cost ≡ node calls (map-Expr Expr Run (evaluated calls) x) env units cost
evaluated_roll calls x env units cost = ap (λ (r : Run). r env units cost) (fold-roll-Expr Run (node calls) x)

-- one item more
pub calls_of_last : (items : List Item) (i : Item) → calls_of (items ++ i ∷ []) ≡ extended (calls_of items) i
calls_of_last items i = fold-append extended no_calls items (i ∷ [])

pub expr_is_sound_roll : (items : List Item) (x : Expr-F Expr) (scope : Scope) → expr_is_sound items (roll-Expr x) scope ≡ node_is_sound items (map-Expr Expr Test (expr_is_sound items) x) scope
expr_is_sound_roll items x scope = ap (λ (t : Test). t scope) (fold-roll-Expr Test (node_is_sound items) x)

look_up_or_last : (o : Option Val) (env : List Binding) (b : Binding) (name : List ℕ) → look_up_or o (env ++ b ∷ []) name ≡ (if bytes_eq b.0 name then Some b.1 else look_up_or o env name)
look_up_or_last o [] b name = refl
look_up_or_last o (d ∷ env) b name = look_up_or_last (if bytes_eq d.0 name then Some d.1 else o) env b name

-- the last binding of a name counts
pub look_up_last : (env : List Binding) (b : Binding) (name : List ℕ) → look_up (env ++ b ∷ []) name ≡ (if bytes_eq b.0 name then Some b.1 else look_up env name)
look_up_last env b name = look_up_or_last None env b name

-- The equations of the nodes that have a list, at the variant that a `match` names.
pub evaluated_helper : (calls : Calls) (name : List ℕ) (args : List Expr) (env : List Binding) (units cost : ℕ) → evaluated calls (variant.Helper name args) env units cost ≡ then_do (values_onto [] (map (evaluated calls) args) env units (suc cost)) (λ vs units cost. with_unit units cost (calls name vs))
evaluated_helper calls name args env units cost = ap (λ e. evaluated calls e env units cost) (sym (rolls-Helper name args)) ∙ evaluated_roll calls (Expr-F.Helper name args) env units cost

pub evaluated_list : (calls : Calls) (es : List Expr) (env : List Binding) (units cost : ℕ) → evaluated calls (variant.List es) env units cost ≡ then_do (values_onto [] (map (evaluated calls) es) env units (suc cost)) (λ vs. ends (list_or_size vs))
evaluated_list calls es env units cost = ap (λ e. evaluated calls e env units cost) (sym (rolls-List es)) ∙ evaluated_roll calls (Expr-F.List es) env units cost
