-- Nodes whose operands are a list.
use Rattle.std.proofs.Common.{◌≡◌, ℕ, suc, ◌+◌, List, [], ap, sym, ◌∙◌, arith}
use Rattle.std.specs.Prelude.{map}
use Rattle.fn_tree.specs.Expression.{Binding}
use Rattle.fn_tree.specs.declared.expr.Expr.{Expr}
use Rattle.fn_tree.specs.declared.expr.Expr as variant
use Rattle.fn_tree.specs.Sequences.{list_or_size}
use Rattle.fn_tree.specs.Expression.{Calls, evaluated, values_onto, then_do, with_unit, ends}
use Rattle.fn_meaning.proofs.ExpressionLemmas.{evaluated_helper, evaluated_list}

module _ (calls : Calls) (e : Expr) (env : List Binding) (units cost after : ℕ) (step : after ≡ cost + 1) where
  counted : after ≡ suc cost
  counted = omega arith

  pub list_equation : (es : List Expr) → e ≡ variant.List es → evaluated calls e env units cost ≡ then_do (values_onto [] (map (evaluated calls) es) env units after) (λ vs. ends (list_or_size vs))
  list_equation es is = ap (λ x. evaluated calls x env units cost) is ∙ evaluated_list calls es env units cost ∙ ap (λ n. then_do (values_onto [] (map (evaluated calls) es) env units n) (λ vs. ends (list_or_size vs))) (sym counted)

  pub helper_equation : (name : List ℕ) (es : List Expr) → e ≡ variant.Helper name es → evaluated calls e env units cost ≡ then_do (values_onto [] (map (evaluated calls) es) env units after) (λ vs units cost. with_unit units cost (calls name vs))
  helper_equation name es is = ap (λ x. evaluated calls x env units cost) is ∙ evaluated_helper calls name es env units cost ∙ ap (λ n. then_do (values_onto [] (map (evaluated calls) es) env units n) (λ vs units cost. with_unit units cost (calls name vs))) (sym counted)
