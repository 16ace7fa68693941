-- The operators of nodes with one or two operands.
use Rattle.r3_value.specs.declared.value.Val.{Val}
use Rattle.r3_value.specs.declared.value.Outcome.{Outcome}
use Rattle.fn_tree.specs.Arithmetic.{negated, sum, difference, product, quotient, remainder}
use Rattle.fn_tree.specs.Comparison.{inverted, truth, equal, unequal, less, less_or_equal, greater, greater_or_equal}
use Rattle.fn_tree.specs.Sequences.{length_of, shown, indexed, joined}
use Rattle.fn_tree.specs.Values.{bool_of}
use Rattle.fn_tree.specs.Expression.{Run, then_do, both_by, either_by, unary}
use Rattle.fn_eval.specs.declared.operation.Unary.{Unary}
use Rattle.fn_eval.specs.declared.operation.Unary.TheVariants as one
use Rattle.fn_eval.specs.declared.operation.Binary.{Binary}
use Rattle.fn_eval.specs.declared.operation.Binary.TheVariants as binary

abbrev pub outcome_of : Unary → Val → Outcome
outcome_of one.Neg = negated
outcome_of one.Not = inverted
outcome_of one.Len = length_of
outcome_of one.Str = shown
outcome_of one.Truth = truth

abbrev pub outcome_of_both : Binary → Val → Val → Outcome
outcome_of_both binary.Index = indexed
outcome_of_both binary.Eq = equal
outcome_of_both binary.Ne = unequal
outcome_of_both binary.Lt = less
outcome_of_both binary.Le = less_or_equal
outcome_of_both binary.Gt = greater
outcome_of_both binary.Ge = greater_or_equal
outcome_of_both binary.Add = sum
outcome_of_both binary.Sub = difference
outcome_of_both binary.Join = joined
outcome_of_both binary.Mul = product
outcome_of_both binary.Div = quotient
outcome_of_both binary.Rem = remainder

-- `&&`: the second side where the first is true
abbrev pub and_of : Run → Run → Run
and_of a b env units cost = then_do (a env units cost) (λ x units cost. both_by (bool_of x) units cost (unary truth b env))

-- `||`: the second side where the first is false
abbrev pub or_of : Run → Run → Run
or_of a b env units cost = then_do (a env units cost) (λ x units cost. either_by (bool_of x) units cost (unary truth b env))
