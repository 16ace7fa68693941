use Rattle.std.proofs.Common.{◌≡◌, ℕ, ◌≤◌, List, length}
use Rattle.fn_tree.specs.Expression.{calls_of}
use Rattle.r3_value.specs.declared.value.Val.{Val}
use Rattle.fn_eval.specs.Scope.{scope_size}
use Rattle.fn_eval.proofs.helpers.find.Given as goal

abbrev pub invariant-loop-last : goal.invariant-loop-last
invariant-loop-last l = ((vs : List Val) (units cost : ℕ) → length vs ≡ l.count → calls_of l.items l.name vs units cost ≡ calls_of l.rest l.name vs units cost) × (scope_size l.rest ≤ scope_size l.items)

abbrev pub decreases-loop-last : goal.decreases-loop-last
decreases-loop-last l = length l.rest
