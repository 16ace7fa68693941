-- Each measure is three times what may be evaluated, with the rank of the function.
use Rattle.std.proofs.Common.{◌≡◌, ◌+◌, ◌*◌, drop}
use Rattle.std.specs.Prelude.{max, map, []}
use Rattle.fn_tree.specs.declared.expr.Expr.{size-Expr}
use Rattle.fn_tree.specs.Expression.{evaluated, calls_of, values_onto}
use Rattle.fn_eval.specs.Scope.{scope_size}
use Rattle.fn_eval.proofs.evaluation.+eval.Given as goal

abbrev pub decreases-evaluate : goal.decreases-evaluate
decreases-evaluate g l = 3 * (scope_size l.items.now + size-Expr l.e.now) + 2

abbrev pub decreases-both : goal.decreases-both
decreases-both g l = 3 * (scope_size l.items.now + max (size-Expr l.a.now) (size-Expr l.b.now)) + 3

abbrev pub decreases-one : goal.decreases-one
decreases-one g l = 3 * (scope_size l.items.now + size-Expr l.a.now) + 3

abbrev pub decreases-two : goal.decreases-two
decreases-two g l = 3 * (scope_size l.items.now + max (size-Expr l.a.now) (size-Expr l.b.now)) + 4

abbrev pub decreases-values : goal.decreases-values
decreases-values g l = 3 * (scope_size l.items.now + goal.size-values g l) + 3

abbrev pub decreases-call : goal.decreases-call
decreases-call g l = 3 * scope_size l.items.now + 1

abbrev pub invariant-values-loop-e : goal.invariant-values-loop-e
invariant-values-loop-e g l = values_onto l.done.items (map (evaluated (calls_of l.items)) (drop l.e-index l.es)) l.env l.left l.steps ≡ values_onto [] (map (evaluated (calls_of l.items)) l.es) l.env l.units l.fn.steps

abbrev pub decreases-conjunction : goal.decreases-conjunction
decreases-conjunction g l = 3 * (scope_size l.items.now + max (size-Expr l.a.now) (size-Expr l.b.now)) + 4

abbrev pub decreases-disjunction : goal.decreases-disjunction
decreases-disjunction g l = 3 * (scope_size l.items.now + max (size-Expr l.a.now) (size-Expr l.b.now)) + 4
