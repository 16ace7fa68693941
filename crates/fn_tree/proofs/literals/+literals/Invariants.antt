-- Each measure is three times the size of what may be walked over, with the rank of the function.
use Rattle.std.proofs.Common.{◌≡◌, ◌+◌, ◌*◌, drop}
use Rattle.std.specs.Prelude.{max}
use Rattle.fn_tree.specs.declared.expr.Expr.{size-Expr}
use Rattle.fn_tree.specs.Literals.{exprs_fit}
use Rattle.fn_tree.proofs.literals.+literals.Given as goal

abbrev pub decreases-expression : goal.decreases-expression
decreases-expression l = 3 * size-Expr l.e.now + 2

abbrev pub decreases-both : goal.decreases-both
decreases-both l = 3 * max (size-Expr l.a.now) (size-Expr l.b.now) + 3

abbrev pub decreases-expressions : goal.decreases-expressions
decreases-expressions l = 3 * goal.size-expressions l + 3

abbrev pub invariant-expressions-loop-e : goal.invariant-expressions-loop-e
invariant-expressions-loop-e l = exprs_fit (drop l.e-index l.es) ≡ exprs_fit l.es
