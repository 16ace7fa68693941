-- Each measure is four times the size of what may be spelled, with the rank of the function.
use Rattle.std.proofs.Common.{◌≡◌, ◌+◌, ◌*◌, ◌++◌, drop, true}
use Rattle.std.specs.Prelude.{map, max}
use denote.Param.Weighed.{most}
use Rattle.fn_tree.specs.declared.expr.Expr.{size-Expr}
use Rattle.fn_spell.specs.Pieces.{spaced}
use Rattle.fn_spell.specs.Spelling.{expr_pieces, separated}
use Rattle.fn_spell.proofs.expressions.+expr.Given as goal

abbrev pub decreases-expr : goal.decreases-expr
decreases-expr l = 4 * size-Expr l.e.now

abbrev pub decreases-one : goal.decreases-one
decreases-one l = 4 * size-Expr l.a.now + 1

abbrev pub decreases-apply : goal.decreases-apply
decreases-apply l = 4 * size-Expr l.a.now + 1

abbrev pub decreases-two : goal.decreases-two
decreases-two l = 4 * max (size-Expr l.a.now) (size-Expr l.b.now) + 1

abbrev pub decreases-index : goal.decreases-index
decreases-index l = 4 * max (size-Expr l.a.now) (size-Expr l.b.now) + 1

abbrev pub decreases-helper : goal.decreases-helper
decreases-helper l = 4 * most (λ x. size-Expr x) l.args.now + 2

abbrev pub decreases-list : goal.decreases-list
decreases-list l = 4 * most (λ x. size-Expr x) l.es.now + 2

abbrev pub decreases-exprs : goal.decreases-exprs
decreases-exprs l = 4 * most (λ x. size-Expr x) l.es.now + 1

abbrev pub invariant-exprs-loop-e : goal.invariant-exprs-loop-e
invariant-exprs-loop-e l =
    l.out.items ++ spaced (separated l.first l.close (map expr_pieces (drop l.e-index l.es)))
    ≡ l.fn.out.items ++ spaced (separated true l.close (map expr_pieces l.es))
