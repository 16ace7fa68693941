-- Each measure is four times the size of what may be spelled, with the rank of the function.
use Rattle.std.proofs.Common.{◌≡◌, ◌+◌, ◌*◌, ◌++◌, drop}
use Rattle.std.specs.Prelude.{map, max}
use denote.Param.Weighed.{most}
use Rattle.fn_tree.specs.declared.stmt.Stmt.{size-Stmt}
use Rattle.fn_spell.specs.Pieces.{spaced}
use Rattle.fn_spell.specs.Spelling.{stmt_pieces, closed}
use Rattle.fn_spell.proofs.statements.+stmt.Given as goal

abbrev pub decreases-stmt : goal.decreases-stmt
decreases-stmt l = 4 * size-Stmt l.s.now

abbrev pub decreases-headed : goal.decreases-headed
decreases-headed l = 4 * most (λ x. size-Stmt x) l.body.now + 2

abbrev pub decreases-if_else : goal.decreases-if_else
decreases-if_else l = 4 * max (most (λ x. size-Stmt x) l.yes.now) (most (λ x. size-Stmt x) l.no.now) + 2

abbrev pub decreases-each : goal.decreases-each
decreases-each l = 4 * most (λ x. size-Stmt x) l.body.now + 2

abbrev pub decreases-attempt : goal.decreases-attempt
decreases-attempt l = 4 * max (most (λ x. size-Stmt x) l.body.now) (most (λ x. size-Stmt x) l.handler.now) + 2

abbrev pub decreases-block : goal.decreases-block
decreases-block l = 4 * most (λ x. size-Stmt x) l.body.now + 1

abbrev pub invariant-block-loop-s : goal.invariant-block-loop-s
invariant-block-loop-s l =
    l.out.items ++ spaced (closed (map stmt_pieces (drop l.s-index l.body)))
    ≡ l.initial.out.items ++ spaced (closed (map stmt_pieces l.body))
