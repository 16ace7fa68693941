-- Each measure is four times the size of what may run, with the rank of the function.
use Rattle.std.proofs.Common.{◌≡◌, ◌+◌, ◌*◌, map, drop}
use Rattle.std.specs.Prelude.{max}
use denote.Param.Weighed.{most}
use Rattle.fn_tree.specs.declared.stmt.Stmt.{size-Stmt}
use Rattle.fn_tree.specs.Expression.{calls_of}
use Rattle.fn_tree.specs.Control.{in_order, turns, for_each, block}
use Rattle.fn_tree.specs.Statement.{acted, condition}
use Rattle.fn_walk.specs.Runs.{place_at}
use Rattle.fn_walk.proofs.body.+walk.Given as goal

abbrev pub decreases-act : goal.decreases-act
decreases-act g l = 4 * size-Stmt l.s.now

abbrev pub decreases-walk : goal.decreases-walk
decreases-walk g l = 4 * most (λ x. size-Stmt x) l.body.now + 1

abbrev pub decreases-block : goal.decreases-block
decreases-block g l = 4 * most (λ x. size-Stmt x) l.body.now + 2

abbrev pub decreases-block_with : goal.decreases-block_with
decreases-block_with g l = 4 * most (λ x. size-Stmt x) l.body.now + 2

abbrev pub decreases-branch : goal.decreases-branch
decreases-branch g l = 4 * most (λ x. size-Stmt x) l.yes.now + 3

abbrev pub decreases-branches : goal.decreases-branches
decreases-branches g l = 4 * max (most (λ x. size-Stmt x) l.yes.now) (most (λ x. size-Stmt x) l.no.now) + 3

abbrev pub decreases-repeat : goal.decreases-repeat
decreases-repeat g l = 4 * most (λ x. size-Stmt x) l.body.now + 3

abbrev pub decreases-each : goal.decreases-each
decreases-each g l = 4 * most (λ x. size-Stmt x) l.body.now + 3

abbrev pub decreases-attempt : goal.decreases-attempt
decreases-attempt g l = 4 * max (most (λ x. size-Stmt x) l.body.now) (most (λ x. size-Stmt x) l.handler.now) + 3

abbrev pub invariant-walk-loop-s : goal.invariant-walk-loop-s
invariant-walk-loop-s g l =
    in_order (map (acted (g.E.Acts.effects l.on) (calls_of l.items)) l.body) (place_at l.fn.place.names.items l.fn.place.state l.fn.place.units l.fn.steps)
    ≡ in_order (map (acted (g.E.Acts.effects l.on) (calls_of l.items)) (drop l.s-index l.body)) (place_at l.place.names.items l.place.state l.place.units l.steps)

abbrev pub invariant-each-loop-v : goal.invariant-each-loop-v
invariant-each-loop-v g l =
    for_each l.v-items l.name (map (acted (g.E.Acts.effects l.on) (calls_of l.items)) l.body) (place_at l.initial.place.names.items l.initial.place.state l.initial.place.units l.initial.steps)
    ≡ for_each (drop l.v-index l.v-items) l.name (map (acted (g.E.Acts.effects l.on) (calls_of l.items)) l.body) (place_at l.place.names.items l.place.state l.place.units l.steps)

abbrev pub invariant-repeat-loop-left : goal.invariant-repeat-loop-left
invariant-repeat-loop-left g l =
    turns (l.fn.place.units + 1) (condition (g.E.Acts.effects l.on) (calls_of l.items) l.cond) (block (map (acted (g.E.Acts.effects l.on) (calls_of l.items)) l.body)) (place_at l.fn.place.names.items l.fn.place.state l.fn.place.units l.fn.steps)
    ≡ turns l.left (condition (g.E.Acts.effects l.on) (calls_of l.items) l.cond) (block (map (acted (g.E.Acts.effects l.on) (calls_of l.items)) l.body)) (place_at l.place.names.items l.place.state l.place.units l.steps)

abbrev pub decreases-repeat-loop-left : goal.decreases-repeat-loop-left
decreases-repeat-loop-left g l = l.left
