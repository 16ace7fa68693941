use Rattle.std.proofs.Common.{rules, map, Err}
use Rattle.std.proofs.lemmas.Result.{err_from_is_err_and}
use Rattle.fn_tree.specs.Expression.{calls_of}
use Rattle.fn_tree.specs.Control.{block}
use Rattle.fn_tree.specs.Statement.{acted, condition}
use Rattle.fn_walk.specs.Runs.{place_at}
use Rattle.fn_walk.proofs.RunLemmas.{along, turn_broke}
use Rattle.fn_walk.proofs.body.+walk.Goals as goal

pub repeat-returns-in_err-block : goal.repeat-returns-in_err-block
repeat-returns-in_err-block g t c =
    let calls = calls_of c.args.items.now in
    let effects = g.E.Acts.effects c.args.on.now in
    let turn = turn_broke g.E.Acts.question c.loop-left.left (condition effects calls c.args.cond.now) (block (map (acted effects calls) c.args.body.now))
    (place_at c.loop-left.place.names.items c.loop-left.place.state c.loop-left.place.units c.loop-left.steps)
    (place_at c.condition.new.place.names.items c.condition.new.place.state c.condition.new.place.units c.condition.new.steps)
    _ _ (search rules) (search rules) (search rules) c.in_err-block.ensures in
    let whole = along g.E.Acts.question (Err c.in_err-block.field-0.0) _ _ _ c.loop-left.invariant turn in
    let p = err_from_is_err_and c.from_residual-in_err-block.result c.from_residual-in_err-block.ensures.1 in
    rw (p.1, p.2) whole
