use Rattle.sys_queue.specs.Moves.{Enters, Leaves, Changes}
use Rattle.sys_queue.proofs.Changed.{not_both}
use Rattle.sys_queue.proofs.Follows.{follows_keep, follows_move}
use Rattle.sys_queue.proofs.queues.go_on.Goals as goal

pub returns-then-keeps_place-clause-ok : goal.returns-then-keeps_place-clause-ok
returns-then-keeps_place-clause-ok c =
    follows_keep c.args.lines.now.items c.args.id.now c.args.old.now c.args.new.now (c.keeps_place.ensures.0 c.if-keeps_place.true)

pub returns-clause-ok : goal.returns-clause-ok
returns-clause-ok c =
    let came : Changes c.args.new.now.queue (Enters c.args.new.now.status (c.args.new.now.started, c.args.id.now)) c.args.lines.now.items c.enter.new.lines.items = rw (← c.in_ok-came.ensures) c.in_ok-enter.ensures.ok in
    let went : Changes c.args.old.now.queue (Leaves c.args.old.now.status (c.args.old.now.started, c.args.id.now)) c.enter.new.lines.items c.leave.new.lines.items = rw (← c.in_ok-gone.ensures) c.leave.ensures in
    follows_move c.args.lines.now.items c.enter.new.lines.items c.leave.new.lines.items c.args.id.now c.args.old.now c.args.new.now (λ k. not_both _ (c.keeps_place.ensures.1 k) c.if-keeps_place.false) came went
