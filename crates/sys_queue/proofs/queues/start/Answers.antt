use Rattle.sys_queue.specs.Moves.{Enters, Changes}
use Rattle.sys_queue.proofs.Changed.{on_ok}
use Rattle.sys_queue.proofs.Follows.{follows_start}
use Rattle.sys_queue.proofs.queues.start.Goals as goal

pub returns-clause-ok : goal.returns-clause-ok
returns-clause-ok c =
    on_ok {A = Changes c.args.new.now.queue (Enters c.args.new.now.status c.in_ok-place.place) c.args.lines.now.items c.enter.new.lines.items} c.enter.result
    (λ moved. follows_start c.args.lines.now.items c.enter.new.lines.items c.args.id.now c.args.new.now (rw (← c.in_ok-place.ensures) moved))
    c.enter.ensures.ok
