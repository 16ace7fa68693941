use Rattle.std.proofs.Common.{refl}
use Rattle.sys_queue.proofs.line.Line.enter.Goals as goal

pub returns-in_ok-insert-in-Enqueued-clause-ok : goal.returns-in_ok-insert-in-Enqueued-clause-ok
returns-in_ok-insert-in-Enqueued-clause-ok c =
    rw (← c.self.view_is, c.in-Enqueued.is) (record { name = refl; bound = refl; running = refl; waiting = λ q. c.in_ok-insert-in-Enqueued.ensures.updates.0 q })
