use Rattle.std.proofs.Common.{refl}
use Rattle.sys_queue.proofs.line.Line.leave.Goals as goal

pub returns-in-Enqueued : goal.returns-in-Enqueued
returns-in-Enqueued c =
    rw (← c.self.view_is, c.in-Enqueued.is) (record { name = refl; bound = refl; running = refl; waiting = λ q. c.remove.ensures.updates.0 q })
