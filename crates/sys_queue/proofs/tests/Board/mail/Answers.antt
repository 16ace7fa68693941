use Rattle.sys_queue.proofs.BoardLemmas.{mail_is_declared}
use Rattle.sys_queue.proofs.tests.Board.mail.Goals as goal

pub next-requires : goal.next-requires
next-requires c = mail_is_declared c.self.inside.queues c.self.invariant
