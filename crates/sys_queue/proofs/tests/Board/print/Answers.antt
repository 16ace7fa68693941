use Rattle.sys_queue.proofs.BoardLemmas.{print_is_declared}
use Rattle.sys_queue.proofs.tests.Board.print.Goals as goal

pub next-requires : goal.next-requires
next-requires c = print_is_declared c.self.inside.queues c.self.invariant
