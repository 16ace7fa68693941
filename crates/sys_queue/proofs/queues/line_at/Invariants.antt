use Rattle.sys_queue.specs.Found.{IsPast}
use Rattle.sys_queue.proofs.queues.line_at.Given as goal

abbrev pub invariant-loop-i : goal.invariant-loop-i
invariant-loop-i l = IsPast l.name l.lines l.i
