use Rattle.sys_queue.proofs.Changed.{none_past}
use Rattle.sys_queue.proofs.queues.line_at.Goals as goal

pub returns : goal.returns
returns c = none_past c.args.name.now c.args.lines.now c.loop-i.i c.loop-i-test.false c.loop-i.invariant
