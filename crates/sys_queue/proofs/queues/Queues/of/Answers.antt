use Rattle.std.proofs.Common.{take}
use Rattle.sys_queue.proofs.Made.{added, new_index}
use Rattle.sys_queue.proofs.queues.Queues.of.Goals as goal

pub loop-item-preserved : goal.loop-item-preserved
loop-item-preserved c =
    added c.deref-item-items.result.now c.loop-item.item-index c.item-item.result c.loop-item.lines.items c.add_queue.new.lines.items c.loop-item-test.true c.item-item.is c.loop-item.invariant c.in_ok-add_queue.ensures

pub returns-clause-empty : goal.returns-clause-empty
returns-clause-empty c = rw c.loop-item.invariant (new_index (take c.loop-item.item-index c.deref-item-items.result.now))
