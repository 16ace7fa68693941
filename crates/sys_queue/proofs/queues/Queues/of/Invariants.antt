use Rattle.std.proofs.Common.{◌≡◌, take}
use Rattle.sys_queue.specs.Lines.{new_lines}
use Rattle.sys_queue.proofs.queues.Queues.of.Given as goal

abbrev pub invariant-loop-item : goal.invariant-loop-item
invariant-loop-item l = l.lines.items ≡ new_lines (take l.item-index l.item-items)
