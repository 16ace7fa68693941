use Rattle.std.proofs.Common.{◌≡◌, List, drop}
use Rattle.r3_entry.specs.declared.entry.Entry.{Entry}
use Rattle.r3_store.specs.Holds.{Stands}
use Rattle.sys_queue.specs.Lines.{declared_of}
use Rattle.r3_exec.proofs.Gathering.{IsGathered}
use Rattle.r3_exec.proofs.new.gather.Given as goal

abbrev pub invariant-ids : goal.invariant-ids
invariant-ids l = ((h : List Entry) → Stands l.store h → IsGathered h (drop l.id-index l.ids) l.queues l.pending) × (declared_of l.queues ≡ declared_of l.fn.queues)
