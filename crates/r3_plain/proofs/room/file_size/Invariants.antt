use Rattle.std.proofs.Common.{◌≡◌, ◌+◌, drop}
use Rattle.r3_entry.specs.Bytes.{size, record_sizes}
use Rattle.r3_plain.proofs.room.file_size.Given as goal

abbrev pub invariant-entries : goal.invariant-entries
invariant-entries l = size l.history ≡ l.size + record_sizes (drop l.entry-index l.history)
