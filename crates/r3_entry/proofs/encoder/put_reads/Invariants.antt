use Rattle.std.proofs.Common.{◌≡◌, ◌++◌, take}
use Rattle.std.specs.List.{flat_map}
use Rattle.r3_entry.specs.Bytes as spell
use Rattle.r3_entry.proofs.encoder.put_reads.Given as goal

abbrev pub invariant-loop-read : goal.invariant-loop-read
invariant-loop-read l = l.w ≡ l.initial.w ++ flat_map spell.read (take l.read-index l.reads)
