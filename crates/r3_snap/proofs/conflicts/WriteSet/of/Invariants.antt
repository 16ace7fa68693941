use Rattle.std.proofs.Common.{◌≡◌, take}
use Rattle.r3_snap.specs.Conflicts.{keys_of}
use Rattle.r3_snap.proofs.conflicts.WriteSet.of.Given as goal

abbrev pub invariant-writes : goal.invariant-writes
invariant-writes l = l.keys.items ≡ keys_of (take l.write-index l.write-items)
