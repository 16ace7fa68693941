use Rattle.std.proofs.Common.{◌≡◌, take}
use Rattle.r3_snap.specs.Conflicts.{conflict_past}
use Rattle.r3_snap.proofs.conflicts.conflict.Given as goal

abbrev pub invariant-keys : goal.invariant-keys
invariant-keys l = l.least ≡ conflict_past l.snap (take l.key-index l.key-items) l.chains.versions
