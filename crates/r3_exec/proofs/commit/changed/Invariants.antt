use Rattle.std.proofs.Common.{◌≡◌, drop}
use Rattle.r3_exec.specs.Placed.{changed}
use Rattle.r3_exec.proofs.commit.changed.Given as goal

abbrev pub invariant-writes : goal.invariant-writes
invariant-writes l = changed l.writes ≡ changed (drop l.write-index l.writes)
