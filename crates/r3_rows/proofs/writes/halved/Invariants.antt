use Rattle.std.proofs.Common.{◌≤◌, ◌-◌, length}
use Rattle.r3_rows.proofs.Pairs.{HasPassed, IsAhead}
use Rattle.r3_rows.proofs.writes.halved.Given as goal

abbrev pub decreases-loop-from : goal.decreases-loop-from
decreases-loop-from l = l.to - l.from

abbrev pub invariant-loop-from : goal.invariant-loop-from
invariant-loop-from l =
    record { order : l.from ≤ l.to; within : l.to ≤ length l.pairs; passed : HasPassed l.key l.pairs l.from; ahead : IsAhead l.key l.pairs l.to }
