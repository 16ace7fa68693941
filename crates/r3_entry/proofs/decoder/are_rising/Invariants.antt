use Rattle.std.proofs.Common.{◌≤◌, length, drop}
use Rattle.std.specs.Prelude.{IsTrue}
use Rattle.std.specs.FinMap.Entries.{is_sorted}
use Rattle.r3_rows.specs.Keys.{key_cmp}
use Rattle.r3_entry.proofs.decoder.are_rising.Given as goal

abbrev pub invariant-pairs : goal.invariant-pairs
invariant-pairs l = record { within : l.from ≤ length l.fn.pairs; rising : IsTrue (is_sorted key_cmp (drop l.from l.fn.pairs)) }

abbrev pub decreases-pairs : goal.decreases-pairs
decreases-pairs l = l.from
