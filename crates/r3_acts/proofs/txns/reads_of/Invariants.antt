use Rattle.std.proofs.Common.{◌≡◌, ◌++◌, map, length}
use Rattle.std.specs.Prelude.{reverse}
use Rattle.r3_model.specs.Acts.{read_of}
use Rattle.r3_acts.proofs.txns.reads_of.Given as goal

abbrev pub invariant-looks : goal.invariant-looks
invariant-looks l = map read_of l.initial.looks ≡ map read_of l.looks ++ reverse l.reads.items

abbrev pub decreases-looks : goal.decreases-looks
decreases-looks l = length l.looks
