use Rattle.std.proofs.Common.{◌≡◌, take}
use Rattle.r3_rows.proofs.copies.copy_keys.Given as goal

abbrev pub invariant-loop-pair : goal.invariant-loop-pair
invariant-loop-pair l = l.copies ≡ take l.pair-index l.keys
