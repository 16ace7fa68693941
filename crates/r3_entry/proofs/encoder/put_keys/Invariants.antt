use Rattle.std.proofs.Common.{◌≡◌, ◌++◌, take}
use Rattle.std.specs.List.{flat_map}
use Rattle.r3_bytes.specs.Spelling.{string, number}
use Rattle.r3_entry.proofs.encoder.put_keys.Given as goal

abbrev pub invariant-loop-pair : goal.invariant-loop-pair
invariant-loop-pair l = l.w ≡ l.initial.w ++ flat_map (λ p. string p.0 ++ number p.1) (take l.pair-index l.keys)
