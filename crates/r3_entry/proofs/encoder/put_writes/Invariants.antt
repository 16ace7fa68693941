use Rattle.std.proofs.Common.{◌≡◌, ◌++◌, take}
use Rattle.std.specs.List.{flat_map}
use Rattle.r3_entry.specs.Bytes as spell
use Rattle.r3_entry.proofs.encoder.put_writes.Given as goal

abbrev pub invariant-loop-pair : goal.invariant-loop-pair
invariant-loop-pair l = l.w ≡ l.initial.w ++ flat_map (λ p. spell.key p.0 ++ spell.option spell.cell p.1) (take l.pair-index l.writes)
