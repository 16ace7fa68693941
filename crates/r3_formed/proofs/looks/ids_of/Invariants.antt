use Rattle.std.proofs.Common.{◌≡◌, take, map}
use Rattle.r3_formed.proofs.looks.ids_of.Given as goal

abbrev pub invariant-names : goal.invariant-names
invariant-names l = l.ids.items ≡ map (λ p. p.0) (take l.seen-index l.names)
