use Rattle.r3_entry.specs.Limits.{IsWrite}
use Rattle.r3_entry.specs.Parts as part
use Rattle.r3_entry.proofs.Parts.{HasRead}
use Rattle.r3_entry.proofs.decoder.pairs_of.Given as goal

abbrev pub invariant-loop : goal.invariant-loop
invariant-loop l = HasRead part.write IsWrite l.counter l.pairs.items l.initial.r.rest l.r.rest
