use Rattle.r3_entry.specs.Limits.{IsSeen}
use Rattle.r3_entry.specs.Parts as part
use Rattle.r3_entry.proofs.Parts.{HasRead}
use Rattle.r3_entry.proofs.read_fields.keys_of.Given as goal

abbrev pub invariant-loop : goal.invariant-loop
invariant-loop l = HasRead part.seen IsSeen l.counter l.keys l.initial.r.rest l.r.rest
