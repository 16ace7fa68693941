use Rattle.r3_entry.specs.Bytes as spell
use Rattle.r3_entry.specs.Limits.{IsRead}
use Rattle.r3_entry.proofs.Parts.{HasRead}
use Rattle.r3_entry.proofs.decoder.reads_of.Given as goal

abbrev pub invariant-loop : goal.invariant-loop
invariant-loop l = HasRead spell.read IsRead l.counter l.reads l.initial.r.rest l.r.rest
