use Rattle.std.proofs.lemmas.Result.{err_from_is_err_and}
use Rattle.r3_bytes.specs.Spelling.{number}
use Rattle.r3_entry.specs.Bytes as spell
use Rattle.r3_entry.specs.Limits.{IsNumber, IsAct}
use Rattle.r3_entry.proofs.Parts.{both_misses}
use Rattle.r3_entry.proofs.EntryUnique.{act_unique}
use Rattle.r3_entry.proofs.decoder.acted_of.Goals as goal

pub returns-in_err-snap : goal.returns-in_err-snap
returns-in_err-snap c =
    let p = err_from_is_err_and c.from_residual-in_err-snap.result c.from_residual-in_err-snap.ensures.1 in
    rw (p.1, p.2) (both_misses spell.act IsAct number IsNumber act_unique c.in_ok-act.act c.args.r.now.rest c.act_of.new.r.rest c.in_err-snap.field-0.0 c.in_ok-act.ensures.0 c.in_ok-act.ensures.1 c.in_err-snap.ensures)
