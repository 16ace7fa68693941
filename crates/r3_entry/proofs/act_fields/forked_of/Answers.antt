use Rattle.std.proofs.lemmas.Result.{err_from_is_err_and}
use Rattle.r3_bytes.specs.Spelling.{number}
use Rattle.r3_entry.specs.Parse.{IsBetween}
use Rattle.r3_entry.specs.Parts as part
use Rattle.r3_entry.proofs.Parts.{both_misses}
use Rattle.r3_entry.proofs.PartsUnique.{fork_unique}
use Rattle.r3_entry.proofs.act_fields.forked_of.Goals as goal

pub returns-in_err-below : goal.returns-in_err-below
returns-in_err-below c =
    let p = err_from_is_err_and c.from_residual-in_err-below.result c.from_residual-in_err-below.ensures.1 in
    rw (p.1, p.2) (both_misses part.place part.IsForkOf number (IsBetween 0 1000) fork_unique c.in_ok-ids.ids c.args.r.now.rest c.fork_ids_of.new.r.rest c.in_err-below.field-0.0 c.in_ok-ids.ensures.0 c.in_ok-ids.ensures.1 c.in_err-below.ensures)
