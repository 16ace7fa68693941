use Rattle.std.proofs.lemmas.Result.{err_from_is_err_and}
use Rattle.r3_bytes.specs.Spelling.{number}
use Rattle.r3_entry.specs.Parse.{IsBetween}
use Rattle.r3_entry.specs.Parts as part
use Rattle.r3_entry.proofs.Parts.{both_misses}
use Rattle.r3_entry.proofs.PartsUnique.{queued_unique}
use Rattle.r3_entry.proofs.row_fields.tried_of.Goals as goal

pub returns-in_err-attempts : goal.returns-in_err-attempts
returns-in_err-attempts c =
    let p = err_from_is_err_and c.from_residual-in_err-attempts.result c.from_residual-in_err-attempts.ensures.1 in
    rw (p.1, p.2) (both_misses part.queued part.IsQueued number (IsBetween 0 51) queued_unique c.in_ok-queued.queued c.args.r.now.rest c.queued_of.new.r.rest c.in_err-attempts.field-0.0 c.in_ok-queued.ensures.0 c.in_ok-queued.ensures.1 c.in_err-attempts.ensures)
