use Rattle.std.proofs.lemmas.Result.{err_from_is_err_and}
use Rattle.r3_bytes.specs.Spelling.{number, string}
use Rattle.r3_entry.specs.Bytes as spell
use Rattle.r3_entry.specs.Limits.{IsName, IfThere}
use Rattle.r3_entry.specs.Parse.{IsBetween}
use Rattle.r3_entry.proofs.Parts.{both_misses}
use Rattle.r3_entry.proofs.PartsUnique.{queue_unique}
use Rattle.r3_entry.proofs.row_fields.queued_of.Goals as goal

pub returns-in_err-started : goal.returns-in_err-started
returns-in_err-started c =
    let p = err_from_is_err_and c.from_residual-in_err-started.result c.from_residual-in_err-started.ensures.1 in
    rw (p.1, p.2) (both_misses (spell.option string) (IfThere IsName) number (IsBetween 1 1000000) queue_unique c.in_ok-queue.queue c.args.r.now.rest c.sized_if_there.new.r.rest c.in_err-started.field-0.0 c.in_ok-queue.ensures.0 c.in_ok-queue.ensures.1 c.in_err-started.ensures)
