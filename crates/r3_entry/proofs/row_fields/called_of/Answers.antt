use Rattle.std.proofs.lemmas.Result.{err_from_is_err_and}
use Rattle.r3_entry.specs.Bytes as spell
use Rattle.r3_entry.specs.Limits.{IsOutcome, IfThere}
use Rattle.r3_entry.specs.Parts as part
use Rattle.r3_entry.proofs.Parts.{both_misses}
use Rattle.r3_entry.proofs.PartsUnique.{call_unique}
use Rattle.r3_entry.proofs.row_fields.called_of.Goals as goal

pub returns-in_err-outcome : goal.returns-in_err-outcome
returns-in_err-outcome c =
    let p = err_from_is_err_and c.from_residual-in_err-outcome.result c.from_residual-in_err-outcome.ensures.1 in
    rw (p.1, p.2) (both_misses part.call part.IsCall (spell.option spell.outcome) (IfThere IsOutcome) call_unique c.in_ok-call.call c.args.r.now.rest c.call_of.new.r.rest c.in_err-outcome.field-0.0 c.in_ok-call.ensures.0 c.in_ok-call.ensures.1 c.in_err-outcome.ensures)
