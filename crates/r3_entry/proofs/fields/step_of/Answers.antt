use Rattle.std.proofs.lemmas.Result.{err_from_is_err_and}
use Rattle.r3_bytes.specs.Spelling.{string, number}
use Rattle.r3_entry.specs.Limits.{IsId}
use Rattle.r3_entry.specs.Parts as part
use Rattle.r3_entry.proofs.Parts.{both_misses}
use Rattle.r3_entry.proofs.PartsUnique.{id_unique}
use Rattle.r3_entry.proofs.fields.step_of.Goals as goal

pub returns-in_err-n : goal.returns-in_err-n
returns-in_err-n c =
    let p = err_from_is_err_and c.from_residual-in_err-n.result c.from_residual-in_err-n.ensures.1 in
    rw (p.1, p.2) (both_misses string IsId number part.IsStepNumber id_unique c.in_ok-id.id c.args.r.now.rest c.sized_of.new.r.rest c.in_err-n.field-0.0 c.in_ok-id.ensures.0 c.in_ok-id.ensures.1 c.in_err-n.ensures)
