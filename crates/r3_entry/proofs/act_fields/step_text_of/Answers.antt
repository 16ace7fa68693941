use Rattle.std.proofs.lemmas.Result.{err_from_is_err_and}
use Rattle.r3_bytes.specs.Spelling.{string}
use Rattle.r3_entry.specs.Limits.{IsSized}
use Rattle.r3_entry.specs.Parts as part
use Rattle.r3_entry.proofs.Parts.{both_misses}
use Rattle.r3_entry.proofs.PartsUnique.{step_unique}
use Rattle.r3_entry.proofs.act_fields.step_text_of.Goals as goal

pub returns-in_err-text : goal.returns-in_err-text
returns-in_err-text c =
    let p = err_from_is_err_and c.from_residual-in_err-text.result c.from_residual-in_err-text.ensures.1 in
    rw (p.1, p.2) (both_misses part.step part.IsStepOf string (IsSized c.args.least c.args.most) step_unique c.in_ok-step.step c.args.r.now.rest c.step_of.new.r.rest c.in_err-text.field-0.0 c.in_ok-step.ensures.0 c.in_ok-step.ensures.1 c.in_err-text.ensures)
