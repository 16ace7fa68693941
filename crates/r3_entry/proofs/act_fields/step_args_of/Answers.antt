use Rattle.std.proofs.lemmas.Result.{err_from_is_err_and}
use Rattle.r3_entry.specs.Bytes as spell
use Rattle.r3_entry.specs.Limits.{IsArgs}
use Rattle.r3_entry.specs.Parts as part
use Rattle.r3_entry.proofs.Parts.{both_misses}
use Rattle.r3_entry.proofs.PartsUnique.{step_unique}
use Rattle.r3_entry.proofs.act_fields.step_args_of.Goals as goal

pub returns-in_err-args : goal.returns-in_err-args
returns-in_err-args c =
    let p = err_from_is_err_and c.from_residual-in_err-args.result c.from_residual-in_err-args.ensures.1 in
    rw (p.1, p.2) (both_misses part.step part.IsStepOf spell.val IsArgs step_unique c.in_ok-step.step c.args.r.now.rest c.step_of.new.r.rest c.in_err-args.field-0.0 c.in_ok-step.ensures.0 c.in_ok-step.ensures.1 c.in_err-args.ensures)
