use Rattle.std.proofs.lemmas.Result.{err_from_is_err_and}
use Rattle.r3_bytes.specs.Spelling.{string}
use Rattle.r3_entry.specs.Bytes as spell
use Rattle.r3_entry.specs.Limits.{IsName, IsArgs}
use Rattle.r3_entry.proofs.Parts.{both_misses}
use Rattle.r3_entry.proofs.PartsUnique.{name_unique}
use Rattle.r3_entry.proofs.row_fields.call_of.Goals as goal

pub returns-in_err-args : goal.returns-in_err-args
returns-in_err-args c =
    let p = err_from_is_err_and c.from_residual-in_err-args.result c.from_residual-in_err-args.ensures.1 in
    rw (p.1, p.2) (both_misses string IsName spell.val IsArgs name_unique c.in_ok-function.function c.args.r.now.rest c.sized_of.new.r.rest c.in_err-args.field-0.0 c.in_ok-function.ensures.0 c.in_ok-function.ensures.1 c.in_err-args.ensures)
