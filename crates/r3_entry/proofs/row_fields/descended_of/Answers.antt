use Rattle.std.proofs.lemmas.Result.{err_from_is_err_and}
use Rattle.r3_bytes.specs.Spelling.{string}
use Rattle.r3_entry.specs.Bytes as spell
use Rattle.r3_entry.specs.Limits.{IsId, IfThere}
use Rattle.r3_entry.specs.Parts as part
use Rattle.r3_entry.proofs.Parts.{both_misses}
use Rattle.r3_entry.proofs.PartsUnique.{tried_unique}
use Rattle.r3_entry.proofs.row_fields.descended_of.Goals as goal

pub returns-in_err-parent : goal.returns-in_err-parent
returns-in_err-parent c =
    let p = err_from_is_err_and c.from_residual-in_err-parent.result c.from_residual-in_err-parent.ensures.1 in
    rw (p.1, p.2) (both_misses part.tried part.IsTried (spell.option string) (IfThere IsId) tried_unique c.in_ok-tried.tried c.args.r.now.rest c.tried_of.new.r.rest c.in_err-parent.field-0.0 c.in_ok-tried.ensures.0 c.in_ok-tried.ensures.1 c.in_err-parent.ensures)
