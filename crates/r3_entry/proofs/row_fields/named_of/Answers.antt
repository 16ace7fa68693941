use Rattle.std.proofs.lemmas.Result.{err_from_is_err_and}
use Rattle.r3_bytes.specs.Spelling.{string}
use Rattle.r3_entry.specs.Limits.{IsName}
use Rattle.r3_entry.specs.Parts as part
use Rattle.r3_entry.proofs.Parts.{both_misses}
use Rattle.r3_entry.proofs.PartsUnique.{name_unique}
use Rattle.r3_entry.proofs.row_fields.named_of.Goals as goal

pub returns-in_err-kind : goal.returns-in_err-kind
returns-in_err-kind c =
    let p = err_from_is_err_and c.from_residual-in_err-kind.result c.from_residual-in_err-kind.ensures.1 in
    rw (p.1, p.2) (both_misses string IsName part.kind part.IsAny name_unique c.in_ok-name.name c.args.r.now.rest c.sized_of.new.r.rest c.in_err-kind.field-0.0 c.in_ok-name.ensures.0 c.in_ok-name.ensures.1 c.in_err-kind.ensures)
