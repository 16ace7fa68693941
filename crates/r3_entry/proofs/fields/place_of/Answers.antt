use Rattle.std.proofs.lemmas.Result.{err_from_is_err_and}
use Rattle.r3_bytes.specs.Spelling.{string}
use Rattle.r3_entry.specs.Limits.{IsName, IsRowKey}
use Rattle.r3_entry.proofs.Parts.{both_misses}
use Rattle.r3_entry.proofs.PartsUnique.{name_unique}
use Rattle.r3_entry.proofs.fields.place_of.Goals as goal

pub returns-in_err-key : goal.returns-in_err-key
returns-in_err-key c =
    let p = err_from_is_err_and c.from_residual-in_err-key.result c.from_residual-in_err-key.ensures.1 in
    rw (p.1, p.2) (both_misses string IsName string IsRowKey name_unique c.in_ok-table.table c.args.r.now.rest c.sized_of.new.r.rest c.in_err-key.field-0.0 c.in_ok-table.ensures.0 c.in_ok-table.ensures.1 c.in_err-key.ensures)
