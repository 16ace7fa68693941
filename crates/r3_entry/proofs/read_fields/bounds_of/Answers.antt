use Rattle.std.proofs.lemmas.Result.{err_from_is_err_and}
use Rattle.r3_bytes.specs.Spelling.{string}
use Rattle.r3_entry.specs.Limits.{IsBound}
use Rattle.r3_entry.specs.Parts as part
use Rattle.r3_entry.proofs.Parts.{both_misses}
use Rattle.r3_entry.proofs.PartsUnique.{from_unique}
use Rattle.r3_entry.proofs.read_fields.bounds_of.Goals as goal

pub returns-in_err-hi : goal.returns-in_err-hi
returns-in_err-hi c =
    let p = err_from_is_err_and c.from_residual-in_err-hi.result c.from_residual-in_err-hi.ensures.1 in
    rw (p.1, p.2) (both_misses part.place part.IsFrom string IsBound from_unique c.in_ok-from.from c.args.r.now.rest c.from_of.new.r.rest c.in_err-hi.field-0.0 c.in_ok-from.ensures.0 c.in_ok-from.ensures.1 c.in_err-hi.ensures)
