use Rattle.std.proofs.lemmas.Result.{err_from_is_err_and}
use Rattle.r3_bytes.specs.Spelling.{number}
use Rattle.r3_entry.specs.Limits.{IsNumber}
use Rattle.r3_entry.specs.Parts as part
use Rattle.r3_entry.proofs.Parts.{both_misses}
use Rattle.r3_entry.proofs.PartsUnique.{place_unique}
use Rattle.r3_entry.proofs.read_fields.looked_of.Goals as goal

pub returns-in_err-version : goal.returns-in_err-version
returns-in_err-version c =
    let p = err_from_is_err_and c.from_residual-in_err-version.result c.from_residual-in_err-version.ensures.1 in
    rw (p.1, p.2) (both_misses part.place part.IsPlace number IsNumber place_unique c.in_ok-place.place c.args.r.now.rest c.place_of.new.r.rest c.in_err-version.field-0.0 c.in_ok-place.ensures.0 c.in_ok-place.ensures.1 c.in_err-version.ensures)
