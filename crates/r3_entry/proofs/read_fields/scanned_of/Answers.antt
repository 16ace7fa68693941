use Rattle.std.proofs.lemmas.Result.{err_from_is_err_and}
use Rattle.r3_entry.specs.Bytes as spell
use Rattle.r3_entry.specs.Limits.{IsSeen, AreSome}
use Rattle.r3_entry.specs.Parts as part
use Rattle.r3_entry.proofs.Parts.{both_misses}
use Rattle.r3_entry.proofs.PartsUnique.{bounds_unique}
use Rattle.r3_entry.proofs.read_fields.scanned_of.Goals as goal

pub returns-in_err-keys : goal.returns-in_err-keys
returns-in_err-keys c =
    let p = err_from_is_err_and c.from_residual-in_err-keys.result c.from_residual-in_err-keys.ensures.1 in
    rw (p.1, p.2) (both_misses part.bounds part.AreBounds (spell.list part.seen) (AreSome IsSeen) bounds_unique c.in_ok-bounds.bounds c.args.r.now.rest c.bounds_of.new.r.rest c.in_err-keys.field-0.0 c.in_ok-bounds.ensures.0 c.in_ok-bounds.ensures.1 c.in_err-keys.ensures)
