use Rattle.std.proofs.Common.{lit<}
use Rattle.std.proofs.lemmas.Result.{err_from_is_err_and}
use Rattle.r3_bytes.specs.Spelling.{string, number}
use Rattle.r3_entry.specs.Limits.{IsRowKey, IsNumber}
use Rattle.r3_entry.proofs.EntryUnique.{sized_unique}
use Rattle.r3_entry.proofs.Parts.{both_misses}
use Rattle.r3_entry.proofs.read_fields.seen_of.Goals as goal

pub returns-in_err-version : goal.returns-in_err-version
returns-in_err-version c =
    let p = err_from_is_err_and c.from_residual-in_err-version.result c.from_residual-in_err-version.ensures.1 in
    rw (p.1, p.2) (both_misses string IsRowKey number IsNumber (sized_unique 1 256 (lit< tt)) c.in_ok-key.key c.args.r.now.rest c.sized_of.new.r.rest c.in_err-version.field-0.0 c.in_ok-key.ensures.0 c.in_ok-key.ensures.1 c.in_err-version.ensures)
