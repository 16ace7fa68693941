use Rattle.std.proofs.lemmas.Result.{err_from_is_err_and}
use Rattle.r3_entry.specs.Bytes as spell
use Rattle.r3_entry.specs.Limits.{IsRead, AreSome}
use Rattle.r3_entry.specs.Parts as part
use Rattle.r3_entry.proofs.Parts.{both_misses}
use Rattle.r3_entry.proofs.PartsUnique.{acted_unique}
use Rattle.r3_entry.proofs.decoder.looks_of.Goals as goal

pub returns-in_err-reads : goal.returns-in_err-reads
returns-in_err-reads c =
    let p = err_from_is_err_and c.from_residual-in_err-reads.result c.from_residual-in_err-reads.ensures.1 in
    rw (p.1, p.2) (both_misses part.acted part.IsActed (spell.list spell.read) (AreSome IsRead) acted_unique c.in_ok-acted.acted c.args.r.now.rest c.acted_of.new.r.rest c.in_err-reads.field-0.0 c.in_ok-acted.ensures.0 c.in_ok-acted.ensures.1 c.in_err-reads.ensures)
