use Rattle.std.proofs.lemmas.Result.{err_from_is_err_and}
use Rattle.r3_entry.proofs.EntryWhole.{looks_misses, writes_misses}
use Rattle.r3_entry.proofs.decoder.entry_of.Goals as goal

pub returns-in_err-looks : goal.returns-in_err-looks
returns-in_err-looks c =
    let p = err_from_is_err_and c.from_residual.result c.from_residual.ensures.1 in
    rw (p.1, p.2) (looks_misses c.args.r.now.rest c.in_err-looks.field-0.0 c.in_err-looks.ensures)

pub returns-in-Err : goal.returns-in-Err
returns-in-Err c =
    writes_misses c.in_ok-looks.looks c.args.r.now.rest c.looks_of.new.r.rest c.in-Err.miss c.in_ok-looks.ensures.0 c.in_ok-looks.ensures.1 c.in-Err.ensures
