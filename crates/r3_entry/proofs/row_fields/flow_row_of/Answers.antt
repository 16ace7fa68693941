use Rattle.std.proofs.lemmas.Result.{err_from_is_err_and}
use Rattle.r3_entry.proofs.Whole.{flow_found, called_misses, descended_misses}
use Rattle.r3_entry.proofs.row_fields.flow_row_of.Goals as goal

pub returns-in_err-called : goal.returns-in_err-called
returns-in_err-called c =
    let p = err_from_is_err_and c.from_residual-in_err-called.result c.from_residual-in_err-called.ensures.1 in
    rw (p.1, p.2) (called_misses c.in_ok-status.status c.args.r.now.rest c.status_of.new.r.rest c.in_err-called.field-0.0 c.in_ok-status.ensures.1 c.in_err-called.ensures)

pub returns-in-Ok : goal.returns-in-Ok
returns-in-Ok c =
    flow_found c.in_ok-status.status c.in_ok-called.called _ c.args.r.now.rest c.status_of.new.r.rest c.called_of.new.r.rest c.descended_of.new.r.rest c.in_ok-status.ensures.1 c.in_ok-called.ensures.0 c.in_ok-called.ensures.1 c.in-Ok.ensures.0 c.in-Ok.ensures.1

pub returns-in-Err : goal.returns-in-Err
returns-in-Err c = descended_misses c.in_ok-status.status c.in_ok-called.called c.args.r.now.rest c.status_of.new.r.rest c.called_of.new.r.rest c.in-Err.miss c.in_ok-status.ensures.1 c.in_ok-called.ensures.0 c.in_ok-called.ensures.1 c.in-Err.ensures
