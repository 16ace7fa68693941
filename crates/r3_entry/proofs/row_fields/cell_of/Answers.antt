use Rattle.std.proofs.Common.{◌≡◌, ◌∷◌}
use Rattle.std.proofs.lemmas.Result.{err_from_is_err_and}
use Rattle.r3_entry.proofs.CellsWhole.{flow_cell_misses}
use Rattle.r3_entry.proofs.row_fields.cell_of.Goals as goal

pub returns-in_err-flow_row_of-in-1 : goal.returns-in_err-flow_row_of-in-1
returns-in_err-flow_row_of-in-1 c =
    let p = err_from_is_err_and c.from_residual-in_err-flow_row_of-in-1.result c.from_residual-in_err-flow_row_of-in-1.ensures.1 in
    let b : c.args.r.now.rest ≡ 1 ∷ c.byte_of.new.r.rest = rw c.in-1.is at c.in_ok-byte_of.ensures.1 in
    rw (p.1, p.2) (flow_cell_misses c.args.r.now.rest c.byte_of.new.r.rest c.in_err-flow_row_of-in-1.field-0.0 b c.in_err-flow_row_of-in-1.ensures)
