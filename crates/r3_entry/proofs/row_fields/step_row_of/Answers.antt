use Rattle.r3_entry.proofs.Whole.{step_row_misses}
use Rattle.r3_entry.proofs.row_fields.step_row_of.Goals as goal

pub returns-in-Err : goal.returns-in-Err
returns-in-Err c = step_row_misses c.args.r.now.rest c.in-Err.miss c.in-Err.ensures
