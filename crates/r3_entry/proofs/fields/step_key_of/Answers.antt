use Rattle.r3_entry.proofs.Whole.{step_misses}
use Rattle.r3_entry.proofs.fields.step_key_of.Goals as goal

pub returns-in-Err : goal.returns-in-Err
returns-in-Err c = step_misses c.args.r.now.rest c.in-Err.miss c.in-Err.ensures
