use Rattle.r3_entry.proofs.Whole.{range_misses}
use Rattle.r3_entry.proofs.read_fields.range_of.Goals as goal

pub returns-in-Err : goal.returns-in-Err
returns-in-Err c = range_misses c.args.r.now.rest c.in-Err.miss c.in-Err.ensures
