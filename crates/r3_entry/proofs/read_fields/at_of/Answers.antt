use Rattle.r3_entry.proofs.Whole.{at_misses}
use Rattle.r3_entry.proofs.read_fields.at_of.Goals as goal

pub returns-in-Err : goal.returns-in-Err
returns-in-Err c = at_misses c.args.r.now.rest c.in-Err.miss c.in-Err.ensures
