use Rattle.r3_entry.proofs.ActsWhole.{outside_misses}
use Rattle.r3_entry.proofs.act_fields.outside_of.Goals as goal

pub returns-in-Err : goal.returns-in-Err
returns-in-Err c = outside_misses c.args.r.now.rest c.in-Err.miss c.in-Err.ensures
