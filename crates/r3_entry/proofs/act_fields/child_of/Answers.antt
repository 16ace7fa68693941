use Rattle.r3_entry.proofs.ActsWhole.{child_misses}
use Rattle.r3_entry.proofs.act_fields.child_of.Goals as goal

pub returns-in-Err : goal.returns-in-Err
returns-in-Err c = child_misses c.args.r.now.rest c.in-Err.miss c.in-Err.ensures
