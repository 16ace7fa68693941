use Rattle.r3_entry.proofs.ActsWhole.{fork_misses}
use Rattle.r3_entry.proofs.act_fields.fork_of.Goals as goal

pub returns-in-Err : goal.returns-in-Err
returns-in-Err c = fork_misses c.args.r.now.rest c.in-Err.miss c.in-Err.ensures
