use Rattle.r3_entry.proofs.ActsWhole.{await_misses}
use Rattle.r3_entry.proofs.act_fields.await_of.Goals as goal

pub returns-in-Err : goal.returns-in-Err
returns-in-Err c = await_misses c.args.r.now.rest c.in-Err.miss c.in-Err.ensures
