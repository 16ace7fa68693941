use Rattle.r3_entry.proofs.Whole.{user_misses}
use Rattle.r3_entry.proofs.fields.user_key_of.Goals as goal

pub returns-in-Err : goal.returns-in-Err
returns-in-Err c = user_misses c.args.r.now.rest c.in-Err.miss c.in-Err.ensures
