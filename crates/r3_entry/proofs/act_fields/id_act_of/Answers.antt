use Rattle.r3_entry.proofs.ActsWhole.{id_misses}
use Rattle.r3_entry.proofs.act_fields.id_act_of.Goals as goal

pub returns-in-Err : goal.returns-in-Err
returns-in-Err c = id_misses c.args.tag c.args.r.now.rest c.in-Err.miss c.in-Err.ensures
