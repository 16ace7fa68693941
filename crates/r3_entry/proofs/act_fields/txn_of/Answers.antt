use Rattle.r3_entry.proofs.ActsWhole.{txn_misses}
use Rattle.r3_entry.proofs.act_fields.txn_of.Goals as goal

pub returns-in-Err : goal.returns-in-Err
returns-in-Err c = txn_misses c.args.r.now.rest c.in-Err.miss c.in-Err.ensures
