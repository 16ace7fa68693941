use Rattle.r3_bytes.proofs.Outcomes.{success_misses}
use Rattle.r3_bytes.proofs.slices.success_in.Goals as goal

pub returns-in-Err : goal.returns-in-Err
returns-in-Err c = success_misses c.args.bytes.now c.in-Err.miss c.in-Err.ensures
