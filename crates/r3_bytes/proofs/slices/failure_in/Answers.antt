use Rattle.r3_bytes.proofs.Outcomes.{failure_misses}
use Rattle.r3_bytes.proofs.slices.failure_in.Goals as goal

pub returns-in-Err : goal.returns-in-Err
returns-in-Err c = failure_misses c.args.bytes.now c.in-Err.miss c.in-Err.ensures
