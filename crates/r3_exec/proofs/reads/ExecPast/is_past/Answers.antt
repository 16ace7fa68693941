use Rattle.r3_exec.proofs.Maps.{map_is}
use Rattle.r3_exec.proofs.reads.ExecPast.is_past.Goals as goal

pub returns-clause-maps : goal.returns-clause-maps
returns-clause-maps c = λ h k stands reads. map_is c.args.self.now.store h k stands reads.1
