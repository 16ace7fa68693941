use Rattle.r3_exec.proofs.Discarding.{nothing_done}
use Rattle.r3_exec.proofs.exec.Exec.ended.Goals as goal

pub returns-in-Full-clause-discards : goal.returns-in-Full-clause-discards
returns-in-Full-clause-discards c = nothing_done c.args.self.now
