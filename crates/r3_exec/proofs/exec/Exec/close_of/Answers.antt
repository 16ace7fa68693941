use Rattle.r3_exec.proofs.Discarding.{nothing_done}
use Rattle.r3_exec.proofs.exec.Exec.close_of.Goals as goal

pub returns-in-None-clause-discards : goal.returns-in-None-clause-discards
returns-in-None-clause-discards c = nothing_done c.args.self.now
