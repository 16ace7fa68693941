use Rattle.r3_laws.proofs.KeepsOpen.{step-open}
use Rattle.r3_laws.proofs.states.keeps_open.Goals as goal

pub returns : goal.returns
returns c = step-open
