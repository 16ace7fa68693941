use Rattle.r3_laws.proofs.KeepsValid.{step-valid, begins-valid}
use Rattle.r3_laws.proofs.states.keeps_valid.Goals as goal

pub returns-clause-keeps : goal.returns-clause-keeps
returns-clause-keeps c = step-valid

pub returns-clause-begins : goal.returns-clause-begins
returns-clause-begins c = begins-valid
