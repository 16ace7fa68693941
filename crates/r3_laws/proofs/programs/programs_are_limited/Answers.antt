use Rattle.r3_laws.proofs.ProgramLimits.{programs-limited}
use Rattle.r3_laws.proofs.programs.programs_are_limited.Goals as goal

pub returns : goal.returns
returns c = programs-limited
