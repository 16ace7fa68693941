use Rattle.r3_laws.proofs.ProgramRuns.{programs-lawful}
use Rattle.r3_laws.proofs.programs.programs_are_lawful.Goals as goal

pub returns : goal.returns
returns c = programs-lawful
