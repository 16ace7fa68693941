use Rattle.r3_repeats.proofs.Telling.{adds-nothing, accepts-after}
use Rattle.r3_repeats.proofs.starts.accepts_repeats.Goals as goal

pub returns-clause-adds : goal.returns-clause-adds
returns-clause-adds c = adds-nothing

pub returns-clause-accepts : goal.returns-clause-accepts
returns-clause-accepts c = accepts-after
