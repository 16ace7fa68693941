use Rattle.r3_repeats.proofs.Telling.{tells-repeats, accepted-stands, accepted-first}
use Rattle.r3_repeats.proofs.starts.tells_starts.Goals as goal

pub returns-clause-tells : goal.returns-clause-tells
returns-clause-tells c = tells-repeats

pub returns-clause-stands : goal.returns-clause-stands
returns-clause-stands c = accepted-stands

pub returns-clause-first : goal.returns-clause-first
returns-clause-first c = accepted-first
