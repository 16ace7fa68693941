use Rattle.r3_repeats.proofs.Holding.{whole-goes}
use Rattle.r3_repeats.proofs.calls.whole_calls_go.Goals as goal

pub returns : goal.returns
returns c = whole-goes
