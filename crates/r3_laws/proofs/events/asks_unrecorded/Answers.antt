use Rattle.r3_laws.proofs.Asks.{step-asks_new}
use Rattle.r3_laws.proofs.events.asks_unrecorded.Goals as goal

pub returns : goal.returns
returns c = step-asks_new
