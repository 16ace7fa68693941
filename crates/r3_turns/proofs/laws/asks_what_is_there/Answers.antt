use Rattle.r3_turns.proofs.Asked.{asked-called}
use Rattle.r3_turns.proofs.laws.asks_what_is_there.Goals as goal

pub returns : goal.returns
returns c = asked-called
