use Rattle.r3_entry.proofs.ImageLemmas.{closed_history}
use Rattle.r3_entry.proofs.laws.a_closed_gate_ends.Goals as goal

pub returns : goal.returns
returns c = closed_history
