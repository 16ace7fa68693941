use Rattle.r3_entry.proofs.ImageLemmas.{open_history}
use Rattle.r3_entry.proofs.laws.an_open_gate_adds.Goals as goal

pub returns : goal.returns
returns c = open_history
