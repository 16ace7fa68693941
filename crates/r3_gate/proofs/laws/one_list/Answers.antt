use Rattle.r3_gate.specs.Unique.{log_unique}
use Rattle.r3_gate.proofs.laws.one_list.Goals as goal

pub returns : goal.returns
returns c = log_unique
