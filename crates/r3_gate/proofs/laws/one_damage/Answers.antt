use Rattle.r3_gate.proofs.Exclusive.{damage_unique}
use Rattle.r3_gate.proofs.laws.one_damage.Goals as goal

pub returns : goal.returns
returns c = damage_unique
