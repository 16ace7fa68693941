use Rattle.std.proofs.Common.{arith}
use Rattle.std.proofs.lemmas.Grind.{common_steps}
use Rattle.r3_gate.specs.Log.{frame}
use Rattle.r3_gate.proofs.record.joined.Goals as goal

pub returns : goal.returns
unfolding frame
returns c = grind (arith, common_steps)
