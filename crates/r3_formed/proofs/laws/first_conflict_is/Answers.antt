use Rattle.r3_formed.proofs.FirstWriter.{conflict_is_first}
use Rattle.r3_formed.proofs.laws.first_conflict_is.Goals as goal

pub returns : goal.returns
returns c = λ h snap keys. conflict_is_first h snap keys
