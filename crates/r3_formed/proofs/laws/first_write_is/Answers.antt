use Rattle.r3_formed.specs.PastLaws.{first_is}
use Rattle.r3_formed.proofs.laws.first_write_is.Goals as goal

pub returns : goal.returns
returns c = λ h snap key n is. first_is 1 snap key h n is
