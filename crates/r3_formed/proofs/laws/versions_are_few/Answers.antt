use Rattle.r3_formed.proofs.Capacity.{few}
use Rattle.r3_formed.proofs.laws.versions_are_few.Goals as goal

pub returns : goal.returns
returns c = λ es h oldest e stand small short. few es h oldest e stand small short
