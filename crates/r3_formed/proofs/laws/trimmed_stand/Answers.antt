use Rattle.r3_formed.proofs.Grows.{trimmed_stands}
use Rattle.r3_formed.proofs.laws.trimmed_stand.Goals as goal

pub returns : goal.returns
returns c = λ es h oldest later le stand. trimmed_stands es h oldest later le stand
