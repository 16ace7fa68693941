use Rattle.r3_laws.proofs.ToldMade.{expects-all}
use Rattle.r3_laws.proofs.histories.expects_all.Goals as goal

pub returns : goal.returns
returns c = expects-all
