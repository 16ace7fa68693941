use Rattle.r3_store.proofs.Carried.{follows_may}
use Rattle.r3_store.proofs.laws.may_follow.Goals as goal

pub returns : goal.returns
returns c = λ h e f. follows_may h e f
