use Rattle.fn_meaning.proofs.LimitLemmas.{runs_within}
use Rattle.fn_meaning.proofs.laws.transaction_keeps_limits.Goals as goal

pub returns : goal.returns
returns c = runs_within
