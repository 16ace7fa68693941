use Rattle.fn_meaning.proofs.FlowLemmas.{runs_on}
use Rattle.fn_meaning.proofs.laws.run_over_stays.Goals as goal

pub returns : goal.returns
returns c = runs_on
