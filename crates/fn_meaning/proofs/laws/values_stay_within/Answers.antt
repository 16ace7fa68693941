use Rattle.fn_meaning.proofs.ValueExpressions.{expressions_stay_within}
use Rattle.fn_meaning.proofs.laws.values_stay_within.Goals as goal

pub returns : goal.returns
returns c = expressions_stay_within
