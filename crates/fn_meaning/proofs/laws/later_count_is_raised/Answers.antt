use Rattle.fn_meaning.proofs.ExpressionCost.{expressions_shift}
use Rattle.fn_meaning.proofs.FlowLemmas.{transactions_shift, flows_shift}
use Rattle.fn_meaning.proofs.laws.later_count_is_raised.Goals as goal

pub returns-clause-expressions : goal.returns-clause-expressions
returns-clause-expressions c = expressions_shift

pub returns-clause-transactions : goal.returns-clause-transactions
returns-clause-transactions c = transactions_shift

pub returns-clause-flows : goal.returns-clause-flows
returns-clause-flows c = flows_shift
