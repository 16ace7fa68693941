use Rattle.fn_meaning.proofs.BodyBudget.{transactions_end, flows_end}
use Rattle.fn_meaning.proofs.ExpressionBudget.{expressions_end}
use Rattle.fn_meaning.proofs.laws.body_ends_within_units.Goals as goal

pub returns-clause-expressions : goal.returns-clause-expressions
returns-clause-expressions c = expressions_end

pub returns-clause-transactions : goal.returns-clause-transactions
returns-clause-transactions c = transactions_end

pub returns-clause-flows : goal.returns-clause-flows
returns-clause-flows c = flows_end
