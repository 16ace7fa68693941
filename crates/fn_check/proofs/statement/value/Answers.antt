use Rattle.std.proofs.Common.{◌∙◌}
use Rattle.fn_check.proofs.StatementLemmas.{value_whole}
use Rattle.fn_check.proofs.statement.value.Goals as goal

pub returns : goal.returns
returns c = c.expression.ensures ∙ value_whole c.args.items.now c.count.result c.args.e.now c.args.scope.now c.count.ensures
