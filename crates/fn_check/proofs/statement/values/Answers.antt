use Rattle.std.proofs.Common.{◌∙◌}
use Rattle.fn_check.proofs.StatementLemmas.{args_whole}
use Rattle.fn_check.proofs.statement.values.Goals as goal

pub returns : goal.returns
returns c = c.expressions.ensures ∙ args_whole c.args.items.now c.count.result c.args.es.now c.args.scope.now c.count.ensures
