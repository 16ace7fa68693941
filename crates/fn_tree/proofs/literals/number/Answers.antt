use Rattle.fn_tree.proofs.LiteralLemmas.{number_fits}
use Rattle.fn_tree.proofs.literals.number.Goals as goal

pub returns : goal.returns
returns c = number_fits c.args.z c.ranges.z
