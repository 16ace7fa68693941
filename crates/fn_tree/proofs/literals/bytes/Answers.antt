use Rattle.fn_tree.proofs.LiteralLemmas.{text_fits}
use Rattle.fn_tree.proofs.literals.bytes.Goals as goal

pub returns : goal.returns
returns c = text_fits c.args.s.now c.utf8.s c.requires.short
