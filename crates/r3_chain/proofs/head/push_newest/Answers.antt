use Rattle.std.proofs.Common.{◌∙◌}
use Rattle.r3_chain.specs.Heads.{written}
use Rattle.r3_chain.proofs.PutLemmas.{insert_put}
use Rattle.r3_chain.proofs.head.push_newest.Goals as goal

pub returns-clause-heads : goal.returns-clause-heads
returns-clause-heads g c = c.in-Ok.ensures.entries ∙ insert_put g.K.Ord.cmp c.args.key (written c.args.slot) c.args.heads.now.entries
