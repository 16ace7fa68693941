use Rattle.r3_laws.proofs.Repeats.{repeats-made}
use Rattle.r3_laws.proofs.Converse.{made-by-replay}
use Rattle.r3_laws.proofs.histories.repeats_what_it_made.Goals as goal

pub returns-clause-made : goal.returns-clause-made
returns-clause-made c = repeats-made

pub returns-clause-formed : goal.returns-clause-formed
returns-clause-formed c P h lawful formed = (made-by-replay P h formed, repeats-made P h lawful)
