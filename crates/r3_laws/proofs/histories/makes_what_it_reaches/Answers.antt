use Rattle.r3_laws.proofs.Reaches.{reached-made}
use Rattle.r3_laws.proofs.ReachesFormed.{reached-formed}
use Rattle.r3_laws.proofs.histories.makes_what_it_reaches.Goals as goal

pub returns-clause-made : goal.returns-clause-made
returns-clause-made c = reached-made

pub returns-clause-formed : goal.returns-clause-formed
returns-clause-formed c P h lawful limited = reached-formed P lawful limited h
