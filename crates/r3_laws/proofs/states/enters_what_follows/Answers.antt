use Rattle.r3_laws.proofs.Follow.{entry-follows}
use Rattle.r3_laws.proofs.KeepsValid.{enters-limited}
use Rattle.r3_laws.proofs.states.enters_what_follows.Goals as goal

pub returns-clause-follows : goal.returns-clause-follows
returns-clause-follows c = entry-follows

pub returns-clause-limits : goal.returns-clause-limits
returns-clause-limits c P st ev answer e r lawful limited = enters-limited P lawful limited st ev answer e r
