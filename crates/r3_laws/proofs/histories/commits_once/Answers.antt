use Rattle.r3_laws.proofs.Committed.{commits-once}
use Rattle.r3_laws.proofs.histories.commits_once.Goals as goal

pub returns : goal.returns
returns c = commits-once
