use Rattle.r3_laws.proofs.RowsNow.{rows-follow, rows-tell, acts-write}
use Rattle.r3_laws.proofs.pending.rows_follow.Goals as goal

pub returns-clause-follow : goal.returns-clause-follow
returns-clause-follow c = rows-follow

pub returns-clause-tell : goal.returns-clause-tell
returns-clause-tell c = rows-tell

pub returns-clause-write : goal.returns-clause-write
returns-clause-write c = acts-write
