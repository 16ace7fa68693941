use Rattle.r3_laws.proofs.RowsNow.{rows-rise}
use Rattle.r3_laws.proofs.RowsGathered.{rows-listed, rows-gather}
use Rattle.r3_laws.proofs.pending.rows_gather.Goals as goal

pub returns-clause-rise : goal.returns-clause-rise
returns-clause-rise c = rows-rise

pub returns-clause-listed : goal.returns-clause-listed
returns-clause-listed c = rows-listed

pub returns-clause-gather : goal.returns-clause-gather
returns-clause-gather c = rows-gather
