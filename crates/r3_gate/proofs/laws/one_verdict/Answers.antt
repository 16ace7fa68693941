use Rattle.r3_gate.proofs.Exclusive.{log_not_damaged, log_not_foreign, damaged_not_foreign}
use Rattle.r3_gate.proofs.laws.one_verdict.Goals as goal

pub returns-clause-log_not_damaged : goal.returns-clause-log_not_damaged
returns-clause-log_not_damaged c = log_not_damaged

pub returns-clause-log_not_foreign : goal.returns-clause-log_not_foreign
returns-clause-log_not_foreign c = log_not_foreign

pub returns-clause-damaged_not_foreign : goal.returns-clause-damaged_not_foreign
returns-clause-damaged_not_foreign c = damaged_not_foreign
