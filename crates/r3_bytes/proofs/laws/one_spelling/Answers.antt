use Rattle.r3_bytes.proofs.Unique.{number_one, string_one, value_one}
use Rattle.r3_bytes.proofs.Outcomes.{outcome_one}
use Rattle.r3_bytes.proofs.laws.one_spelling.Goals as goal

pub returns-clause-byte : goal.returns-clause-byte
returns-clause-byte c = λ m n a b e. (cc, cc)

pub returns-clause-number : goal.returns-clause-number
returns-clause-number c = number_one

pub returns-clause-text : goal.returns-clause-text
returns-clause-text c = string_one

pub returns-clause-value : goal.returns-clause-value
returns-clause-value c = λ v w a b hv hw e. value_one v w a b (record { proper = hv.proper; small = hv.small }) (record { proper = hw.proper; small = hw.small }) e

pub returns-clause-outcome : goal.returns-clause-outcome
returns-clause-outcome c = outcome_one
