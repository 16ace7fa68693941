use Rattle.std.proofs.Common.{rules}
use Rattle.r3_rows.specs.KeyOrder.{key_cmp-total, key_cmp-same}
use Rattle.r3_rows.proofs.laws.order_of_keys.Goals as goal

pub returns-clause-total : goal.returns-clause-total
returns-clause-total c = key_cmp-total

pub returns-clause-exact : goal.returns-clause-exact
returns-clause-exact c = key_cmp-same

pub returns-clause-derived : goal.returns-clause-derived
returns-clause-derived c = λ a b. search rules
