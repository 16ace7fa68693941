use Rattle.r3_repeats.proofs.Making.{leaves-made, stores-once, expects-turns}
use Rattle.r3_repeats.proofs.calls.stores_steps_once.Goals as goal

pub returns-clause-made : goal.returns-clause-made
returns-clause-made c = leaves-made

pub returns-clause-once : goal.returns-clause-once
returns-clause-once c = stores-once c.commits_once.ensures

pub returns-clause-expects : goal.returns-clause-expects
returns-clause-expects c = expects-turns c.expects_all.ensures
