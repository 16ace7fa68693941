use Rattle.r3_model.specs.Functions.{language_of}
use Rattle.r3_invoked.proofs.Fitting.{one-on_store}
use Rattle.r3_invoked.proofs.calls.calls_store_steps_once.Goals as goal

pub returns-clause-made : goal.returns-clause-made
returns-clause-made c = λ items i one.
    c.stores_steps_once.ensures.made (language_of items) i (one-on_store c.one_history.ensures items i one)

pub returns-clause-once : goal.returns-clause-once
returns-clause-once c = λ items i one.
    c.stores_steps_once.ensures.once (language_of items) i (c.programs_are_lawful.ensures items)
    (one-on_store c.one_history.ensures items i one)

pub returns-clause-expects : goal.returns-clause-expects
returns-clause-expects c = λ items i one.
    c.stores_steps_once.ensures.expects (language_of items) i (c.programs_are_lawful.ensures items)
    (one-on_store c.one_history.ensures items i one)
