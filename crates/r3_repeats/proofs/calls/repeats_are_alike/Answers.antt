use Rattle.r3_repeats.proofs.Storing.{repeats-alike, accepted-accepted, accepted-shown, results-alike, one-start}
use Rattle.r3_repeats.proofs.calls.repeats_are_alike.Goals as goal

pub returns-clause-repeats : goal.returns-clause-repeats
returns-clause-repeats c = repeats-alike

pub returns-clause-accepted : goal.returns-clause-accepted
returns-clause-accepted c = accepted-accepted

pub returns-clause-shown : goal.returns-clause-shown
returns-clause-shown c = accepted-shown

pub returns-clause-results : goal.returns-clause-results
returns-clause-results c = results-alike

pub returns-clause-once : goal.returns-clause-once
returns-clause-once c = one-start
