use Rattle.std.proofs.Common.{length}
use Rattle.r3_cases.proofs.steps.settled.Goals as goal

pub returns-in_ok-words_of-in-Ok : goal.returns-in_ok-words_of-in-Ok
returns-in_ok-words_of-in-Ok g c =
    let r = c.requires in
    (r.0, length r.0.history, c.in-Ok.ensures.settled r.0 r.1 r.2)
