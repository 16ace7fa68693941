use Rattle.r3_recover.specs.Kept.{settled_by}
use Rattle.r3_cases.proofs.steps.drained.Goals as goal

pub returns-in_ok-drain_words-in-Ok : goal.returns-in_ok-drain_words-in-Ok
returns-in_ok-drain_words-in-Ok g c =
    let r = c.requires in
    let does = c.in-Ok.ensures.does r.0 r.1 r.2 in
    (does.after, settled_by r.1 does.marks, does.runs)
