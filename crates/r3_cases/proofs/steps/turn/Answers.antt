use Rattle.r3_exec.specs.Does.{settled_by}
use Rattle.r3_cases.proofs.steps.turn.Goals as goal

pub returns-in_ok-turn_words-in-Ok : goal.returns-in_ok-turn_words-in-Ok
returns-in_ok-turn_words-in-Ok g c =
    let r = c.requires in
    let does = c.in-Ok.ensures.does r.0 r.1 r.2 in
    (does.after, settled_by r.1 r.0 does.calls, does.runs)
