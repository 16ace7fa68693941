use Rattle.std.proofs.Common.{◌∙◌}
use Rattle.r3_plain.proofs.turned.outside_turn.Goals as goal

pub returns : goal.returns
returns c = λ language h s.
    let t = c.in_ok-turned.ensures language h in
    record { given = t.given ∙ c.in_ok-given.ensures language h s; calls = t.calls }
