use Rattle.std.proofs.Common.{◌∙◌}
use Rattle.r3_plain.proofs.turned.finish_turn.Goals as goal

pub returns : goal.returns
returns c = λ language h s. record { given = c.quiet.ensures.given ∙ c.in_ok-given.ensures language h s; calls = c.quiet.ensures.call }
