use Rattle.std.proofs.Common.{length, ◌∙◌}
use Rattle.r3_past.proofs.Steps.{first-all}
use Rattle.r3_past.proofs.step_rows.recorded.Goals as goal

pub returns : goal.returns
returns g c = λ h s. c.in_ok-rows.ensures h s ∙ first-all h (length h) c.args.id.now
