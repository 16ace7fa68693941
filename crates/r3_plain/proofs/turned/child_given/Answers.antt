use Rattle.std.proofs.Common.{ℕ, sym, ap, ◌∙◌}
use Rattle.r3_model.specs.Event as reply
use Rattle.r3_model.specs.Given.{Enters}
use Rattle.r3_plain.proofs.turned.child_given.Goals as goal

pub returns : goal.returns
returns c = λ language h s.
    ap (λ (n : ℕ). Enters c.in_ok-entry.entry (reply.Entry n)) (c.next.ensures h s) ∙ sym (c.in_ok-entry.ensures language h s)
