use Rattle.std.proofs.Common.{ℕ, sym, ap, ◌∙◌}
use Rattle.r3_model.specs.Event as reply
use Rattle.r3_model.specs.Given.{Enters}
use Rattle.r3_turns.specs.Drafts.{given_by}
use Rattle.r3_turns.specs.declared.awaits.AwaitDraft.{AwaitDraft}
use Rattle.r3_plain.proofs.turned.await_given.Goals as goal

pub returns-in-Waiting : goal.returns-in-Waiting
returns-in-Waiting c = λ language h s.
    sym (c.in_ok-id.ensures language h s ∙ ap (λ (d : AwaitDraft). given_by h d) c.in-Waiting.is)

pub returns-in-Enters : goal.returns-in-Enters
returns-in-Enters c = λ language h s.
    ap (λ (n : ℕ). Enters c.in-Enters.entry (reply.Entry n)) (c.next.ensures h s)
    ∙ sym (c.in_ok-id.ensures language h s ∙ ap (λ (d : AwaitDraft). given_by h d) c.in-Enters.is)
