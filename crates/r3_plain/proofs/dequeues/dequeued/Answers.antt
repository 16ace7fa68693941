use Rattle.std.proofs.Common.{List, length, sym, ap, ◌∙◌}
use Rattle.std.specs.Option.{option_map}
use Rattle.r3_entry.specs.declared.entry.Entry.{Entry}
use Rattle.r3_model.specs.Functions.{language_of}
use Rattle.r3_model.specs.Rows.{flows_at}
use Rattle.r3_plain.specs.Flows.{declared_of}
use Rattle.r3_plain.proofs.Turns.{dequeue_by}
use Rattle.r3_plain.proofs.dequeues.dequeued.Goals as goal

pub returns-in_ok-given-in-Some : goal.returns-in_ok-given-in-Some
returns-in_ok-given-in-Some c = λ h s.
    c.in_ok-given-in-Some.ensures h s
    ∙ dequeue_by (language_of c.args.program.now) h c.args.name.now (declared_of c.in-Some.queue) _
    (sym c.in_ok-queue_called.ensures ∙ ap (λ o. option_map declared_of o) c.in-Some.is)
    (c.in_ok-flows-in-Some.ensures ∙ ap (λ (x : List Entry). flows_at x (length x)) s.same)
