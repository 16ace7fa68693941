use Rattle.std.proofs.Common.{sym, ◌∙◌}
use Rattle.r3_model.specs.Functions.{language_of}
use Rattle.r3_commands.proofs.Carried.{enqueued-ok}
use Rattle.r3_commands.proofs.enqueues.enqueued.Goals as goal

pub returns-in-Some : goal.returns-in-Some
returns-in-Some g c =
    enqueued-ok (λ h. g.P.Past.stands c.args.past.now h) c.enqueue_called.result (language_of c.args.program.now) c.args.id.now
    c.args.queue.now c.args.function.now c.args.args.now c.in-Some.id
    (λ h s. sym c.in-Some.is ∙ c.in_ok-new_id.ensures h (sym (c.count_of.ensures.count h s)))
    c.enqueue_called.ensures
