use Rattle.r3_model.specs.Functions.{language_of}
use Rattle.r3_plain.proofs.Turns.{running}
use Rattle.r3_plain.proofs.turned.turned_row.Goals as goal

pub returns-in_ok-turned-in-Pending : goal.returns-in_ok-turned-in-Pending
returns-in_ok-turned-in-Pending g c = λ h s.
    running (language_of c.args.program.now) h c.args.id.now c.args.snap c.args.answer.now c.in_ok-turned-in-Pending.turned c.args.row.now c.in-Pending.is
    (c.in_ok-turned-in-Pending.ensures h s)
