use Rattle.fn_tree.specs.declared.flow.AskKind.TheVariants as asking
use Rattle.r3_model.specs.Functions.{language_of}
use Rattle.r3_plain.proofs.Turns.{by_kind}
use Rattle.r3_plain.proofs.turned.asked.Goals as goal

pub returns-in_ok-turned-in-Outside : goal.returns-in_ok-turned-in-Outside
returns-in_ok-turned-in-Outside g c = λ h s.
    by_kind (language_of c.args.program.now) h c.args.id.now c.args.snap c.args.answer.now c.in_ok-turned-in-Outside.turned c.args.request.now asking.Outside c.in-Outside.is
    (c.in_ok-turned-in-Outside.ensures (language_of c.args.program.now) h s)

pub returns-in_ok-turned-in-Child : goal.returns-in_ok-turned-in-Child
returns-in_ok-turned-in-Child g c = λ h s.
    by_kind (language_of c.args.program.now) h c.args.id.now c.args.snap c.args.answer.now c.in_ok-turned-in-Child.turned c.args.request.now asking.Child c.in-Child.is
    (c.in_ok-turned-in-Child.ensures (language_of c.args.program.now) h s)

pub returns-in_ok-turned-in-Await : goal.returns-in_ok-turned-in-Await
returns-in_ok-turned-in-Await g c = λ h s.
    by_kind (language_of c.args.program.now) h c.args.id.now c.args.snap c.args.answer.now c.in_ok-turned-in-Await.turned c.args.request.now asking.Await c.in-Await.is
    (c.in_ok-turned-in-Await.ensures (language_of c.args.program.now) h s)
