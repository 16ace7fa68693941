use Rattle.std.proofs.Common.{◌+◌, length, None, refl}
use Rattle.r3_model.specs.Event.{Dequeue, EntryOf}
use Rattle.r3_exec.proofs.Doing.{by_entry}
use Rattle.r3_exec.proofs.exec.Exec.enter_start.Goals as goal

pub returns-in-Ok-clause-does : goal.returns-in-Ok-clause-does
returns-in-Ok-clause-does g c = λ st k runs.
    let r = EntryOf (length st.history + 1) c.args.id in
    let come = c.in-Ok.ensures.come st k (Dequeue c.args.queue.now) None r runs (c.requires.gives st runs.stands) in
    by_entry g.D.Desk.size g.D.Desk.image g.D.Desk.may_leave g.D.Desk.asked g.D.Desk.syncs _ _ c.args.self.now c.enter.new.self st k (Dequeue c.args.queue.now) None c.args.entry r c.in-Ok.entered _
    come refl c.enter.ensures.asked c.enter.ensures.syncs c.enter.ensures.program (c.dequeue_end.ensures st.history come.number)
