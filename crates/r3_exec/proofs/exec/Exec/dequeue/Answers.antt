use Rattle.std.proofs.Common.{Ok, None, refl, ap}
use Rattle.r3_model.specs.Event.{Dequeue}
use Rattle.r3_exec.specs.Ends.{dequeue_reply}
use Rattle.r3_exec.specs.declared.dequeue.Dequeued.{Dequeued}
use Rattle.r3_exec.proofs.Doing.{by_answer}
use Rattle.r3_exec.proofs.Leaving.{quiet}
use Rattle.r3_exec.proofs.Discarding.{nothing_done}
use Rattle.r3_exec.proofs.exec.Exec.dequeue.Goals as goal

pub enter_start-requires-clause-gives : goal.enter_start-requires-clause-gives
enter_start-requires-clause-gives g c = λ st stands.
    c.in-Ok-Starts.ensures.starts st c.in-Ok-Starts.entry c.in-Ok-Starts.id stands (ap (λ (d : Dequeued). Ok d) c.in-Ok-Starts.field-0-is)

pub returns-in-Ok-Stays-clause-does : goal.returns-in-Ok-Stays-clause-does
returns-in-Ok-Stays-clause-does g c = λ st k runs.
    by_answer g.D.Desk.size g.D.Desk.image g.D.Desk.may_leave g.D.Desk.asked g.D.Desk.syncs c.args.desk.now c.args.self.now st k (Dequeue c.args.queue.now) None (dequeue_reply c.in-Ok-Stays.end) _ runs
    (c.in-Ok-Stays.ensures.stays st c.in-Ok-Stays.end runs.stands (ap (λ (d : Dequeued). Ok d) c.in-Ok-Stays.field-0-is)) refl refl refl

pub returns-in-Ok-Stays-clause-crash : goal.returns-in-Ok-Stays-clause-crash
returns-in-Ok-Stays-clause-crash g c = λ st k runs.
    quiet g.D.Desk.may_leave g.D.Desk.moment g.D.Desk.reach g.D.Desk.said g.D.Desk.asked c.args.desk.now st.history k
    (g.met.D.Desk.counts_now c.args.desk.now) (g.met.D.Desk.only_now c.args.desk.now)
    (λ image left. c.reads_as_settled.ensures.crash c.args.desk.now c.args.self.now.store st.history k image runs.holds left)

pub returns-in-Err-clause-crash : goal.returns-in-Err-clause-crash
returns-in-Err-clause-crash g c = λ st k runs.
    quiet g.D.Desk.may_leave g.D.Desk.moment g.D.Desk.reach g.D.Desk.said g.D.Desk.asked c.args.desk.now st.history k
    (g.met.D.Desk.counts_now c.args.desk.now) (g.met.D.Desk.only_now c.args.desk.now)
    (λ image left. c.reads_as_settled.ensures.crash c.args.desk.now c.args.self.now.store st.history k image runs.holds left)

pub returns-in-Ok-Stays-clause-discards : goal.returns-in-Ok-Stays-clause-discards
returns-in-Ok-Stays-clause-discards g c = nothing_done c.args.self.now
