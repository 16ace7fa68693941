use Rattle.std.proofs.Common.{length, sym, ◌∙◌}
use Rattle.r3_model.specs.Event.{Dequeue}
use Rattle.r3_model.specs.Script as script
use Rattle.r3_exec.specs.Runs.{language}
use Rattle.r3_session.proofs.Doing.{nothing-done, nothing-stops}
use Rattle.r3_session.proofs.Looking.{on-err}
use Rattle.r3_session.proofs.events.dequeue.Goals as goal

pub declared_dequeue-requires : goal.declared_dequeue-requires
declared_dequeue-requires g c = record { declared = sym c.in-Ok-true.ensures ∙ c.in-Ok-true.field-0-test; runs = c.requires.runs }

pub returns-in_ok-unknown_queue-in-Ok-false-clause-does : goal.returns-in_ok-unknown_queue-in-Ok-false-clause-does
returns-in_ok-unknown_queue-in-Ok-false-clause-does g c = λ st runs.
    let x = c.in_ok-unknown_queue-in-Ok-false.ensures (language c.args.exec.now) st (sym c.in-Ok-false.ensures ∙ c.in-Ok-false.field-0-test) in (
      x.0,
      x.1,
      nothing-done g.D.Desk.size g.D.Desk.image g.D.Desk.may_leave g.D.Desk.moment g.D.Desk.reach g.D.Desk.said g.D.Desk.asked g.D.Desk.syncs c.args.desk.now c.args.exec.now st (script.Does (Dequeue c.args.queue.now)) x.0
          (g.met.D.Desk.counts_now c.args.desk.now) (g.met.D.Desk.only_now c.args.desk.now)
          (λ image left. c.reads_as_settled.ensures.crash c.args.desk.now c.args.exec.now.store st.history (length st.history) image runs.holds left)
          (λ image told. c.reads_as_settled.ensures.read c.args.desk.now c.args.exec.now.store st.history (length st.history) image runs.holds told)
          runs x.2,
    )

pub returns-in_err-unknown_queue-in-Ok-false-clause-stops : goal.returns-in_err-unknown_queue-in-Ok-false-clause-stops
returns-in_err-unknown_queue-in-Ok-false-clause-stops g c = λ st runs.
    on-err _ (nothing-stops g.D.Desk.size g.D.Desk.image g.D.Desk.may_leave g.D.Desk.moment g.D.Desk.reach g.D.Desk.said g.D.Desk.asked g.D.Desk.syncs c.drains_by_turns.ensures (language c.args.exec.now) c.args.desk.now st (script.Does (Dequeue c.args.queue.now))
    (g.met.D.Desk.counts_now c.args.desk.now) (g.met.D.Desk.only_now c.args.desk.now)
    (λ image left. c.reads_as_settled.ensures.crash c.args.desk.now c.args.exec.now.store st.history (length st.history) image runs.holds left)
    (λ image told. c.reads_as_settled.ensures.read c.args.desk.now c.args.exec.now.store st.history (length st.history) image runs.holds told))

pub returns-in-Err-clause-stops : goal.returns-in-Err-clause-stops
returns-in-Err-clause-stops g c = λ st runs.
    nothing-stops g.D.Desk.size g.D.Desk.image g.D.Desk.may_leave g.D.Desk.moment g.D.Desk.reach g.D.Desk.said g.D.Desk.asked g.D.Desk.syncs c.drains_by_turns.ensures (language c.args.exec.now) c.args.desk.now st (script.Does (Dequeue c.args.queue.now))
    (g.met.D.Desk.counts_now c.args.desk.now) (g.met.D.Desk.only_now c.args.desk.now)
    (λ image left. c.reads_as_settled.ensures.crash c.args.desk.now c.args.exec.now.store st.history (length st.history) image runs.holds left)
    (λ image told. c.reads_as_settled.ensures.read c.args.desk.now c.args.exec.now.store st.history (length st.history) image runs.holds told)
