use Rattle.std.proofs.Common.{length}
use Rattle.r3_model.specs.Event.{Turn}
use Rattle.r3_model.specs.Script as script
use Rattle.r3_exec.specs.Runs.{language}
use Rattle.r3_session.proofs.Doing.{nothing-done, nothing-stops}
use Rattle.r3_session.proofs.Looking.{on-err}
use Rattle.r3_session.proofs.events.turn.Goals as goal

pub is_known-requires : goal.is_known-requires
is_known-requires g c = let x = c.requires.runs in (x.0, x.1.stands)

pub known_turn-requires : goal.known_turn-requires
known_turn-requires g c =
    let x = c.requires.runs in
    record { known = (x.0, x.1, c.in-Ok-true.ensures.known x.0 x.1.stands c.in-Ok-true.field-0-test) }

pub returns-in_ok-unknown_turn-in-Ok-false-clause-does : goal.returns-in_ok-unknown_turn-in-Ok-false-clause-does
returns-in_ok-unknown_turn-in-Ok-false-clause-does g c = λ st runs.
    let x = c.in_ok-unknown_turn-in-Ok-false.ensures (language c.args.exec.now) st (c.in-Ok-false.ensures.unknown st runs.stands c.in-Ok-false.field-0-test) in (
      x.0,
      x.1,
      nothing-done g.D.Desk.size g.D.Desk.image g.D.Desk.may_leave g.D.Desk.moment g.D.Desk.reach g.D.Desk.said g.D.Desk.asked g.D.Desk.syncs c.args.desk.now c.args.exec.now st (script.Does (Turn c.args.id.now)) x.0
          (g.met.D.Desk.counts_now c.args.desk.now) (g.met.D.Desk.only_now c.args.desk.now)
          (λ image left. c.reads_as_settled.ensures.crash c.args.desk.now c.args.exec.now.store st.history (length st.history) image runs.holds left)
          (λ image told. c.reads_as_settled.ensures.read c.args.desk.now c.args.exec.now.store st.history (length st.history) image runs.holds told)
          runs x.2,
    )

pub returns-in_err-unknown_turn-in-Ok-false-clause-stops : goal.returns-in_err-unknown_turn-in-Ok-false-clause-stops
returns-in_err-unknown_turn-in-Ok-false-clause-stops g c = λ st runs.
    on-err _ (nothing-stops g.D.Desk.size g.D.Desk.image g.D.Desk.may_leave g.D.Desk.moment g.D.Desk.reach g.D.Desk.said g.D.Desk.asked g.D.Desk.syncs c.drains_by_turns.ensures (language c.args.exec.now) c.args.desk.now st (script.Does (Turn c.args.id.now))
    (g.met.D.Desk.counts_now c.args.desk.now) (g.met.D.Desk.only_now c.args.desk.now)
    (λ image left. c.reads_as_settled.ensures.crash c.args.desk.now c.args.exec.now.store st.history (length st.history) image runs.holds left)
    (λ image told. c.reads_as_settled.ensures.read c.args.desk.now c.args.exec.now.store st.history (length st.history) image runs.holds told))

pub returns-in-Err-clause-stops : goal.returns-in-Err-clause-stops
returns-in-Err-clause-stops g c = λ st runs.
    nothing-stops g.D.Desk.size g.D.Desk.image g.D.Desk.may_leave g.D.Desk.moment g.D.Desk.reach g.D.Desk.said g.D.Desk.asked g.D.Desk.syncs c.drains_by_turns.ensures (language c.args.exec.now) c.args.desk.now st (script.Does (Turn c.args.id.now))
    (g.met.D.Desk.counts_now c.args.desk.now) (g.met.D.Desk.only_now c.args.desk.now)
    (λ image left. c.reads_as_settled.ensures.crash c.args.desk.now c.args.exec.now.store st.history (length st.history) image runs.holds left)
    (λ image told. c.reads_as_settled.ensures.read c.args.desk.now c.args.exec.now.store st.history (length st.history) image runs.holds told)
