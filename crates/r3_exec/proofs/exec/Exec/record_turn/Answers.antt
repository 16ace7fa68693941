use Rattle.std.proofs.Common.{◌+◌, length, Some, sym, inr}
use Rattle.r3_model.specs.Event.{Turn}
use Rattle.r3_model.specs.Event as reply
use Rattle.r3_exec.specs.Runs.{language}
use Rattle.r3_exec.proofs.Leaving.{by_images_settled, quiet}
use Rattle.r3_exec.proofs.TurnGives.{of_answer}
use Rattle.r3_exec.proofs.exec.Exec.record_turn.Goals as goal

pub enter-requires : goal.enter-requires
enter-requires g c =
    let x = c.requires.called in
    let st = x.0 in
    let store = x.2.stands.keeps.store in
    record {
      gives = (
        st,
        x.1,
        Turn c.args.id.now,
        Some c.args.outcome,
        reply.Entry (length st.history + 1),
        x.2,
        of_answer (language c.args.self.now) st c.args.id.now c.args.request.now c.args.outcome c.in-Ok.entry c.is_outcome.ensures
            (c.in-Ok.ensures st.history (sym (c.len.ensures st.history store))) x.3,
      );
    }

pub returns-in-Ok-enter-clause-recorded : goal.returns-in-Ok-enter-clause-recorded
returns-in-Ok-enter-clause-recorded g c = λ st k runs called.
    let store = runs.stands.keeps.store in
    let gives = of_answer (language c.args.self.now) st c.args.id.now c.args.request.now c.args.outcome c.in-Ok.entry c.is_outcome.ensures
    (c.in-Ok.ensures st.history (sym (c.len.ensures st.history store))) called in
    let come = c.in-Ok-enter.ensures.come st k (Turn c.args.id.now) (Some c.args.outcome) (reply.Entry (length st.history + 1)) runs gives in
    record { entry = c.in-Ok.entry; entered = c.in-Ok-enter.entered; come = come; reply_is = c.turn_end.ensures.reply st.history come.number }

pub returns-in-Ok-enter-clause-crash : goal.returns-in-Ok-enter-clause-crash
returns-in-Ok-enter-clause-crash g c = λ st k runs.
    by_images_settled g.D.Desk.may_leave g.D.Desk.moment g.D.Desk.reach g.D.Desk.said g.D.Desk.asked _ _ st.history k c.enter.ensures.asked (c.enter.ensures.crash st k runs)

pub returns-in-Err-enter-clause-crash : goal.returns-in-Err-enter-clause-crash
returns-in-Err-enter-clause-crash g c = λ st k runs.
    by_images_settled g.D.Desk.may_leave g.D.Desk.moment g.D.Desk.reach g.D.Desk.said g.D.Desk.asked _ _ st.history k c.enter.ensures.asked (c.enter.ensures.crash st k runs)

pub returns-in-Err-clause-crash : goal.returns-in-Err-clause-crash
returns-in-Err-clause-crash g c = λ st k runs.
    quiet g.D.Desk.may_leave g.D.Desk.moment g.D.Desk.reach g.D.Desk.said g.D.Desk.asked c.args.desk.now st.history k
    (g.met.D.Desk.counts_now c.args.desk.now) (g.met.D.Desk.only_now c.args.desk.now)
    (λ image left. c.reads_as_settled.ensures.crash c.args.desk.now c.args.self.now.store st.history k image runs.holds left)

pub returns-in-Err-clause-reads : goal.returns-in-Err-clause-reads
returns-in-Err-clause-reads g c = λ st k runs image told.
    inr (c.reads_as_settled.ensures.read c.args.desk.now c.args.self.now.store st.history k image runs.holds told)
