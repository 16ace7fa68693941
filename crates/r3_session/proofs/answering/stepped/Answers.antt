use Rattle.std.proofs.Common.{[], length, IfOk, OnErr, sym, ap, ◌∙◌, subst}
use Rattle.r3_lines.specs.Lines.{as_line}
use Rattle.r3_lines.specs.declared.line.Line.{Line}
use Rattle.r3_model.specs.Event.{Turn, Dequeue, ShowStatus}
use Rattle.r3_model.specs.Language.{Text}
use Rattle.r3_model.specs.Script as script
use Rattle.r3_exec.specs.Runs.{language}
use Rattle.r3_session.specs.Answered.{AnswersTo, StopsLine}
use Rattle.r3_session.specs.Done.{IsDone}
use Rattle.r3_session.proofs.Doing.{nothing-done, nothing-stops}
use Rattle.r3_session.proofs.Looking.{get-same, on-err}
use Rattle.r3_session.proofs.answering.stepped.Goals as goal

pub returns-in-Command-clause-does : goal.returns-in-Command-clause-does
returns-in-Command-clause-does g c = λ st runs.
    subst (λ (l : script.Line). IfOk c.command.result (λ text. IsDone g.D.Desk.size g.D.Desk.image g.D.Desk.may_leave g.D.Desk.moment g.D.Desk.reach g.D.Desk.said g.D.Desk.asked g.D.Desk.syncs c.args.desk.now c.command.new.desk c.command.new.exec st l text.items))
    (ap (λ (l : Line). as_line l) (sym c.in-Command.is))
    (c.command.ensures.does st runs)

pub returns-in-Command-clause-stops : goal.returns-in-Command-clause-stops
returns-in-Command-clause-stops g c = λ st runs.
    subst (λ (l : script.Line). OnErr c.command.result (StopsLine g.D.Desk.image g.D.Desk.moment g.D.Desk.reach g.D.Desk.said g.D.Desk.asked g.D.Desk.syncs (language c.args.exec.now) c.args.desk.now c.command.new.desk st l))
    (ap (λ (l : Line). as_line l) (sym c.in-Command.is))
    (c.command.ensures.stops st runs)

pub returns-in-Turn-clause-does : goal.returns-in-Turn-clause-does
returns-in-Turn-clause-does g c = λ st runs.
    subst (λ (l : script.Line). IfOk c.turn.result (λ text. IsDone g.D.Desk.size g.D.Desk.image g.D.Desk.may_leave g.D.Desk.moment g.D.Desk.reach g.D.Desk.said g.D.Desk.asked g.D.Desk.syncs c.args.desk.now c.turn.new.desk c.turn.new.exec st l text.items))
    (ap (λ (t : Text). script.Does (Turn t)) c.as_str.ensures.text ∙ ap (λ (l : Line). as_line l) (sym c.in-Turn.is))
    (c.turn.ensures.does st runs)

pub returns-in-Turn-clause-stops : goal.returns-in-Turn-clause-stops
returns-in-Turn-clause-stops g c = λ st runs.
    subst (λ (l : script.Line). OnErr c.turn.result (StopsLine g.D.Desk.image g.D.Desk.moment g.D.Desk.reach g.D.Desk.said g.D.Desk.asked g.D.Desk.syncs (language c.args.exec.now) c.args.desk.now c.turn.new.desk st l))
    (ap (λ (t : Text). script.Does (Turn t)) c.as_str.ensures.text ∙ ap (λ (l : Line). as_line l) (sym c.in-Turn.is))
    (c.turn.ensures.stops st runs)

pub returns-in-Dequeue-clause-does : goal.returns-in-Dequeue-clause-does
returns-in-Dequeue-clause-does g c = λ st runs.
    subst (λ (l : script.Line). IfOk c.dequeue.result (λ text. IsDone g.D.Desk.size g.D.Desk.image g.D.Desk.may_leave g.D.Desk.moment g.D.Desk.reach g.D.Desk.said g.D.Desk.asked g.D.Desk.syncs c.args.desk.now c.dequeue.new.desk c.dequeue.new.exec st l text.items))
    (ap (λ (t : Text). script.Does (Dequeue t)) c.as_str-in-Dequeue.ensures.text ∙ ap (λ (l : Line). as_line l) (sym c.in-Dequeue.is))
    (c.dequeue.ensures.does st runs)

pub returns-in-Dequeue-clause-stops : goal.returns-in-Dequeue-clause-stops
returns-in-Dequeue-clause-stops g c = λ st runs.
    subst (λ (l : script.Line). OnErr c.dequeue.result (StopsLine g.D.Desk.image g.D.Desk.moment g.D.Desk.reach g.D.Desk.said g.D.Desk.asked g.D.Desk.syncs (language c.args.exec.now) c.args.desk.now c.dequeue.new.desk st l))
    (ap (λ (t : Text). script.Does (Dequeue t)) c.as_str-in-Dequeue.ensures.text ∙ ap (λ (l : Line). as_line l) (sym c.in-Dequeue.is))
    (c.dequeue.ensures.stops st runs)

pub returns-in-Drain-clause-does : goal.returns-in-Drain-clause-does
returns-in-Drain-clause-does g c = λ st runs.
    subst (λ (l : script.Line). IfOk c.drain.result (λ text. IsDone g.D.Desk.size g.D.Desk.image g.D.Desk.may_leave g.D.Desk.moment g.D.Desk.reach g.D.Desk.said g.D.Desk.asked g.D.Desk.syncs c.args.desk.now c.drain.new.desk c.drain.new.exec st l text.items))
    (ap (λ (l : Line). as_line l) (sym c.in-Drain.is))
    (c.drain.ensures.does st runs)

pub returns-in-Drain-clause-stops : goal.returns-in-Drain-clause-stops
returns-in-Drain-clause-stops g c = λ st runs.
    subst (λ (l : script.Line). OnErr c.drain.result (StopsLine g.D.Desk.image g.D.Desk.moment g.D.Desk.reach g.D.Desk.said g.D.Desk.asked g.D.Desk.syncs (language c.args.exec.now) c.args.desk.now c.drain.new.desk st l))
    (ap (λ (l : Line). as_line l) (sym c.in-Drain.is))
    (c.drain.ensures.stops st runs)

pub returns-in_ok-status-in-Status-clause-does : goal.returns-in_ok-status-in-Status-clause-does
returns-in_ok-status-in-Status-clause-does g c = λ st runs.
    let x = c.in_ok-status-in-Status.ensures st runs.stands in
    let machine = subst (λ (l : script.Line). AnswersTo (language c.args.exec.now) l st st [] [] x.0)
    (ap (λ (t : Text). script.Does (ShowStatus t)) c.as_str-in-Status.ensures.text ∙ ap (λ (l : Line). as_line l) (sym c.in-Status.is)) x.2 in (
      x.0,
      x.1,
      nothing-done g.D.Desk.size g.D.Desk.image g.D.Desk.may_leave g.D.Desk.moment g.D.Desk.reach g.D.Desk.said g.D.Desk.asked g.D.Desk.syncs c.args.desk.now c.args.exec.now st (as_line c.args.line.now) x.0
          (g.met.D.Desk.counts_now c.args.desk.now) (g.met.D.Desk.only_now c.args.desk.now)
          (λ image left. c.reads_as_settled.ensures.crash c.args.desk.now c.args.exec.now.store st.history (length st.history) image runs.holds left)
          (λ image told. c.reads_as_settled.ensures.read c.args.desk.now c.args.exec.now.store st.history (length st.history) image runs.holds told)
          runs machine,
    )

pub returns-in_err-status-in-Status-clause-stops : goal.returns-in_err-status-in-Status-clause-stops
returns-in_err-status-in-Status-clause-stops g c = λ st runs.
    on-err _ (nothing-stops g.D.Desk.size g.D.Desk.image g.D.Desk.may_leave g.D.Desk.moment g.D.Desk.reach g.D.Desk.said g.D.Desk.asked g.D.Desk.syncs c.drains_by_turns.ensures (language c.args.exec.now) c.args.desk.now st (as_line c.args.line.now)
    (g.met.D.Desk.counts_now c.args.desk.now) (g.met.D.Desk.only_now c.args.desk.now)
    (λ image left. c.reads_as_settled.ensures.crash c.args.desk.now c.args.exec.now.store st.history (length st.history) image runs.holds left)
    (λ image told. c.reads_as_settled.ensures.read c.args.desk.now c.args.exec.now.store st.history (length st.history) image runs.holds told))

pub returns-in_ok-get-in-Get-clause-does : goal.returns-in_ok-get-in-Get-clause-does
returns-in_ok-get-in-Get-clause-does g c = λ st runs.
    let x = c.in_ok-get-in-Get.ensures st runs.stands in
    let machine = subst (λ (l : script.Line). AnswersTo (language c.args.exec.now) l st st [] [] x.0)
    (get-same _ _ _ _ c.as_str-in-Get.ensures.text c.as_str-in-Get-2.ensures.text ∙ ap (λ (l : Line). as_line l) (sym c.in-Get.is)) x.2 in (
      x.0,
      x.1,
      nothing-done g.D.Desk.size g.D.Desk.image g.D.Desk.may_leave g.D.Desk.moment g.D.Desk.reach g.D.Desk.said g.D.Desk.asked g.D.Desk.syncs c.args.desk.now c.args.exec.now st (as_line c.args.line.now) x.0
          (g.met.D.Desk.counts_now c.args.desk.now) (g.met.D.Desk.only_now c.args.desk.now)
          (λ image left. c.reads_as_settled.ensures.crash c.args.desk.now c.args.exec.now.store st.history (length st.history) image runs.holds left)
          (λ image told. c.reads_as_settled.ensures.read c.args.desk.now c.args.exec.now.store st.history (length st.history) image runs.holds told)
          runs machine,
    )

pub returns-in_err-get-in-Get-clause-stops : goal.returns-in_err-get-in-Get-clause-stops
returns-in_err-get-in-Get-clause-stops g c = λ st runs.
    on-err _ (nothing-stops g.D.Desk.size g.D.Desk.image g.D.Desk.may_leave g.D.Desk.moment g.D.Desk.reach g.D.Desk.said g.D.Desk.asked g.D.Desk.syncs c.drains_by_turns.ensures (language c.args.exec.now) c.args.desk.now st (as_line c.args.line.now)
    (g.met.D.Desk.counts_now c.args.desk.now) (g.met.D.Desk.only_now c.args.desk.now)
    (λ image left. c.reads_as_settled.ensures.crash c.args.desk.now c.args.exec.now.store st.history (length st.history) image runs.holds left)
    (λ image told. c.reads_as_settled.ensures.read c.args.desk.now c.args.exec.now.store st.history (length st.history) image runs.holds told))

pub returns-in_ok-unread-in-Unread-clause-does : goal.returns-in_ok-unread-in-Unread-clause-does
returns-in_ok-unread-in-Unread-clause-does g c = λ st runs.
    let x = c.in_ok-unread-in-Unread.ensures (language c.args.exec.now) st in
    let machine = subst (λ (l : script.Line). AnswersTo (language c.args.exec.now) l st st [] [] x.0)
    (ap (λ (l : Line). as_line l) (sym c.in-Unread.is)) x.2 in (
      x.0,
      x.1,
      nothing-done g.D.Desk.size g.D.Desk.image g.D.Desk.may_leave g.D.Desk.moment g.D.Desk.reach g.D.Desk.said g.D.Desk.asked g.D.Desk.syncs c.args.desk.now c.args.exec.now st (as_line c.args.line.now) x.0
          (g.met.D.Desk.counts_now c.args.desk.now) (g.met.D.Desk.only_now c.args.desk.now)
          (λ image left. c.reads_as_settled.ensures.crash c.args.desk.now c.args.exec.now.store st.history (length st.history) image runs.holds left)
          (λ image told. c.reads_as_settled.ensures.read c.args.desk.now c.args.exec.now.store st.history (length st.history) image runs.holds told)
          runs machine,
    )

pub returns-in_err-unread-in-Unread-clause-stops : goal.returns-in_err-unread-in-Unread-clause-stops
returns-in_err-unread-in-Unread-clause-stops g c = λ st runs.
    on-err _ (nothing-stops g.D.Desk.size g.D.Desk.image g.D.Desk.may_leave g.D.Desk.moment g.D.Desk.reach g.D.Desk.said g.D.Desk.asked g.D.Desk.syncs c.drains_by_turns.ensures (language c.args.exec.now) c.args.desk.now st (as_line c.args.line.now)
    (g.met.D.Desk.counts_now c.args.desk.now) (g.met.D.Desk.only_now c.args.desk.now)
    (λ image left. c.reads_as_settled.ensures.crash c.args.desk.now c.args.exec.now.store st.history (length st.history) image runs.holds left)
    (λ image told. c.reads_as_settled.ensures.read c.args.desk.now c.args.exec.now.store st.history (length st.history) image runs.holds told))

pub returns-in_ok-unformed-in-Unformed-clause-does : goal.returns-in_ok-unformed-in-Unformed-clause-does
returns-in_ok-unformed-in-Unformed-clause-does g c = λ st runs.
    let x = c.in_ok-unformed-in-Unformed.ensures (language c.args.exec.now) st in
    let machine = subst (λ (l : script.Line). AnswersTo (language c.args.exec.now) l st st [] [] x.0)
    (ap (λ (l : Line). as_line l) (sym c.in-Unformed.is)) x.2 in (
      x.0,
      x.1,
      nothing-done g.D.Desk.size g.D.Desk.image g.D.Desk.may_leave g.D.Desk.moment g.D.Desk.reach g.D.Desk.said g.D.Desk.asked g.D.Desk.syncs c.args.desk.now c.args.exec.now st (as_line c.args.line.now) x.0
          (g.met.D.Desk.counts_now c.args.desk.now) (g.met.D.Desk.only_now c.args.desk.now)
          (λ image left. c.reads_as_settled.ensures.crash c.args.desk.now c.args.exec.now.store st.history (length st.history) image runs.holds left)
          (λ image told. c.reads_as_settled.ensures.read c.args.desk.now c.args.exec.now.store st.history (length st.history) image runs.holds told)
          runs machine,
    )

pub returns-in_err-unformed-in-Unformed-clause-stops : goal.returns-in_err-unformed-in-Unformed-clause-stops
returns-in_err-unformed-in-Unformed-clause-stops g c = λ st runs.
    on-err _ (nothing-stops g.D.Desk.size g.D.Desk.image g.D.Desk.may_leave g.D.Desk.moment g.D.Desk.reach g.D.Desk.said g.D.Desk.asked g.D.Desk.syncs c.drains_by_turns.ensures (language c.args.exec.now) c.args.desk.now st (as_line c.args.line.now)
    (g.met.D.Desk.counts_now c.args.desk.now) (g.met.D.Desk.only_now c.args.desk.now)
    (λ image left. c.reads_as_settled.ensures.crash c.args.desk.now c.args.exec.now.store st.history (length st.history) image runs.holds left)
    (λ image told. c.reads_as_settled.ensures.read c.args.desk.now c.args.exec.now.store st.history (length st.history) image runs.holds told))
