use Rattle.std.proofs.Common.{List, length, ap}
use Rattle.fn_tree.specs.declared.program.Item.{Item}
use Rattle.r3_model.specs.Functions.{language_of}
use Rattle.r3_model.specs.Event.{Dequeue}
use Rattle.r3_model.specs.Script as script
use Rattle.r3_exec.specs.Ends.{dequeue_reply}
use Rattle.r3_exec.specs.Runs.{language}
use Rattle.r3_session.proofs.Doing.{asks-nothing, done-stops, event-done, event-stops}
use Rattle.r3_session.proofs.Leaving.{syncs-same}
use Rattle.r3_session.proofs.Looking.{on-err}
use Rattle.r3_session.proofs.events.declared_dequeue.Goals as goal

pub dequeue-requires-clause-runs : goal.dequeue-requires-clause-runs
dequeue-requires-clause-runs g c = let x = c.requires.runs in (x.0, length x.0.history, x.1)

pub returns-in_ok-dequeue_text-in-Ok-clause-does : goal.returns-in_ok-dequeue_text-in-Ok-clause-does
returns-in_ok-dequeue_text-in-Ok-clause-does g c = λ st runs.
    let k = length st.history in (
      dequeue_reply c.in-Ok.end,
      c.in_ok-dequeue_text-in-Ok.ensures,
      event-done g.D.Desk.size g.D.Desk.image g.D.Desk.may_leave g.D.Desk.moment g.D.Desk.reach g.D.Desk.said g.D.Desk.asked g.D.Desk.syncs c.only_appends.ensures c.args.desk.now c.dequeue.new.desk c.dequeue.new.self st (Dequeue c.args.queue.now) (dequeue_reply c.in-Ok.end)
          (c.in-Ok.ensures.does st k runs) (c.dequeue.ensures.crash st k runs) (c.dequeue.ensures.reads st k runs),
    )

pub returns-in_err-dequeue_text-in-Ok-clause-stops : goal.returns-in_err-dequeue_text-in-Ok-clause-stops
returns-in_err-dequeue_text-in-Ok-clause-stops g c = λ st runs.
    let k = length st.history in
    on-err _ (done-stops g.D.Desk.size g.D.Desk.image g.D.Desk.may_leave g.D.Desk.moment g.D.Desk.reach g.D.Desk.said g.D.Desk.asked g.D.Desk.syncs (language c.args.exec.now) c.args.desk.now c.dequeue.new.desk c.dequeue.new.self st (script.Does (Dequeue c.args.queue.now)) (dequeue_reply c.in-Ok.end) (ap (λ (items : List Item). language_of items) c.dequeue.ensures.program)
    (event-done g.D.Desk.size g.D.Desk.image g.D.Desk.may_leave g.D.Desk.moment g.D.Desk.reach g.D.Desk.said g.D.Desk.asked g.D.Desk.syncs c.only_appends.ensures c.args.desk.now c.dequeue.new.desk c.dequeue.new.self st (Dequeue c.args.queue.now) (dequeue_reply c.in-Ok.end)
    (c.in-Ok.ensures.does st k runs) (c.dequeue.ensures.crash st k runs) (c.dequeue.ensures.reads st k runs)))

pub returns-in-Err-clause-stops : goal.returns-in-Err-clause-stops
returns-in-Err-clause-stops g c = λ st runs.
    let k = length st.history in
    event-stops g.D.Desk.size g.D.Desk.image g.D.Desk.may_leave g.D.Desk.moment g.D.Desk.reach g.D.Desk.said g.D.Desk.asked g.D.Desk.syncs (language c.args.exec.now) c.args.desk.now c.dequeue.new.desk st (Dequeue c.args.queue.now)
    (asks-nothing g.D.Desk.size g.D.Desk.image g.D.Desk.may_leave g.D.Desk.moment g.D.Desk.reach g.D.Desk.said g.D.Desk.asked g.D.Desk.syncs (language c.args.exec.now) c.args.desk.now c.dequeue.new.desk st (Dequeue c.args.queue.now) c.dequeue.ensures.asked)
    (c.dequeue.ensures.crash st k runs) (c.dequeue.ensures.reads st k runs)
    (syncs-same (g.D.Desk.syncs c.args.desk.now) (g.D.Desk.syncs c.dequeue.new.desk) 2 c.dequeue.ensures.syncs)
