use Rattle.std.proofs.Common.{List, length, ap}
use Rattle.fn_tree.specs.declared.program.Item.{Item}
use Rattle.r3_model.specs.Functions.{language_of}
use Rattle.r3_model.specs.Event.{Run}
use Rattle.r3_model.specs.Script as script
use Rattle.r3_exec.specs.Ends.{command_reply}
use Rattle.r3_exec.specs.Runs.{language}
use Rattle.r3_session.proofs.Doing.{asks-nothing, done-stops, event-done, event-stops}
use Rattle.r3_session.proofs.Leaving.{syncs-same}
use Rattle.r3_session.proofs.Looking.{on-err}
use Rattle.r3_session.proofs.events.command.Goals as goal

pub append-requires-clause-runs : goal.append-requires-clause-runs
append-requires-clause-runs g c = let x = c.requires.runs in (x.0, length x.0.history, x.1)

pub returns-in_ok-command_text-in-Ok-clause-does : goal.returns-in_ok-command_text-in-Ok-clause-does
returns-in_ok-command_text-in-Ok-clause-does g c = λ st runs.
    let k = length st.history in (
      command_reply c.in-Ok.end,
      c.in_ok-command_text-in-Ok.ensures,
      event-done g.D.Desk.size g.D.Desk.image g.D.Desk.may_leave g.D.Desk.moment g.D.Desk.reach g.D.Desk.said g.D.Desk.asked g.D.Desk.syncs c.only_appends.ensures c.args.desk.now c.append.new.desk c.append.new.self st (Run c.args.command.now) (command_reply c.in-Ok.end)
          (c.in-Ok.ensures.does st k runs) (c.append.ensures.crash st k runs) (c.append.ensures.reads st k runs),
    )

pub returns-in_err-command_text-in-Ok-clause-stops : goal.returns-in_err-command_text-in-Ok-clause-stops
returns-in_err-command_text-in-Ok-clause-stops g c = λ st runs.
    let k = length st.history in
    on-err _ (done-stops g.D.Desk.size g.D.Desk.image g.D.Desk.may_leave g.D.Desk.moment g.D.Desk.reach g.D.Desk.said g.D.Desk.asked g.D.Desk.syncs (language c.args.exec.now) c.args.desk.now c.append.new.desk c.append.new.self st (script.Does (Run c.args.command.now)) (command_reply c.in-Ok.end) (ap (λ (items : List Item). language_of items) c.append.ensures.program)
    (event-done g.D.Desk.size g.D.Desk.image g.D.Desk.may_leave g.D.Desk.moment g.D.Desk.reach g.D.Desk.said g.D.Desk.asked g.D.Desk.syncs c.only_appends.ensures c.args.desk.now c.append.new.desk c.append.new.self st (Run c.args.command.now) (command_reply c.in-Ok.end)
    (c.in-Ok.ensures.does st k runs) (c.append.ensures.crash st k runs) (c.append.ensures.reads st k runs)))

pub returns-in-Err-clause-stops : goal.returns-in-Err-clause-stops
returns-in-Err-clause-stops g c = λ st runs.
    let k = length st.history in
    event-stops g.D.Desk.size g.D.Desk.image g.D.Desk.may_leave g.D.Desk.moment g.D.Desk.reach g.D.Desk.said g.D.Desk.asked g.D.Desk.syncs (language c.args.exec.now) c.args.desk.now c.append.new.desk st (Run c.args.command.now)
    (asks-nothing g.D.Desk.size g.D.Desk.image g.D.Desk.may_leave g.D.Desk.moment g.D.Desk.reach g.D.Desk.said g.D.Desk.asked g.D.Desk.syncs (language c.args.exec.now) c.args.desk.now c.append.new.desk st (Run c.args.command.now) c.append.ensures.asked)
    (c.append.ensures.crash st k runs) (c.append.ensures.reads st k runs)
    (syncs-same (g.D.Desk.syncs c.args.desk.now) (g.D.Desk.syncs c.append.new.desk) 2 c.append.ensures.syncs)
