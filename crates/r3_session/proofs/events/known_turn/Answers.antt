use Rattle.std.proofs.Common.{List, length, ap}
use Rattle.fn_tree.specs.declared.program.Item.{Item}
use Rattle.r3_model.specs.Functions.{language_of}
use Rattle.r3_model.specs.Event.{Turn}
use Rattle.r3_model.specs.Script as script
use Rattle.r3_exec.specs.Ends.{turn_reply}
use Rattle.r3_exec.specs.Runs.{language}
use Rattle.r3_session.proofs.Doing.{done-stops, event-done, event-stops}
use Rattle.r3_session.proofs.Faults.{turn-raises}
use Rattle.r3_session.proofs.Looking.{on-err}
use Rattle.r3_session.proofs.events.known_turn.Goals as goal

pub turn-requires : goal.turn-requires
turn-requires g c = let x = c.requires.known in record { known = (x.0, length x.0.history, x.1, x.2) }

pub returns-in_ok-turn_text-in-Ok-clause-does : goal.returns-in_ok-turn_text-in-Ok-clause-does
returns-in_ok-turn_text-in-Ok-clause-does g c = λ st runs.
    let k = length st.history in (
      turn_reply c.in-Ok.end,
      c.in_ok-turn_text-in-Ok.ensures,
      event-done g.D.Desk.size g.D.Desk.image g.D.Desk.may_leave g.D.Desk.moment g.D.Desk.reach g.D.Desk.said g.D.Desk.asked g.D.Desk.syncs c.only_appends.ensures c.args.desk.now c.turn.new.desk c.turn.new.self st (Turn c.args.id.now) (turn_reply c.in-Ok.end)
          (c.in-Ok.ensures.does st k runs) (c.turn.ensures.crash st k runs) (c.turn.ensures.reads st k runs),
    )

pub returns-in_err-turn_text-in-Ok-clause-stops : goal.returns-in_err-turn_text-in-Ok-clause-stops
returns-in_err-turn_text-in-Ok-clause-stops g c = λ st runs.
    let k = length st.history in
    on-err _ (done-stops g.D.Desk.size g.D.Desk.image g.D.Desk.may_leave g.D.Desk.moment g.D.Desk.reach g.D.Desk.said g.D.Desk.asked g.D.Desk.syncs (language c.args.exec.now) c.args.desk.now c.turn.new.desk c.turn.new.self st (script.Does (Turn c.args.id.now)) (turn_reply c.in-Ok.end) (ap (λ (items : List Item). language_of items) c.turn.ensures.program)
    (event-done g.D.Desk.size g.D.Desk.image g.D.Desk.may_leave g.D.Desk.moment g.D.Desk.reach g.D.Desk.said g.D.Desk.asked g.D.Desk.syncs c.only_appends.ensures c.args.desk.now c.turn.new.desk c.turn.new.self st (Turn c.args.id.now) (turn_reply c.in-Ok.end)
    (c.in-Ok.ensures.does st k runs) (c.turn.ensures.crash st k runs) (c.turn.ensures.reads st k runs)))

pub returns-in-Err-clause-stops : goal.returns-in-Err-clause-stops
returns-in-Err-clause-stops g c = λ st runs.
    let k = length st.history in
    event-stops g.D.Desk.size g.D.Desk.image g.D.Desk.may_leave g.D.Desk.moment g.D.Desk.reach g.D.Desk.said g.D.Desk.asked g.D.Desk.syncs (language c.args.exec.now) c.args.desk.now c.turn.new.desk st (Turn c.args.id.now)
    (c.in-Err.ensures.early st k runs)
    (c.turn.ensures.crash st k runs) (c.turn.ensures.reads st k runs) c.turn.ensures.few_syncs

pub returns-in_ok-turn_text-in-Ok-clause-ask_faults : goal.returns-in_ok-turn_text-in-Ok-clause-ask_faults
returns-in_ok-turn_text-in-Ok-clause-ask_faults g c = turn-raises c.turn.result (g.D.Desk.ask_faults c.args.desk.now) (g.D.Desk.ask_faults c.turn.new.desk) c.turn.ensures.again c.turn.ensures.answered

pub returns-in_err-turn_text-in-Ok-clause-ask_faults : goal.returns-in_err-turn_text-in-Ok-clause-ask_faults
returns-in_err-turn_text-in-Ok-clause-ask_faults g c = turn-raises c.turn.result (g.D.Desk.ask_faults c.args.desk.now) (g.D.Desk.ask_faults c.turn.new.desk) c.turn.ensures.again c.turn.ensures.answered

pub returns-in-Err-clause-ask_faults : goal.returns-in-Err-clause-ask_faults
returns-in-Err-clause-ask_faults g c = turn-raises c.turn.result (g.D.Desk.ask_faults c.args.desk.now) (g.D.Desk.ask_faults c.turn.new.desk) c.turn.ensures.again c.turn.ensures.answered
