use Rattle.std.proofs.Common.{List, length, ap}
use Rattle.fn_tree.specs.declared.program.Item.{Item}
use Rattle.r3_model.specs.Functions.{language_of}
use Rattle.r3_model.specs.Script as script
use Rattle.r3_exec.specs.Runs.{language}
use Rattle.r3_recover.specs.Ends.{drain_reply}
use Rattle.r3_session.proofs.Doing.{done-stops, drain-done, drain-stops}
use Rattle.r3_session.proofs.Looking.{on-err}
use Rattle.r3_session.proofs.events.drain.Goals as goal

pub drain-requires : goal.drain-requires
drain-requires g c = let x = c.requires.runs in (x.0, length x.0.history, x.1)

pub returns-in_ok-drain_text-in-Ok-clause-does : goal.returns-in_ok-drain_text-in-Ok-clause-does
returns-in_ok-drain_text-in-Ok-clause-does g c = λ st runs.
    let k = length st.history in (
      drain_reply c.in-Ok.end,
      c.in_ok-drain_text-in-Ok.ensures,
      drain-done g.D.Desk.size g.D.Desk.image g.D.Desk.may_leave g.D.Desk.moment g.D.Desk.reach g.D.Desk.said g.D.Desk.asked g.D.Desk.syncs c.only_appends.ensures c.drains_by_turns.ensures c.args.desk.now c.drain.new.desk c.drain.new.exec st c.args.turns (drain_reply c.in-Ok.end) (c.in-Ok.ensures.does st k runs),
    )

pub returns-in_err-drain_text-in-Ok-clause-stops : goal.returns-in_err-drain_text-in-Ok-clause-stops
returns-in_err-drain_text-in-Ok-clause-stops g c = λ st runs.
    let k = length st.history in
    on-err _ (done-stops g.D.Desk.size g.D.Desk.image g.D.Desk.may_leave g.D.Desk.moment g.D.Desk.reach g.D.Desk.said g.D.Desk.asked g.D.Desk.syncs (language c.args.exec.now) c.args.desk.now c.drain.new.desk c.drain.new.exec st (script.Drain c.args.turns) (drain_reply c.in-Ok.end) (ap (λ (items : List Item). language_of items) c.drain.ensures.program)
    (drain-done g.D.Desk.size g.D.Desk.image g.D.Desk.may_leave g.D.Desk.moment g.D.Desk.reach g.D.Desk.said g.D.Desk.asked g.D.Desk.syncs c.only_appends.ensures c.drains_by_turns.ensures c.args.desk.now c.drain.new.desk c.drain.new.exec st c.args.turns (drain_reply c.in-Ok.end) (c.in-Ok.ensures.does st k runs)))

pub returns-in-Err-clause-stops : goal.returns-in-Err-clause-stops
returns-in-Err-clause-stops g c = λ st runs.
    drain-stops g.D.Desk.size g.D.Desk.image g.D.Desk.may_leave g.D.Desk.moment g.D.Desk.reach g.D.Desk.said g.D.Desk.asked g.D.Desk.syncs (language c.args.exec.now) c.args.desk.now c.drain.new.desk st c.args.turns (c.in-Err.ensures.early st (length st.history) runs)
