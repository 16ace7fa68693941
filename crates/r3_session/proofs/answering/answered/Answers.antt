use Rattle.std.proofs.Common.{List, length, ap}
use Rattle.fn_tree.specs.declared.program.Item.{Item}
use Rattle.r3_model.specs.Functions.{language_of}
use Rattle.r3_lines.specs.Lines.{as_line}
use Rattle.r3_exec.specs.Runs.{language}
use Rattle.r3_recover.specs.Kept.{settled_by}
use Rattle.r3_session.proofs.Doing.{settle-stops, settled-line}
use Rattle.r3_session.proofs.answering.answered.Goals as goal

pub settle-requires : goal.settle-requires
settle-requires g c =
    let x = c.requires.runs in
    let d = (c.in-Ok.ensures.does x.0 x.1).2 in
    (d.after, settled_by (length x.0.history) d.marks, d.runs)

pub returns-in-Ok-settle-clause-does : goal.returns-in-Ok-settle-clause-does
returns-in-Ok-settle-clause-does g c = λ st runs.
    let x = c.in-Ok.ensures.does st runs in
    let d = x.2 in
    let k = settled_by (length st.history) d.marks in
    settled-line g.D.Desk.size g.D.Desk.image g.D.Desk.may_leave g.D.Desk.moment g.D.Desk.reach g.D.Desk.said g.D.Desk.asked g.D.Desk.syncs c.args.desk.now c.done.new.desk c.settle.new.desk c.done.new.exec c.settle.new.self st (as_line c.args.line.now) x.0 c.in-Ok.text.items
    (ap (λ (items : List Item). language_of items) c.settle.ensures.program) x.1 d (c.in-Ok-settle.ensures.settled d.after k d.runs) (c.settle.ensures.crash d.after k d.runs)
    c.done.ensures.said c.settle.ensures.asked c.settle.ensures.few_syncs

pub returns-in-Err-settle-clause-stops : goal.returns-in-Err-settle-clause-stops
returns-in-Err-settle-clause-stops g c = λ st runs.
    let x = c.in-Ok.ensures.does st runs in
    let d = x.2 in
    let k = settled_by (length st.history) d.marks in
    settle-stops g.D.Desk.size g.D.Desk.image g.D.Desk.may_leave g.D.Desk.moment g.D.Desk.reach g.D.Desk.said g.D.Desk.asked g.D.Desk.syncs (language c.args.exec.now) c.args.desk.now c.done.new.desk c.settle.new.desk c.done.new.exec st (as_line c.args.line.now) x.0
    (ap (λ (items : List Item). language_of items) c.done.ensures.program) d (c.settle.ensures.crash d.after k d.runs) (c.settle.ensures.reads d.after k d.runs)
    c.done.ensures.said c.settle.ensures.asked c.settle.ensures.few_syncs
