use Rattle.std.proofs.Common.{List, length, ap, arith}
use Rattle.fn_tree.specs.declared.program.Item.{Item}
use Rattle.r3_model.specs.Functions.{language_of}
use Rattle.r3_session.proofs.Beginning.{begins, begins-nothing, begins-unsettled}
use Rattle.r3_session.proofs.Leaving.{few-more, few-then}
use Rattle.r3_session.proofs.session.Session.open.Goals as goal

pub settle-requires : goal.settle-requires
settle-requires g c = let o = c.in-Ok.ensures.does in (o.after, length o.history, o.runs)

pub returns-in-Ok-settle-clause-does : goal.returns-in-Ok-settle-clause-does
returns-in-Ok-settle-clause-does g c =
    let o = c.in-Ok.ensures.does in
    begins g.D.Desk.size g.D.Desk.image g.D.Desk.may_leave g.D.Desk.moment g.D.Desk.reach g.D.Desk.said g.D.Desk.asked g.D.Desk.syncs c.args.desk.now c.open_exec.new.desk c.settle.new.desk c.in-Ok.exec c.settle.new.self c.args.text.now (ap (λ (items : List Item). language_of items) c.settle.ensures.program) o
    (c.in-Ok-settle.ensures.settled o.after (length o.history) o.runs) (c.settle.ensures.crash o.after (length o.history) o.runs)
    c.open_exec.ensures.said c.open_exec.ensures.asked c.settle.ensures.asked c.settle.ensures.few_syncs

pub returns-in-Err-Disk-clause-stops : goal.returns-in-Err-Disk-clause-stops
returns-in-Err-Disk-clause-stops g c = λ h i told is.
    let o = c.in-Ok.ensures.does in
    begins-unsettled g.D.Desk.size g.D.Desk.image g.D.Desk.may_leave g.D.Desk.moment g.D.Desk.reach g.D.Desk.said g.D.Desk.asked g.D.Desk.syncs (language_of c.args.program) c.args.desk.now c.open_exec.new.desk c.settle.new.desk c.in-Ok.exec c.args.text.now h (ap (λ (items : List Item). language_of items) c.in-Ok.ensures.program) o
    (c.one_history.ensures i o.history h (o.is_history i told) is)
    (c.settle.ensures.crash o.after (length o.history) o.runs) (c.settle.ensures.reads o.after (length o.history) o.runs)
    c.open_exec.ensures.said c.open_exec.ensures.asked c.settle.ensures.asked

pub returns-in-Err-Memory-clause-stops : goal.returns-in-Err-Memory-clause-stops
returns-in-Err-Memory-clause-stops g c = λ h i told is.
    let o = c.in-Ok.ensures.does in
    begins-unsettled g.D.Desk.size g.D.Desk.image g.D.Desk.may_leave g.D.Desk.moment g.D.Desk.reach g.D.Desk.said g.D.Desk.asked g.D.Desk.syncs (language_of c.args.program) c.args.desk.now c.open_exec.new.desk c.settle.new.desk c.in-Ok.exec c.args.text.now h (ap (λ (items : List Item). language_of items) c.in-Ok.ensures.program) o
    (c.one_history.ensures i o.history h (o.is_history i told) is)
    (c.settle.ensures.crash o.after (length o.history) o.runs) (c.settle.ensures.reads o.after (length o.history) o.runs)
    c.open_exec.ensures.said c.open_exec.ensures.asked c.settle.ensures.asked

pub returns-in-Err-clause-stops : goal.returns-in-Err-clause-stops
returns-in-Err-clause-stops g c = λ h i told is.
    begins-nothing g.D.Desk.size g.D.Desk.image g.D.Desk.may_leave g.D.Desk.moment g.D.Desk.reach g.D.Desk.said g.D.Desk.asked g.D.Desk.syncs (language_of c.args.program) c.args.desk.now c.open_exec.new.desk c.args.text.now h c.open_exec.ensures.asked
    (c.open_exec.ensures.crash h i told is) (c.open_exec.ensures.reads h i told is)

pub returns-in-Ok-settle-clause-few_syncs : goal.returns-in-Ok-settle-clause-few_syncs
returns-in-Ok-settle-clause-few_syncs g c = few-then (g.D.Desk.syncs c.args.desk.now) (g.D.Desk.syncs c.open_exec.new.desk) (g.D.Desk.syncs c.settle.new.desk) 1 2 c.open_exec.ensures.few_syncs c.settle.ensures.few_syncs

pub returns-in-Err-Disk-clause-few_syncs : goal.returns-in-Err-Disk-clause-few_syncs
returns-in-Err-Disk-clause-few_syncs g c = few-then (g.D.Desk.syncs c.args.desk.now) (g.D.Desk.syncs c.open_exec.new.desk) (g.D.Desk.syncs c.settle.new.desk) 1 2 c.open_exec.ensures.few_syncs c.settle.ensures.few_syncs

pub returns-in-Err-Memory-clause-few_syncs : goal.returns-in-Err-Memory-clause-few_syncs
returns-in-Err-Memory-clause-few_syncs g c = few-then (g.D.Desk.syncs c.args.desk.now) (g.D.Desk.syncs c.open_exec.new.desk) (g.D.Desk.syncs c.settle.new.desk) 1 2 c.open_exec.ensures.few_syncs c.settle.ensures.few_syncs

pub returns-in-Err-clause-few_syncs : goal.returns-in-Err-clause-few_syncs
returns-in-Err-clause-few_syncs g c = few-more (g.D.Desk.syncs c.args.desk.now) (g.D.Desk.syncs c.open_exec.new.desk) 1 3 (omega arith) c.open_exec.ensures.few_syncs

pub returns-in-Ok-settle-clause-alone : goal.returns-in-Ok-settle-clause-alone
returns-in-Ok-settle-clause-alone g c = λ i told none.
    let o = c.in-Ok.ensures.does in
    absurd (none o.history (o.is_history i told) o.same)

pub returns-in-Err-Disk-clause-alone : goal.returns-in-Err-Disk-clause-alone
returns-in-Err-Disk-clause-alone g c = λ i told none.
    let o = c.in-Ok.ensures.does in
    absurd (none o.history (o.is_history i told) o.same)

pub returns-in-Err-Memory-clause-alone : goal.returns-in-Err-Memory-clause-alone
returns-in-Err-Memory-clause-alone g c = λ i told none.
    let o = c.in-Ok.ensures.does in
    absurd (none o.history (o.is_history i told) o.same)
