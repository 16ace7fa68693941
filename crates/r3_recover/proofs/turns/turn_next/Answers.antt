use Rattle.std.proofs.Common.{Bool, ◌||◌, length, sym, subst, ap, ◌∙◌}
use Rattle.std.specs.Prelude.{IsSome}
use Rattle.r3_model.specs.Language.{Text}
use Rattle.r3_model.specs.Rows.{flow_at}
use Rattle.r3_exec.specs.Ends.{turn_reply}
use Rattle.r3_exec.specs.Runs.{language}
use Rattle.r3_recover.specs.Kept.{settled_by}
use Rattle.r3_recover.proofs.Failing.{counts-turn}
use Rattle.r3_recover.proofs.Taking.{raised-once, turn-done, turn-ends}
use Rattle.r3_recover.proofs.turns.turn_next.Goals as goal

pub turn-requires : goal.turn-requires
turn-requires g c =
    let x = c.requires.point in
    let p = x.5 in
    let h = p.after.history in
    record { known = (p.after, settled_by x.2 p.marks, p.runs, subst (λ (id : Text). IsSome (flow_at h (length h) id)) (sym c.as_str.ensures.text) p.there.0) }

pub returns-in-Ok-clause-goes : goal.returns-in-Ok-clause-goes
returns-in-Ok-clause-goes g c = λ from st k turns ids p.
    turn-done g.D.Desk.size g.D.Desk.image g.D.Desk.may_leave g.D.Desk.moment g.D.Desk.reach g.D.Desk.said g.D.Desk.asked g.D.Desk.syncs c.only_appends.ensures c.rows_follow.ensures.follow c.rows_follow.ensures.tell
    from c.args.desk.now c.turn.new.desk c.args.exec.now c.turn.new.self st k turns c.args.round.now.left c.take.new.self.left c.args.id.now c.as_str.result.now ids c.args.round.now.changed c.take.new.self.changed (turn_reply c.in-Ok.end)
    p c.as_str.ensures.text c.requires.left c.take.ensures.left (c.take.ensures.changed ∙ ap (λ (b : Bool). c.args.round.now.changed || b) c.has_gone_on.ensures)
    c.turn.ensures.program c.in-Ok.ensures.does c.turn.ensures.crash c.turn.ensures.said

pub returns-in-Err-clause-goes : goal.returns-in-Err-clause-goes
returns-in-Err-clause-goes g c = λ from st k turns ids p.
    turn-ends g.D.Desk.size g.D.Desk.image g.D.Desk.may_leave g.D.Desk.moment g.D.Desk.reach g.D.Desk.said g.D.Desk.asked g.D.Desk.syncs c.only_appends.ensures
    from c.args.desk.now c.turn.new.desk c.args.exec.now st k turns _ _ _ _ _ p c.as_str.ensures.text c.requires.left c.in-Err.ensures.early c.in-Err.ensures.asked_kept c.in-Err.ensures.few_syncs c.turn.ensures.crash c.turn.ensures.reads

pub returns-in-Ok-clause-ask_faults : goal.returns-in-Ok-clause-ask_faults
returns-in-Ok-clause-ask_faults g c = raised-once c.in-Ok.end _ _ c.in-Ok.ensures.again c.in-Ok.ensures.answered

pub returns-in-Err-clause-ask_faults : goal.returns-in-Err-clause-ask_faults
returns-in-Err-clause-ask_faults g c = (0, c.in-Err.ensures.answered (λ is. cc))

pub returns-in-Ok-clause-unanswered : goal.returns-in-Ok-clause-unanswered
returns-in-Ok-clause-unanswered g c =
    let x = c.requires.point in
    let p = x.5 in
    let d = c.in-Ok.ensures.does p.after (settled_by x.2 p.marks) p.runs in
    counts-turn g.D.Desk.asked g.D.Desk.ask_faults c.args.desk.now c.turn.new.desk (language c.turn.new.self) p.after d.after c.as_str.result.now c.in-Ok.end d.calls d.steps d.told
    c.in-Ok.ensures.again c.in-Ok.ensures.answered
