use Rattle.std.proofs.Common.{◌≡◌, ◌⊎◌, None, inl, refl, ◌∙◌, subst}
use Rattle.std.specs.Option.{ForSome}
use Rattle.r3_entry.specs.Image.{IsHistoryOf}
use Rattle.r3_model.specs.Event.{Turn}
use Rattle.r3_model.specs.Event as reply
use Rattle.r3_model.specs.Machine.{snap_of}
use Rattle.r3_model.specs.Turns.{call_of_turn, turned}
use Rattle.r3_exec.specs.Does.{AskedFirst}
use Rattle.r3_exec.specs.Runs.{language}
use Rattle.r3_exec.specs.Turning.{Comes}
use Rattle.r3_exec.specs.declared.turning.Turning.{Turning}
use Rattle.r3_exec.proofs.Doing.{by_answer, told_none}
use Rattle.r3_exec.proofs.Leaving.{quiet}
use Rattle.r3_exec.proofs.Syncs.{no_more}
use Rattle.r3_exec.proofs.TurnGives.{no_call}
use Rattle.r3_exec.proofs.Turnings.{on_err}
use Rattle.r3_exec.proofs.Discarding.{nothing_done}
use Rattle.r3_exec.proofs.exec.Exec.turn_of.Goals as goal

pub returns-in-Ok-NotPending-clause-does : goal.returns-in-Ok-NotPending-clause-does
returns-in-Ok-NotPending-clause-does g c = λ st k runs.
    let P = language c.args.self.now in
    let id = c.args.id.now in
    let comes = subst (λ (t : Turning). Comes P st.history id (turned P st.history id) (call_of_turn P st.history id) t) c.in-Ok-NotPending.field-0-is
    (c.in-Ok-NotPending.ensures st.history runs.stands.keeps.store) in
    by_answer g.D.Desk.size g.D.Desk.image g.D.Desk.may_leave g.D.Desk.asked g.D.Desk.syncs c.args.desk.now c.args.self.now st k (Turn id) None
    (reply.NotPending c.in-Ok-NotPending.status) _ runs (comes.0 (snap_of st.begun (Turn id)) None) refl (no_call P st id None comes.1) refl

pub returns-in-Ok-NotPending-clause-crash : goal.returns-in-Ok-NotPending-clause-crash
returns-in-Ok-NotPending-clause-crash g c = λ st k runs.
    quiet g.D.Desk.may_leave g.D.Desk.moment g.D.Desk.reach g.D.Desk.said g.D.Desk.asked c.args.desk.now st.history k
    (g.met.D.Desk.counts_now c.args.desk.now) (g.met.D.Desk.only_now c.args.desk.now)
    (λ image left. c.reads_as_settled.ensures.crash c.args.desk.now c.args.self.now.store st.history k image runs.holds left)

pub returns-in-Ok-Unexpected-clause-does : goal.returns-in-Ok-Unexpected-clause-does
returns-in-Ok-Unexpected-clause-does g c = λ st k runs.
    let P = language c.args.self.now in
    let id = c.args.id.now in
    let comes = subst (λ (t : Turning). Comes P st.history id (turned P st.history id) (call_of_turn P st.history id) t) c.in-Ok-Unexpected.field-0-is
    (c.in-Ok-Unexpected.ensures st.history runs.stands.keeps.store) in
    by_answer g.D.Desk.size g.D.Desk.image g.D.Desk.may_leave g.D.Desk.asked g.D.Desk.syncs c.args.desk.now c.args.self.now st k (Turn id) None
    (reply.Unexpects c.in-Ok-Unexpected.n c.in-Ok-Unexpected.recorded c.in-Ok-Unexpected.asked) _ runs (comes.0 (snap_of st.begun (Turn id)) None) refl (no_call P st id None comes.1) refl

pub returns-in-Ok-Unexpected-clause-crash : goal.returns-in-Ok-Unexpected-clause-crash
returns-in-Ok-Unexpected-clause-crash g c = λ st k runs.
    quiet g.D.Desk.may_leave g.D.Desk.moment g.D.Desk.reach g.D.Desk.said g.D.Desk.asked c.args.desk.now st.history k
    (g.met.D.Desk.counts_now c.args.desk.now) (g.met.D.Desk.only_now c.args.desk.now)
    (λ image left. c.reads_as_settled.ensures.crash c.args.desk.now c.args.self.now.store st.history k image runs.holds left)

pub returns-in-Ok-Waiting-clause-does : goal.returns-in-Ok-Waiting-clause-does
returns-in-Ok-Waiting-clause-does g c = λ st k runs.
    let P = language c.args.self.now in
    let id = c.args.id.now in
    let comes = subst (λ (t : Turning). Comes P st.history id (turned P st.history id) (call_of_turn P st.history id) t) c.in-Ok-Waiting.field-0-is
    (c.in-Ok-Waiting.ensures st.history runs.stands.keeps.store) in
    by_answer g.D.Desk.size g.D.Desk.image g.D.Desk.may_leave g.D.Desk.asked g.D.Desk.syncs c.args.desk.now c.args.self.now st k (Turn id) None
    (reply.Waiting c.in-Ok-Waiting.id) _ runs (comes.0 (snap_of st.begun (Turn id)) None) refl (no_call P st id None comes.1) refl

pub returns-in-Ok-Waiting-clause-crash : goal.returns-in-Ok-Waiting-clause-crash
returns-in-Ok-Waiting-clause-crash g c = λ st k runs.
    quiet g.D.Desk.may_leave g.D.Desk.moment g.D.Desk.reach g.D.Desk.said g.D.Desk.asked c.args.desk.now st.history k
    (g.met.D.Desk.counts_now c.args.desk.now) (g.met.D.Desk.only_now c.args.desk.now)
    (λ image left. c.reads_as_settled.ensures.crash c.args.desk.now c.args.self.now.store st.history k image runs.holds left)

pub returns-in-Ok-Enters-clause-early : goal.returns-in-Ok-Enters-clause-early
returns-in-Ok-Enters-clause-early g c = λ st k runs.
    on_err c.enter_turn.result (AskedFirst (language c.args.self.now) st (Turn c.args.id.now) (g.D.Desk.asked c.args.desk.now) (g.D.Desk.asked c.enter_turn.new.desk))
    (None, 0, c.enter_turn.ensures.asked ∙ told_none (g.D.Desk.asked c.args.desk.now))

pub returns-in-Ok-Commits-clause-early : goal.returns-in-Ok-Commits-clause-early
returns-in-Ok-Commits-clause-early g c = λ st k runs.
    on_err c.commit_turn.result (AskedFirst (language c.args.self.now) st (Turn c.args.id.now) (g.D.Desk.asked c.args.desk.now) (g.D.Desk.asked c.commit_turn.new.desk))
    (None, 0, c.commit_turn.ensures.asked ∙ told_none (g.D.Desk.asked c.args.desk.now))

pub returns-in-Ok-NotPending-clause-few_syncs : goal.returns-in-Ok-NotPending-clause-few_syncs
returns-in-Ok-NotPending-clause-few_syncs g c = no_more (g.D.Desk.syncs c.args.desk.now) (g.D.Desk.syncs c.args.desk.now) refl 2

pub returns-in-Ok-Unexpected-clause-few_syncs : goal.returns-in-Ok-Unexpected-clause-few_syncs
returns-in-Ok-Unexpected-clause-few_syncs g c = no_more (g.D.Desk.syncs c.args.desk.now) (g.D.Desk.syncs c.args.desk.now) refl 2

pub returns-in-Ok-Waiting-clause-few_syncs : goal.returns-in-Ok-Waiting-clause-few_syncs
returns-in-Ok-Waiting-clause-few_syncs g c = no_more (g.D.Desk.syncs c.args.desk.now) (g.D.Desk.syncs c.args.desk.now) refl 2

pub returns-in-Ok-Enters-clause-asked_kept : goal.returns-in-Ok-Enters-clause-asked_kept
returns-in-Ok-Enters-clause-asked_kept g c = λ st k runs.
    on_err c.enter_turn.result ((g.D.Desk.asked c.enter_turn.new.desk ≡ g.D.Desk.asked c.args.desk.now) ⊎ ForSome (g.D.Desk.image c.enter_turn.new.desk) (IsHistoryOf st.history))
    (inl c.enter_turn.ensures.asked)

pub returns-in-Ok-Enters-clause-few_syncs : goal.returns-in-Ok-Enters-clause-few_syncs
returns-in-Ok-Enters-clause-few_syncs g c = no_more (g.D.Desk.syncs c.args.desk.now) (g.D.Desk.syncs c.enter_turn.new.desk) c.enter_turn.ensures.syncs 2

pub returns-in-Ok-Commits-clause-asked_kept : goal.returns-in-Ok-Commits-clause-asked_kept
returns-in-Ok-Commits-clause-asked_kept g c = λ st k runs.
    on_err c.commit_turn.result ((g.D.Desk.asked c.commit_turn.new.desk ≡ g.D.Desk.asked c.args.desk.now) ⊎ ForSome (g.D.Desk.image c.commit_turn.new.desk) (IsHistoryOf st.history))
    (inl c.commit_turn.ensures.asked)

pub returns-in-Ok-Commits-clause-few_syncs : goal.returns-in-Ok-Commits-clause-few_syncs
returns-in-Ok-Commits-clause-few_syncs g c = no_more (g.D.Desk.syncs c.args.desk.now) (g.D.Desk.syncs c.commit_turn.new.desk) c.commit_turn.ensures.syncs 2

pub returns-in-Err-clause-few_syncs : goal.returns-in-Err-clause-few_syncs
returns-in-Err-clause-few_syncs g c = no_more (g.D.Desk.syncs c.args.desk.now) (g.D.Desk.syncs c.args.desk.now) refl 2

pub returns-in-Ok-NotPending-clause-discards : goal.returns-in-Ok-NotPending-clause-discards
returns-in-Ok-NotPending-clause-discards g c = nothing_done c.args.self.now

pub returns-in-Ok-Unexpected-clause-discards : goal.returns-in-Ok-Unexpected-clause-discards
returns-in-Ok-Unexpected-clause-discards g c = nothing_done c.args.self.now

pub returns-in-Ok-Waiting-clause-discards : goal.returns-in-Ok-Waiting-clause-discards
returns-in-Ok-Waiting-clause-discards g c = nothing_done c.args.self.now
