use Rattle.std.proofs.Common.{◌≤◌, ◌^◌, ℕ, length, Ok, ap, sym, ◌∙◌, inl, subst, ⊎_elim}
use Rattle.r3_entry.specs.declared.entry.Entry.{Entry}
use Rattle.r3_entry.specs.Bytes.{entry}
use Rattle.r3_entry.specs.Limits.{IsEntry}
use Rattle.r3_store.specs.Holds.{MayFollow, IsReadable}
use Rattle.r3_laws.specs.OfStates.{flows_in}
use Rattle.r3_model.specs.Event.{Turn}
use Rattle.r3_exec.specs.Ends.{turn_reply}
use Rattle.r3_exec.specs.Runs.{language}
use Rattle.r3_exec.specs.Turning.{begun_after, history_after}
use Rattle.r3_exec.specs.declared.commit.Placed.{Placed}
use Rattle.r3_exec.specs.declared.ends.TurnEnd.{TurnEnd}
use Rattle.r3_exec.proofs.Begun.{is_pinned}
use Rattle.r3_exec.proofs.Doing.{by_step}
use Rattle.r3_exec.proofs.Leaving.{by_images_settled}
use Rattle.r3_exec.proofs.Txns.{keeping_after, not_empty, step_of}
use Rattle.r3_exec.proofs.TxnEntries.{is_entry, may_follow, one_flow, payload}
use Rattle.r3_exec.proofs.Writers.{is_open_now, same_conflict}
use Rattle.r3_exec.proofs.Discarding.{closes_behind}
use Rattle.r3_exec.proofs.exec.Exec.commit_entry.Goals as goal

pub place-requires-clause-limits : goal.place-requires-clause-limits
place-requires-clause-limits g c =
    let x = c.requires.commits in
    let t = x.3 in
    let items = c.args.self.now.program in
    let asked = t.txn.comes.3 in
    let snap = is_open_now (language c.args.self.now) x.0 c.args.id.now t.snap x.2.stands.valid t.txn.snap in
    subst (λ (e : Entry). IsEntry e) (sym t.made)
    (is_entry (language c.args.self.now) (c.programs_are_lawful.ensures items) x.0 x.2.stands.valid c.args.id.now t.snap snap asked.row t.request asked.there asked.asks
    (c.programs_are_limited.ensures items c.program.ensures.sound c.holds_values.ensures) t.txn.comes.2)

pub place-requires-clause-payload : goal.place-requires-clause-payload
place-requires-clause-payload g c =
    let x = c.requires.commits in
    let t = x.3 in
    let items = c.args.self.now.program in
    let asked = t.txn.comes.3 in
    let snap = is_open_now (language c.args.self.now) x.0 c.args.id.now t.snap x.2.stands.valid t.txn.snap in
    subst (λ (e : Entry). length (entry e) ≤ 2 ^ 23) (sym t.made)
    (payload (language c.args.self.now) (c.programs_are_lawful.ensures items) x.0 x.2.stands.valid c.args.id.now t.snap snap asked.row t.request asked.there asked.asks
    (c.programs_are_limited.ensures items c.program.ensures.sound c.holds_values.ensures) t.txn.comes.2)

pub place-requires-clause-one_flow : goal.place-requires-clause-one_flow
place-requires-clause-one_flow g c =
    let x = c.requires.commits in
    let t = x.3 in
    let items = c.args.self.now.program in
    let asked = t.txn.comes.3 in
    let snap = is_open_now (language c.args.self.now) x.0 c.args.id.now t.snap x.2.stands.valid t.txn.snap in
    subst (λ (e : Entry). flows_in e.writes ≤ 1) (sym t.made)
    (one_flow (language c.args.self.now) (c.programs_are_lawful.ensures items) x.0 x.2.stands.valid c.args.id.now t.snap snap asked.row t.request asked.there asked.asks
    (c.programs_are_limited.ensures items c.program.ensures.sound c.holds_values.ensures) t.txn.comes.2)

pub place-requires-clause-readable : goal.place-requires-clause-readable
place-requires-clause-readable g c =
    let x = c.requires.commits in
    let t = x.3 in
    subst (λ (s : ℕ). IsReadable c.args.self.now.store s) (sym (ap (λ (e : Entry). e.snap) t.made))
    (inl (is_pinned c.args.self.now.store.pins x.0.begun c.args.id.now t.snap x.2.stands.keeps.pins t.txn.snap))

pub place-requires-clause-keeping : goal.place-requires-clause-keeping
place-requires-clause-keeping g c =
    let x = c.requires.commits in
    let t = x.3 in
    let asked = t.txn.comes.3 in
    let snap = is_open_now (language c.args.self.now) x.0 c.args.id.now t.snap x.2.stands.valid t.txn.snap in
    let may = subst (λ (e : Entry). MayFollow x.0.history e) (sym t.made)
    (may_follow (language c.args.self.now) (c.programs_are_lawful.ensures c.args.self.now.program) x.0 x.2.stands.valid c.args.id.now t.snap snap asked.row t.request asked.there asked.asks) in
    (x.0.history, x.0.begun, x.1, may, record { keeps = x.2.stands.keeps; holds = x.2.holds })

pub ended-requires : goal.ended-requires
ended-requires g c =
    let x = c.requires.commits in
    let t = x.3 in
    let asked = t.txn.comes.3 in
    let snap = is_open_now (language c.args.self.now) x.0 c.args.id.now t.snap x.2.stands.valid t.txn.snap in
    let may = subst (λ (e : Entry). MayFollow x.0.history e) (sym t.made)
    (may_follow (language c.args.self.now) (c.programs_are_lawful.ensures c.args.self.now.program) x.0 x.2.stands.valid c.args.id.now t.snap snap asked.row t.request asked.there asked.asks) in
    let is = c.in-Ok.ensures.placed x.0.history x.0.begun x.1 (record { keeps = x.2.stands.keeps; holds = x.2.holds }) may in
    let keeping = keeping_after g.D.Desk.size g.D.Desk.image g.D.Desk.may_leave c.place.new.desk c.place.new.self x.0.history x.0.begun x.1 c.args.entry c.in-Ok.placed is in
    (history_after x.0.history c.args.entry c.in-Ok.placed, x.0.begun, keeping.keeps)

pub returns-in-Ok-clause-does : goal.returns-in-Ok-clause-does
returns-in-Ok-clause-does g c = λ st k runs t.
    let P = language c.args.self.now in
    let id = c.args.id.now in
    let e = c.args.entry in
    let p = c.in-Ok.placed in
    let items = c.args.self.now.program in
    let lawful = c.programs_are_lawful.ensures items in
    let limited = c.programs_are_limited.ensures items c.program.ensures.sound c.holds_values.ensures in
    let asked = t.txn.comes.3 in
    let snap = is_open_now P st id t.snap runs.stands.valid t.txn.snap in
    let may = subst (λ (x : Entry). MayFollow st.history x) (sym t.made) (may_follow P lawful st runs.stands.valid id t.snap snap asked.row t.request asked.there asked.asks) in
    let is = c.in-Ok.ensures.placed st.history st.begun k (record { keeps = runs.stands.keeps; holds = runs.holds }) may in
    let keeping = keeping_after g.D.Desk.size g.D.Desk.image g.D.Desk.may_leave c.place.new.desk c.place.new.self st.history st.begun k e p is in
    let same = (same_conflict c.first_conflict_is.ensures P st.history id t.snap t.request e t.made snap).1 in
    let step = step_of P st id t.request t.txn.comes t.snap e t.txn.snap t.made g.D.Desk.size g.D.Desk.image g.D.Desk.may_leave c.place.new.desk c.place.new.self k p is
    (λ j told. sym same ∙ c.in-Ok.ensures.conflict st.history runs.stands.keeps.store j (ap (λ (o : Placed). Ok o) told))
    (λ j writes. ⊎_elim (λ found. cc) (λ wrong. absurd cc) (c.in-Ok.ensures.found st.history runs.stands.keeps.store j (same ∙ writes))) in
    let keeps = c.ended.ensures.begun (history_after st.history e p) st.begun keeping.keeps in
    by_step g.D.Desk.size g.D.Desk.image g.D.Desk.may_leave g.D.Desk.asked g.D.Desk.syncs c.args.desk.now c.place.new.desk c.args.self.now c.ended.new.self st
    (record { history = history_after st.history e p; begun = begun_after id p st.begun }) k (Turn id) _ _ step lawful limited c.keeps_valid.ensures.keeps runs.stands.valid (tt {0})
    keeps
    (c.holds_in_memory.ensures.gate c.place.new.desk c.place.new.self.store c.ended.new.self.store (history_after st.history e p) k c.ended.ensures.gate keeps.store keeping.holds)
    c.place.ensures.asked (c.place.ensures.syncs st.history runs.stands.keeps.store (not_empty st.history runs.stands.valid.begins)) (c.ended.ensures.program ∙ c.place.ensures.program) (ap (λ (x : TurnEnd). turn_reply x) c.ended.ensures.end)

pub returns-in-Ok-clause-crash : goal.returns-in-Ok-clause-crash
returns-in-Ok-clause-crash g c = λ st k runs.
    by_images_settled g.D.Desk.may_leave g.D.Desk.moment g.D.Desk.reach g.D.Desk.said g.D.Desk.asked _ _ st.history k c.place.ensures.asked
    (c.place.ensures.crash st.history st.begun k (record { keeps = runs.stands.keeps; holds = runs.holds }))

pub returns-in-Err-clause-crash : goal.returns-in-Err-clause-crash
returns-in-Err-clause-crash g c = λ st k runs.
    by_images_settled g.D.Desk.may_leave g.D.Desk.moment g.D.Desk.reach g.D.Desk.said g.D.Desk.asked _ _ st.history k c.place.ensures.asked
    (c.place.ensures.crash st.history st.begun k (record { keeps = runs.stands.keeps; holds = runs.holds }))

pub returns-in-Ok-clause-syncs : goal.returns-in-Ok-clause-syncs
returns-in-Ok-clause-syncs g c =
    let x = c.requires.commits in
    c.place.ensures.syncs x.0.history x.2.stands.keeps.store (not_empty x.0.history x.2.stands.valid.begins)

pub returns-in-Err-clause-syncs : goal.returns-in-Err-clause-syncs
returns-in-Err-clause-syncs g c =
    let x = c.requires.commits in
    c.place.ensures.syncs x.0.history x.2.stands.keeps.store (not_empty x.0.history x.2.stands.valid.begins)

pub returns-in-Ok-clause-discards : goal.returns-in-Ok-clause-discards
returns-in-Ok-clause-discards g c = closes_behind c.args.self.now c.place.new.self c.ended.new.self c.place.ensures.others c.ended.ensures.discards
