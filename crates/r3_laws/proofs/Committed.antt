-- On a made history a transaction's step stands in the entry that its body made, or in a fork's.
use Rattle.std.proofs.Common.{◌≡◌, ◌<◌, ◌≤◌, ℕ, suc, zero, ◌+◌, List, [], ◌∷◌, ◌++◌, map, length, take, drop, Option, Some, None, refl, sym, subst, ap, ◌∙◌, arith, ◌⊎◌, inl, inr, length-take, take-append-drop}
use Rattle.std.specs.Prelude.{slice_get}
use Rattle.std.proofs.lemmas.List.{append_assoc, append-nil}
use Rattle.std.proofs.lemmas.Option.{slice_get_within}
use Rattle.r3_value.specs.declared.value.Val.TheVariants as vals
use Rattle.r3_value.specs.declared.value.Outcome.{Outcome}
use Rattle.r3_value.specs.declared.value.Outcome.TheVariants as outcomes
use Rattle.sys_flow.specs.Children.{child_id}
use Rattle.r3_rows.specs.declared.rows.Key.TheVariants as keys
use Rattle.r3_rows.specs.declared.rows.FlowRow.{FlowRow}
use Rattle.r3_rows.specs.declared.rows.StepRow.{StepRow}
use Rattle.r3_rows.specs.declared.rows.StepKind.{StepKind}
use Rattle.r3_rows.specs.declared.rows.StepKind.TheVariants as kinds
use Rattle.r3_rows.specs.declared.rows.Status.TheVariants as status
use Rattle.r3_entry.specs.declared.entry.Act.TheVariants as acts
use Rattle.r3_entry.specs.declared.entry.Entry.{Entry}
use Rattle.r3_model.specs.Language.{Text, Language}
use Rattle.fn_tree.specs.declared.flow.AskKind.TheVariants as asking
use Rattle.fn_tree.specs.declared.flow.FlowEnd.TheVariants.{Asks}
use Rattle.fn_tree.specs.declared.flow.Request.{Request}
use Rattle.r3_model.specs.Event.{Event}
use Rattle.r3_model.specs.Rows.{flow_at, step_at, steps_at}
use Rattle.r3_model.specs.Acts.{put_write, step_write, step_row, flow_write, txn_entry, fork_entry, started}
use Rattle.r3_model.specs.Commands.{id_or_made}
use Rattle.r3_model.specs.Turns.{flow_end, run_on, writer_past, conflict_keys}
use Rattle.r3_model.specs.Made.{Agrees, AllAgree, IsMade}
use Rattle.r3_model.specs.Lawful.{IsLawful}
use Rattle.r3_laws.specs.OfHistories.{Commits, Copies, WritesStepsOnce}
use Rattle.r3_laws.proofs.After.{copies}
use Rattle.r3_laws.proofs.Cases.{AskCase, commits, hears, bears, links, awaits, finishes, goes_on, Case, programs, loads, starts, enqueues, dequeues, turns, cancels, resumes, forks, recovers}
use Rattle.r3_laws.proofs.Once.{made-once}
use Rattle.r3_laws.proofs.Places.{place-cases, take-cases}
use Rattle.r3_laws.proofs.Replays.{made-before}
use Rattle.r3_laws.proofs.Told.{Told, told-steps}
use Rattle.r3_laws.proofs.ToldMade.{agrees-case, made-told}
use Rattle.r3_laws.proofs.StepWrites.{no-puts, no-load, no-flow, no-step, no-child, CopiedAt, copied_at, keys-same, SameStep, same-step}

module _ (P : Language) (h : List Entry) (all : (id : Text) → Told P h id) (e : Entry) (below : e.snap ≤ length h) (id : Text) (n : ℕ) (r : StepRow) (txn : r.kind ≡ kinds.Txn) (j : ℕ) (at : slice_get e.writes j ≡ Some (step_write id n r)) where
  abbrev Stands : Type 0
  Stands = Commits P h e id n r ⊎ Copies h e id n r

  at_so : (e0 : Entry) → e ≡ e0 → slice_get e0.writes j ≡ Some (step_write id n r)
  at_so e0 is = ap (λ (x : Entry). slice_get x.writes j) (sym is) ∙ at

  other-kind : (kind : StepKind) → (kind ≡ kinds.Txn → ⊥) → kind ≡ r.kind → ⊥
  other-kind kind not_txn same = not_txn (same ∙ txn)

  as_committed : (own : Text) (row : FlowRow) (q : Request) (s : ℕ) → flow_at h (length h) own ≡ Some row → row.status ≡ status.Pending → flow_end P h own row ≡ Asks q → q.kind ≡ asking.Txn
      → writer_past h s (conflict_keys (run_on P h own s q)) ≡ None → e ≡ txn_entry h own q s (run_on P h own s q) → step_write own q.n (step_row q.name kinds.Txn (run_on P h own s q).outcome) ≡ step_write id n r → Commits P h e id n r
  as_committed own row q s there runs asks kind none is same =
      let step : StepRow = step_row q.name kinds.Txn (run_on P h own s q).outcome in
      let parts : SameStep own id q.n n step r = same-step own id q.n n step r same in
      let here : Commits P h (txn_entry h own q s (run_on P h own s q)) own q.n step = record {
        row = row;
        there = there;
        running = runs;
        request = q;
        asks = asks;
        kind = kind;
        number = refl;
        below = subst (λ (x : Entry). x.snap ≤ length h) is below;
        isolated = none;
        entry = refl;
        recorded = refl;
      } in
      let At : Text → Type 0 = λ i. Commits P h (txn_entry h own q s (run_on P h own s q)) i q.n step in
      let Numbered : ℕ → Type 0 = λ m. Commits P h (txn_entry h own q s (run_on P h own s q)) id m step in
      let Rowed : StepRow → Type 0 = λ x. Commits P h (txn_entry h own q s (run_on P h own s q)) id n x in
      let Of : Entry → Type 0 = λ x. Commits P h x id n r in
      subst Of (sym is) (subst Rowed parts.rows (subst Numbered parts.numbers (subst At parts.ids here)))

  ask-stands : {snap : Option ℕ} {answer : Option Outcome} (own : Text) (row : FlowRow) (q : Request) → flow_at h (length h) own ≡ Some row → row.status ≡ status.Pending → flow_end P h own row ≡ Asks q
      → AskCase P h own q snap answer e → Stands
  ask-stands own row q there runs asks (commits s kind snap_is none is) =
      elim (place-cases (map put_write (run_on P h own s q).writes) (step_write own q.n (step_row q.name kinds.Txn (run_on P h own s q).outcome)) j (step_write id n r) (at_so _ is)) [
        | inl put ↦ no-puts id n r (run_on P h own s q).writes j put
        | inr here ↦ inl (as_committed own row q s there runs asks kind none is here.0)
      ]
  ask-stands own row q there runs asks (hears o kind heard is) = no-step id n r own q.n (step_row q.name kinds.Outside o) j (other-kind kinds.Outside (λ z. cc)) (at_so _ is)
  ask-stands own row q there runs asks (links child o kind child_is o_is is) = no-step id n r own q.n (step_row q.name kinds.Child o) j (other-kind kinds.Child (λ z. cc)) (at_so _ is)
  ask-stands own row q there runs asks (awaits o kind found is) = no-step id n r own q.n (step_row q.name kinds.Await o) j (other-kind kinds.Await (λ z. cc)) (at_so _ is)
  ask-stands own row q there runs asks (bears kind gone few is) =
      no-child id n r (child_id own q.n) (started status.Pending q.name q.args None (length h + 1) (Some own)) own q.n (step_row q.name kinds.Child (outcomes.Value (vals.Text (child_id own q.n)))) j (other-kind kinds.Child (λ z. cc)) (at_so _ is)

  fork-stands : (own source : Text) (below : ℕ) (row : FlowRow) → e ≡ fork_entry h own source row below → (i : ℕ)
      → slice_get (flow_write own (started status.Pending row.function row.args None (length h + 1) None) ∷ copies own 0 (take below (steps_at h (length h) source))) i ≡ Some (step_write id n r) → Stands
  fork-stands own source below row is zero found = absurd (let z : keys.Flow own ≡ keys.Step id n = keys-same (flow_write own (started status.Pending row.function row.args None (length h + 1) None)) (step_write id n r) found in cc)
  fork-stands own source below row is (suc i) found =
      let c : CopiedAt id n r own 0 (take below (steps_at h (length h) source)) = copied_at id n r own 0 (take below (steps_at h (length h) source)) i found in
      let place : c.place ≡ n = omega (arith, c.number) in
      let within : c.place < length (take below (steps_at h (length h) source)) = slice_get_within (take below (steps_at h (length h) source)) c.place r c.there in
      let old = take-cases below (steps_at h (length h) source) c.place r c.there in
      let there : step_at h (length h) source c.place ≡ Some r = (all source).are c.place ∙ ap (λ (s : List StepRow). slice_get s c.place) (sym (told-steps P h source (all source))) ∙ old.0 in
      inr (record {
        source = source;
        below = below;
        act = ap (λ (x : Entry). x.act) is ∙ ap (λ (x : Text). acts.Fork x source below) c.id_is;
        copied = omega (arith, place, within, length-take below (steps_at h (length h) source));
        there = ap (λ (m : ℕ). step_at h (length h) source m) (sym place) ∙ there;
      })

  pub case-commits : {ev : Event} {snap : Option ℕ} {answer : Option Outcome} → Case P h ev snap answer e → Stands
  case-commits (programs text ev is) = absurd (let z : None ≡ Some (step_write id n r) = at_so _ is in cc)
  case-commits (loads table rows ev is) = no-load id n r table rows j (at_so _ is)
  case-commits (starts given function args ev gone tests is) = no-flow id n r _ _ j (at_so _ is)
  case-commits (enqueues given queue function args ev gone tests is) = no-flow id n r _ _ j (at_so _ is)
  case-commits (dequeues queue f ev there waits is) = no-flow id n r _ _ j (at_so _ is)
  case-commits (turns own row ev there runs (finishes o ends is)) = no-flow id n r _ _ j (at_so _ is)
  case-commits (turns own row ev there runs (goes_on q ends c)) = ask-stands own row q there runs ends c
  case-commits (cancels own row ev there may is) = no-flow id n r _ _ j (at_so _ is)
  case-commits (resumes own row ev there may is) = no-flow id n r _ _ j (at_so _ is)
  case-commits (recovers own row ev there runs is) = no-flow id n r _ _ j (at_so _ is)
  case-commits (forks given source below row ev gone there tests is) = fork-stands (id_or_made h given) source below row is j (at_so _ is)

-- ---- each entry of a made history

all-at : (P : Language) (h es : List Entry) (k : ℕ) (e : Entry) → AllAgree P h es → slice_get es k ≡ Some e → Agrees P (h ++ take k es) e
all-at P h [] k e all is = absurd (let z : None ≡ Some e = is in cc)
all-at P h (x ∷ xs) zero e all is =
    let same : x ≡ e = (let z : Some x ≡ Some e = is in cc) in
    let Of : Entry → Type 0 = λ y. Agrees P (h ++ []) y in
    let On : List Entry → Type 0 = λ g. Agrees P g x in
    subst Of same (subst On (sym (append-nil h)) all.0)
all-at P h (x ∷ xs) (suc k) e all is =
    let On : List Entry → Type 0 = λ g. Agrees P g e in
    subst On (append_assoc h (x ∷ []) (take k xs)) (all-at P (h ++ x ∷ []) xs k e all.1 is)

pub made-at : (P : Language) (h : List Entry) (k : ℕ) (e : Entry) → IsMade P h → slice_get h k ≡ Some e → Agrees P (take k h) e
made-at P h k e made is = all-at P [] h k e made is

pub made-take : (P : Language) (h : List Entry) (k : ℕ) → IsMade P h → IsMade P (take k h)
made-take P h k made = let Of : List Entry → Type 0 = λ g. IsMade P g in made-before P (take k h) (drop k h) (subst Of (sym (take-append-drop k h)) made)

pub commits-once : (P : Language) (h : List Entry) → IsLawful P → IsMade P h
    → WritesStepsOnce h
    × ((k j : ℕ) (e : Entry) (id : Text) (n : ℕ) (r : StepRow) → slice_get h k ≡ Some e → slice_get e.writes j ≡ Some (step_write id n r) → r.kind ≡ kinds.Txn
    → Commits P (take k h) e id n r ⊎ Copies (take k h) e id n r)
commits-once P h lawful made = (
  made-once P lawful h made,
  λ k j e id n r at stands txn.
      let agrees : Agrees P (take k h) e = made-at P h k e made at in
      case-commits P (take k h) (made-told P lawful (take k h) (made-take P h k made)) e agrees.below id n r txn j stands (agrees-case P (take k h) e agrees),
)
