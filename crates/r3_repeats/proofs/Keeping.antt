-- Every entry that an event gives keeps each workflow that is there, as the same.
use Rattle.std.proofs.Common.{◌≡◌, ℕ, List, [], ◌∷◌, ◌++◌, take, length, Option, Some, None, refl, sym, subst, ap, ◌∙◌}
use Rattle.std.specs.Prelude.{option_and_then}
use Rattle.std.specs.List.{enumerate_from}
use Rattle.r3_value.specs.declared.value.Outcome.{Outcome}
use Rattle.r3_rows.specs.declared.rows.Key.TheVariants as keys
use Rattle.r3_rows.specs.declared.rows.Cell.{Cell}
use Rattle.r3_rows.specs.declared.rows.Cell.TheVariants as cells
use Rattle.r3_rows.specs.declared.rows.FlowRow.{FlowRow}
use Rattle.r3_rows.specs.declared.rows.Status.{Status}
use Rattle.r3_rows.specs.declared.rows.Status.TheVariants as status
use Rattle.r3_entry.specs.declared.entry.Entry.{Entry}
use Rattle.r3_entry.specs.History.{cell_at}
use Rattle.sys_flow.specs.Statuses.{recovered}
use Rattle.fn_tree.specs.declared.flow.Request.{Request}
use Rattle.r3_model.specs.Language.{Text, Language}
use Rattle.r3_model.specs.Event.{Event, Reply}
use Rattle.r3_model.specs.Given.{Enters}
use Rattle.r3_model.specs.Machine.{given}
use Rattle.r3_model.specs.Rows.{flow_of, flow_at, steps_at}
use Rattle.r3_model.specs.Acts.{Writes, status_of}
use Rattle.r3_model.specs.Turns.{run_on}
use Rattle.r3_laws.proofs.Cases.{AskCase, commits, hears, bears, links, awaits, finishes, goes_on, Case, programs, loads, starts, enqueues, dequeues, turns, cancels, resumes, forks, recovers}
use Rattle.r3_laws.proofs.CasesOf.{case-of}
use Rattle.r3_repeats.specs.Flows.{row_now, IsSameFlow}
use Rattle.r3_repeats.proofs.Same.{same-refl, not-ended, cancelled-not_ended, resumed-not_ended}
use Rattle.r3_repeats.proofs.Writing.{AllHold, entry-holds, no-step, puts-hold, load-holds, steps-hold}

-- the entry is what some event gives on this history
pub record IsGiven (P : Language) (h : List Entry) (e : Entry) : Type 0 where
  pub event : Event
  pub snap : Option ℕ
  pub answer : Option Outcome
  pub reply : Reply
  pub gives : given P h event snap answer ≡ Enters e reply

-- the cell has the workflow's row, of the same workflow
abbrev pub Keeps : FlowRow → Option Cell → Type 0
Keeps row c = (later : FlowRow) × (option_and_then flow_of c ≡ Some later) × IsSameFlow row later

module _ (P : Language) (h : List Entry) (id : Text) (row : FlowRow) (there : row_now h id ≡ Some row) (e : Entry) where
  abbrev AllKeep : Writes → Type 0
  AllKeep ws = AllHold (Keeps row) id ws

  -- a workflow that wasn't there is another
  gone : {A : Type 0} (own : Text) → flow_at h (length h) own ≡ None → keys.Flow own ≡ keys.Flow id → A
  gone own none same =
      let one : own ≡ id = (let z : keys.Flow own ≡ keys.Flow id = same in cc) in
      absurd (let z : None ≡ Some row = sym none ∙ ap (λ (x : Text). flow_at h (length h) x) one ∙ there in cc)

  -- one that was there is the same, if it is this one
  kept : (own : Text) (old new : FlowRow) → flow_at h (length h) own ≡ Some old → IsSameFlow old new → keys.Flow own ≡ keys.Flow id → Keeps row (Some (cells.Flow new))
  kept own old new found same key =
      let one : own ≡ id = (let z : keys.Flow own ≡ keys.Flow id = key in cc) in
      let both : Some old ≡ Some row = sym found ∙ ap (λ (x : Text). flow_at h (length h) x) one ∙ there in
      let is : old ≡ row = cc in
      let Of : FlowRow → Type 0 = λ r. IsSameFlow r new in
      (new, refl, subst Of is same)

  moved : (e0 : Entry) → e ≡ e0 → AllKeep e0.writes → AllKeep e.writes
  moved e0 is all = let Of : Entry → Type 0 = λ x. AllKeep x.writes in subst Of (sym is) all

  ask-keeps : {snap : Option ℕ} {answer : Option Outcome} (own : Text) (q : Request) → AskCase P h own q snap answer e → AllKeep e.writes
  ask-keeps own q (commits s kind snap_is none is) = moved _ is (puts-hold (Keeps row) id (run_on P h own s q).writes _ (no-step id own q.n, tt))
  ask-keeps own q (hears o kind heard is) = moved _ is (no-step id own q.n, tt)
  ask-keeps own q (bears kind none few is) = moved _ is (gone _ none, (no-step id own q.n, tt))
  ask-keeps own q (links child o kind child_is o_is is) = moved _ is (no-step id own q.n, tt)
  ask-keeps own q (awaits o kind found is) = moved _ is (no-step id own q.n, tt)

  case-keeps : {ev : Event} {snap : Option ℕ} {answer : Option Outcome} → Case P h ev snap answer e → AllKeep e.writes
  case-keeps (programs text ev is) = moved _ is tt
  case-keeps (loads table rows ev is) = moved _ is (load-holds (Keeps row) id table rows)
  case-keeps (starts given function args ev none tests is) = moved _ is (gone _ none, tt)
  case-keeps (enqueues given queue function args ev none tests is) = moved _ is (gone _ none, tt)
  case-keeps (dequeues queue f ev found waits is) =
      let new : FlowRow = record f.row { status = status.Pending } in
      let same : IsSameFlow f.row new = record { function = refl; args = refl; parent = refl; started = refl; ended = λ ended. not-ended f.row.status status.Enqueued waits refl ended } in
      moved _ is (kept f.id f.row new found same, tt)
  case-keeps (turns own old ev found runs (finishes o ends is)) =
      let new : FlowRow = record old { status = status_of o; outcome = Some o } in
      let same : IsSameFlow old new = record { function = refl; args = refl; parent = refl; started = refl; ended = λ ended. not-ended old.status status.Pending runs refl ended } in
      moved _ is (kept own old new found same, tt)
  case-keeps (turns own old ev found runs (goes_on q ends c)) = ask-keeps own q c
  case-keeps (cancels own old ev found may is) =
      let new : FlowRow = record old { status = status.Cancelled } in
      let same : IsSameFlow old new = record { function = refl; args = refl; parent = refl; started = refl; ended = λ ended. cancelled-not_ended old.status may ended } in
      moved _ is (kept own old new found same, tt)
  case-keeps (resumes own old ev found may is) =
      let new : FlowRow = record old { status = status.Pending; queue = None; attempts = 0 } in
      let same : IsSameFlow old new = record { function = refl; args = refl; parent = refl; started = refl; ended = λ ended. resumed-not_ended old.status may ended } in
      moved _ is (kept own old new found same, tt)
  case-keeps (forks given source below old ev none found tests is) = moved _ is (gone _ none, steps-hold (Keeps row) id _ (enumerate_from 0 (take below (steps_at h (length h) source))))
  case-keeps (recovers own old ev found runs is) =
      let next : Status × ℕ = recovered old.status old.attempts in
      let new : FlowRow = record old { status = next.0; attempts = next.1 } in
      let same : IsSameFlow old new = record { function = refl; args = refl; parent = refl; started = refl; ended = λ ended. not-ended old.status status.Pending runs refl ended } in
      moved _ is (kept own old new found same, tt)

  pub given-keeps : IsGiven P h e → Keeps row (cell_at (h ++ e ∷ []) (length (h ++ e ∷ [])) (keys.Flow id))
  given-keeps g = entry-holds (Keeps row) id h e (case-keeps (case-of P h g.snap g.answer e g.reply g.event g.gives)) (row, there, same-refl row)
