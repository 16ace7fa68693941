-- An entry that brings a workflow has the number that its row tells, and one that starts it finds none.
use Rattle.std.proofs.Common.{◌≡◌, ℕ, ◌+◌, List, [], ◌∷◌, ◌++◌, take, length, Option, Some, None, refl, sym, subst, ap, ◌∙◌}
use Rattle.std.specs.Prelude.{option_and_then}
use Rattle.std.specs.List.{enumerate_from}
use Rattle.r3_value.specs.declared.value.Outcome.{Outcome}
use Rattle.r3_rows.specs.declared.rows.Key.TheVariants as keys
use Rattle.r3_rows.specs.declared.rows.Cell.{Cell}
use Rattle.r3_rows.specs.declared.rows.Cell.TheVariants as cells
use Rattle.r3_rows.specs.declared.rows.FlowRow.{FlowRow}
use Rattle.r3_rows.specs.declared.rows.Status.TheVariants as status
use Rattle.r3_entry.specs.declared.entry.Entry.{Entry}
use Rattle.fn_tree.specs.declared.flow.Request.{Request}
use Rattle.r3_model.specs.Language.{Text, Language}
use Rattle.r3_model.specs.Event.{Event}
use Rattle.r3_model.specs.Rows.{flow_of, flow_at, steps_at}
use Rattle.r3_model.specs.Acts.{Writes, flow_write, started}
use Rattle.r3_model.specs.Commands.{id_or_made}
use Rattle.r3_model.specs.Turns.{run_on}
use Rattle.r3_laws.proofs.Cases.{AskCase, commits, hears, bears, links, awaits, finishes, goes_on, Case, programs, loads, starts, enqueues, dequeues, turns, cancels, resumes, forks, recovers}
use Rattle.r3_laws.proofs.After.{after, copies, copies-flow}
use Rattle.r3_laws.proofs.CasesOf.{case-of}
use Rattle.r3_repeats.specs.Flows.{row_now}
use Rattle.r3_repeats.specs.Starting.{IsStartOf}
use Rattle.r3_repeats.proofs.Writing.{AllHold, entry-holds, no-step, puts-hold, load-holds, steps-hold}
use Rattle.r3_repeats.proofs.Keeping.{IsGiven}
use Rattle.r3_repeats.proofs.Beginning.{brought}

-- a row in the cell has this number
abbrev Numbers : ℕ → Option Cell → Type 0
Numbers n c = (row : FlowRow) → option_and_then flow_of c ≡ Some row → row.started ≡ n

module _ (P : Language) (h : List Entry) (id : Text) (none : row_now h id ≡ None) (e : Entry) where
  abbrev AllNumber : Writes → Type 0
  AllNumber ws = AllHold (Numbers (length h + 1)) id ws

  -- a workflow that was there is another
  other : (own : Text) (old new : FlowRow) → flow_at h (length h) own ≡ Some old → keys.Flow own ≡ keys.Flow id → Numbers (length h + 1) (Some (cells.Flow new))
  other own old new found key =
      let one : own ≡ id = (let z : keys.Flow own ≡ keys.Flow id = key in cc) in
      absurd (let z : Some old ≡ None = sym found ∙ ap (λ (x : Text). flow_at h (length h) x) one ∙ none in cc)

  -- a new one has the next number
  new : (own : Text) (row : FlowRow) → row.started ≡ length h + 1 → keys.Flow own ≡ keys.Flow id → Numbers (length h + 1) (Some (cells.Flow row))
  new own row number key r found =
      let same : row ≡ r = (let z : Some row ≡ Some r = found in cc) in
      ap (λ (x : FlowRow). x.started) (sym same) ∙ number

  moved : (e0 : Entry) → e ≡ e0 → AllNumber e0.writes → AllNumber e.writes
  moved e0 is all = let Of : Entry → Type 0 = λ x. AllNumber x.writes in subst Of (sym is) all

  ask-numbers : {snap : Option ℕ} {answer : Option Outcome} (own : Text) (q : Request) → AskCase P h own q snap answer e → AllNumber e.writes
  ask-numbers own q (commits s kind snap_is free is) = moved _ is (puts-hold (Numbers (length h + 1)) id (run_on P h own s q).writes _ (no-step id own q.n, tt))
  ask-numbers own q (hears o kind heard is) = moved _ is (no-step id own q.n, tt)
  ask-numbers own q (bears kind gone few is) = moved _ is (new _ _ refl, (no-step id own q.n, tt))
  ask-numbers own q (links child o kind child_is o_is is) = moved _ is (no-step id own q.n, tt)
  ask-numbers own q (awaits o kind found is) = moved _ is (no-step id own q.n, tt)

  case-numbers : {ev : Event} {snap : Option ℕ} {answer : Option Outcome} → Case P h ev snap answer e → AllNumber e.writes
  case-numbers (programs text ev is) = moved _ is tt
  case-numbers (loads table rows ev is) = moved _ is (load-holds (Numbers (length h + 1)) id table rows)
  case-numbers (starts given function args ev gone tests is) = moved _ is (new _ _ refl, tt)
  case-numbers (enqueues given queue function args ev gone tests is) = moved _ is (new _ _ refl, tt)
  case-numbers (dequeues queue f ev found waits is) = moved _ is (other f.id f.row _ found, tt)
  case-numbers (turns own old ev found runs (finishes o ends is)) = moved _ is (other own old _ found, tt)
  case-numbers (turns own old ev found runs (goes_on q ends c)) = ask-numbers own q c
  case-numbers (cancels own old ev found may is) = moved _ is (other own old _ found, tt)
  case-numbers (resumes own old ev found may is) = moved _ is (other own old _ found, tt)
  case-numbers (forks given source below old ev gone found tests is) = moved _ is (new _ _ refl, steps-hold (Numbers (length h + 1)) id _ (enumerate_from 0 (take below (steps_at h (length h) source))))
  case-numbers (recovers own old ev found runs is) = moved _ is (other own old _ found, tt)

  pub given-numbers : IsGiven P h e → (row : FlowRow) → row_now (h ++ e ∷ []) id ≡ Some row → row.started ≡ length h + 1
  given-numbers g =
      entry-holds (Numbers (length h + 1)) id h e (case-numbers (case-of P h g.snap g.answer e g.reply g.event g.gives)) (λ row found. absurd (let z : None ≡ Some row = sym none ∙ found in cc))

-- ---- an entry that starts a workflow

module _ (P : Language) (h : List Entry) (id : Text) (e : Entry) (begins : IsStartOf id e.act) where
  acts-so : (e0 : Entry) → e ≡ e0 → IsStartOf id e0.act
  acts-so e0 is = let Of : Entry → Type 0 = λ x. IsStartOf id x.act in subst Of is begins

  none-of : (own : Text) → own ≡ id → flow_at h (length h) own ≡ None → row_now h id ≡ None
  none-of own same gone = ap (λ (x : Text). flow_at h (length h) x) (sym same) ∙ gone

  ask-gone : {snap : Option ℕ} {answer : Option Outcome} (own : Text) (q : Request) → AskCase P h own q snap answer e → row_now h id ≡ None
  ask-gone own q (commits s kind snap_is free is) = absurd (acts-so _ is)
  ask-gone own q (hears o kind heard is) = absurd (acts-so _ is)
  ask-gone own q (bears kind gone few is) = absurd (acts-so _ is)
  ask-gone own q (links child o kind child_is o_is is) = absurd (acts-so _ is)
  ask-gone own q (awaits o kind found is) = absurd (acts-so _ is)

  case-gone : {ev : Event} {snap : Option ℕ} {answer : Option Outcome} → Case P h ev snap answer e → row_now h id ≡ None
  case-gone (programs text ev is) = absurd (acts-so _ is)
  case-gone (loads table rows ev is) = absurd (acts-so _ is)
  case-gone (starts given function args ev gone tests is) = none-of _ (acts-so _ is) gone
  case-gone (enqueues given queue function args ev gone tests is) = none-of _ (acts-so _ is) gone
  case-gone (dequeues queue f ev found waits is) = absurd (acts-so _ is)
  case-gone (turns own old ev found runs (finishes o ends is)) = absurd (acts-so _ is)
  case-gone (turns own old ev found runs (goes_on q ends c)) = ask-gone own q c
  case-gone (cancels own old ev found may is) = absurd (acts-so _ is)
  case-gone (resumes own old ev found may is) = absurd (acts-so _ is)
  case-gone (forks given source below old ev gone found tests is) = none-of _ (acts-so _ is) gone
  case-gone (recovers own old ev found runs is) = absurd (acts-so _ is)

  pub start-finds_none : IsGiven P h e → row_now h id ≡ None
  start-finds_none g = case-gone (case-of P h g.snap g.answer e g.reply g.event g.gives)

-- and its workflow is there behind it
module _ (P : Language) (h : List Entry) (id : Text) (e : Entry) (begins : IsStartOf id e.act) where
  abbrev pub IsThere : Type 0
  IsThere = (row : FlowRow) × (row_now (h ++ e ∷ []) id ≡ Some row)

  there_of : (own : Text) (row : FlowRow) (rest : Writes) → own ≡ id → e.writes ≡ flow_write own row ∷ rest → after rest (keys.Flow own) (Some (cells.Flow row)) ≡ Some (cells.Flow row) → IsThere
  there_of own row rest same writes kept = (row, ap (λ (x : Text). row_now (h ++ e ∷ []) x) (sym same) ∙ brought h e own row rest writes kept)

  ask-there : {snap : Option ℕ} {answer : Option Outcome} (own : Text) (q : Request) → AskCase P h own q snap answer e → IsThere
  ask-there own q (commits s kind snap_is free is) = absurd (acts-so P h id e begins _ is)
  ask-there own q (hears o kind heard is) = absurd (acts-so P h id e begins _ is)
  ask-there own q (bears kind gone few is) = absurd (acts-so P h id e begins _ is)
  ask-there own q (links child o kind child_is o_is is) = absurd (acts-so P h id e begins _ is)
  ask-there own q (awaits o kind found is) = absurd (acts-so P h id e begins _ is)

  case-there : {ev : Event} {snap : Option ℕ} {answer : Option Outcome} → Case P h ev snap answer e → IsThere
  case-there (programs text ev is) = absurd (acts-so P h id e begins _ is)
  case-there (loads table rows ev is) = absurd (acts-so P h id e begins _ is)
  case-there (starts given function args ev gone tests is) = there_of _ _ [] (acts-so P h id e begins _ is) (ap (λ (x : Entry). x.writes) is) refl
  case-there (enqueues given queue function args ev gone tests is) = there_of _ _ [] (acts-so P h id e begins _ is) (ap (λ (x : Entry). x.writes) is) refl
  case-there (dequeues queue f ev found waits is) = absurd (acts-so P h id e begins _ is)
  case-there (turns own old ev found runs (finishes o ends is)) = absurd (acts-so P h id e begins _ is)
  case-there (turns own old ev found runs (goes_on q ends c)) = ask-there own q c
  case-there (cancels own old ev found may is) = absurd (acts-so P h id e begins _ is)
  case-there (resumes own old ev found may is) = absurd (acts-so P h id e begins _ is)
  case-there (forks given source below old ev gone found tests is) =
      let own : Text = id_or_made h given in
      let new : FlowRow = started status.Pending old.function old.args None (length h + 1) None in
      there_of own new (copies own 0 (take below (steps_at h (length h) source))) (acts-so P h id e begins _ is) (ap (λ (x : Entry). x.writes) is) (copies-flow own 0 (take below (steps_at h (length h) source)) (Some (cells.Flow new)))
  case-there (recovers own old ev found runs is) = absurd (acts-so P h id e begins _ is)

  pub start-brings : IsGiven P h e → IsThere
  start-brings g = case-there (case-of P h g.snap g.answer e g.reply g.event g.gives)
