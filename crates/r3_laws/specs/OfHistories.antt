-- What holds of the histories that a program made.
use Rattle.std.specs.Prelude.{◌≡◌, ◌≢◌, ◌⊎◌, ◌↔◌, ℕ, ◌<◌, ◌≤◌, IsTrue, List, [], ◌∷◌, length, take, slice_get, Option, Some, None, ⊤}
use Rattle.std.specs.List.{AllByRecursion}
use Rattle.r3_value.specs.declared.value.Outcome.{Outcome}
use Rattle.r3_rows.specs.declared.rows.Key.TheVariants as keys
use Rattle.r3_rows.specs.declared.rows.FlowRow.{FlowRow}
use Rattle.r3_rows.specs.declared.rows.StepRow.{StepRow}
use Rattle.r3_rows.specs.declared.rows.StepKind.TheVariants as kinds
use Rattle.r3_rows.specs.declared.rows.Status.TheVariants as status
use Rattle.r3_entry.specs.declared.entry.Act.TheVariants as acts
use Rattle.r3_entry.specs.declared.entry.Entry.{Entry}
use Rattle.r3_entry.specs.Formed.{IsFormed}
use Rattle.r3_entry.specs.History.{writes_key}
use Rattle.r3_entry.specs.Limits.{IsOutcome, IfThere}
use Rattle.fn_tree.specs.declared.flow.AskKind.TheVariants as asking
use Rattle.fn_tree.specs.declared.flow.FlowEnd.TheVariants.{Asks, Unexpected}
use Rattle.fn_tree.specs.declared.flow.Request.{Request}
use Rattle.r3_model.specs.Language.{Text, Language}
use Rattle.r3_model.specs.Event.{Event}
use Rattle.r3_model.specs.Rows.{flow_at, step_at}
use Rattle.r3_model.specs.Acts.{step_write, step_row, txn_entry}
use Rattle.r3_model.specs.Turns.{flow_end, run_on, writer_past, conflict_keys}
use Rattle.r3_model.specs.Run.{Trail, from_state, restarted, next, run}
use Rattle.r3_model.specs.Made.{IsMade}
use Rattle.r3_model.specs.Fits.{Fits}
use Rattle.r3_model.specs.Lawful.{IsLawful, IsLimited}
use Rattle.r3_model.specs.Verdict.{replayed}

-- ---- every history reached from the empty one is made, and formed

-- every event fits the history that it finds
abbrev pub AllFit : Language → Trail → List Event → Type 0
AllFit P t [] = ⊤
AllFit P t (ev ∷ evs) = Fits t.state.history ev × AllFit P (next P t ev) evs

-- from the empty history, over restarts and crashes to a prefix
pub data Reached (P : Language) : List Entry → Type 0 where
  at_first : Reached P []
  after_a_run : {h : List Entry} (k : ℕ) (evs : List Event) (answers : List (Option Outcome)) → Reached P h
      → AllFit P (from_state (restarted h) answers) evs
      → Reached P (take k (run P (from_state (restarted h) answers) evs).state.history)

abbrev pub MakesWhatItReaches : Type 0
MakesWhatItReaches = (P : Language) (h : List Entry) → Reached P h → IsMade P h

-- the outside answered within the limits of entries
abbrev pub HeardWithin : {P : Language} {h : List Entry} → Reached P h → Type 0
HeardWithin at_first = ⊤
HeardWithin (after_a_run k evs answers reached fits) = AllByRecursion (IfThere IsOutcome) answers × HeardWithin reached

-- and it is formed: the entries follow each other, within their limits
abbrev pub FormsWhatItReaches : Type 0
FormsWhatItReaches = (P : Language) (h : List Entry) → IsLawful P → IsLimited P
    → (reached : Reached P h) → HeardWithin reached → IsFormed h

-- ---- each step is written once

-- two entries that write one Step key are one
abbrev pub WritesStepsOnce : List Entry → Type 0
WritesStepsOnce h = (id : Text) (n i j : ℕ) (e f : Entry) → slice_get h i ≡ Some e → slice_get h j ≡ Some f
    → IsTrue (writes_key e (keys.Step id n)) → IsTrue (writes_key f (keys.Step id n)) → i ≡ j

-- The workflow was running and asked for this step, a transaction, and the entry is the one that the body gives on
-- the entry's snapshot: its looks, its writes and the step's row with its outcome. None of what it writes was
-- written since the snapshot.
pub record Commits (P : Language) (h : List Entry) (e : Entry) (id : Text) (n : ℕ) (r : StepRow) : Type 0 where
  pub row : FlowRow
  pub there : flow_at h (length h) id ≡ Some row
  pub running : row.status ≡ status.Pending
  pub request : Request
  pub asks : flow_end P h id row ≡ Asks request
  pub kind : request.kind ≡ asking.Txn
  pub number : request.n ≡ n
  pub below : e.snap ≤ length h
  pub isolated : writer_past h e.snap (conflict_keys (run_on P h id e.snap request)) ≡ None
  pub entry : e ≡ txn_entry h id request e.snap (run_on P h id e.snap request)
  pub recorded : r ≡ step_row request.name kinds.Txn (run_on P h id e.snap request).outcome

-- the entry copies this step of another workflow
pub record Copies (h : List Entry) (e : Entry) (id : Text) (n : ℕ) (r : StepRow) : Type 0 where
  pub source : Text
  pub below : ℕ
  pub act : e.act ≡ acts.Fork id source below
  pub copied : n < below
  pub there : step_at h (length h) source n ≡ Some r

-- a step is written once, and one of a transaction by the entry that its body gives, or it is copied by a fork
abbrev pub CommitsOnce : Type 0
CommitsOnce = (P : Language) (h : List Entry) → IsLawful P → IsMade P h
    → WritesStepsOnce h
    × ((k j : ℕ) (e : Entry) (id : Text) (n : ℕ) (r : StepRow)
    → slice_get h k ≡ Some e → slice_get e.writes j ≡ Some (step_write id n r) → r.kind ≡ kinds.Txn
    → Commits P (take k h) e id n r ⊎ Copies (take k h) e id n r)

-- ---- turns and replays

-- no turn on a made history is unexpected
abbrev pub ExpectsAll : Type 0
ExpectsAll = (P : Language) (h : List Entry) (id : Text) (row : FlowRow) → IsLawful P → IsMade P h
    → flow_at h (length h) id ≡ Some row → row.status ≡ status.Pending
    → (n : ℕ) (recorded asked : Text) → flow_end P h id row ≢ Unexpected n recorded asked

-- the machine on a made history's own events makes it again
abbrev pub RepeatsWhatItMade : Type 0
RepeatsWhatItMade = (P : Language) (h : List Entry) → IsLawful P → IsMade P h → replayed P h ≡ h

-- so the replay of a formed history repeats it exactly where the program made it
abbrev pub RepeatsJustWhatItMade : Type 0
RepeatsJustWhatItMade = (P : Language) (h : List Entry) → IsLawful P → IsFormed h → (replayed P h ≡ h) ↔ IsMade P h
