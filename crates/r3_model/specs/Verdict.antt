-- What a replay tells.
use Rattle.std.specs.Prelude.{◌≡◌, ◌≢◌, ℕ, ◌+◌, ◌&&◌, ◌==◌, Bool, true, false, IsTrue, List, [], ◌∷◌, ◌++◌, length, take, filter, find, slice_get, Option, Some, None, option_and_then, unwrap_or, if◌then◌else◌, bytes_eq, codes, ⊤}
use Rattle.std.specs.Bool.{OnTrue}
use Rattle.r3_value.specs.declared.value.Val.{Val}
use Rattle.r3_value.specs.declared.value.Outcome.{Outcome}
use Rattle.r3_value.specs.declared.value.Outcome.TheVariants as outcomes
use Rattle.r3_rows.specs.declared.rows.StepKind.{StepKind}
use Rattle.r3_rows.specs.declared.rows.StepKind.TheVariants as kinds
use Rattle.r3_rows.specs.declared.rows.StepRow.{StepRow}
use Rattle.r3_entry.specs.declared.entry.Act.{Act}
use Rattle.r3_entry.specs.declared.entry.Act.TheVariants as acts
use Rattle.r3_entry.specs.declared.entry.Entry.{Entry}
use Rattle.r3_entry.specs.Bytes.{val}
use Rattle.r3_model.specs.Language.{Text, Language}
use Rattle.r3_model.specs.Event.{Call}
use Rattle.r3_model.specs.Run.{from_state, empty, run_by}
use Rattle.r3_model.specs.Schedule.{schedule, step_written}
use Rattle.r3_model.specs.Made.{Agrees, id_of}

-- equal values have equal spellings
abbrev pub same_val : Val → Val → Bool
same_val a b = bytes_eq (val a) (val b)

-- ---- the outside, as it is recorded

-- the entry records this call's ID, number and arguments
abbrev pub is_record : Call → Act → Bool
is_record c (acts.Outside id n args) = bytes_eq id c.id && n == c.n && same_val args c.args
is_record c act = false

abbrev pub is_outside : StepKind → Bool
is_outside kinds.Outside = true
is_outside k = false

abbrev pub outcome_for : Call → StepRow → Option Outcome
outcome_for c r = if is_outside r.kind && bytes_eq r.name c.name then Some r.outcome else None

-- what the history records of a call
abbrev pub recorded_answer : List Entry → Call → Option Outcome
recorded_answer h c =
    option_and_then (outcome_for c)
    (option_and_then (λ (e : Entry). step_written e c.id c.n) (find (λ (e : Entry). is_record c e.act) h))

abbrev pub unrecorded : Outcome
unrecorded = outcomes.Failure (codes "unrecorded")

abbrev pub replay_answer : List Entry → Call → Option Outcome
replay_answer h c = Some (unwrap_or (recorded_answer h c) unrecorded)

-- the machine from empty, on the history's own events
abbrev pub replayed : Language → List Entry → List Entry
replayed P h = (run_by P (replay_answer h) (from_state empty []) (schedule h)).state.history

-- ---- verdicts

pub data Verdict : Type 0 where
  Same : (entries : ℕ) → Verdict
  Differs : (entry : ℕ) → Verdict

-- entry k + 1 is the first at which one history has another entry than the other, or none
pub record IsFirstDifference (h g : List Entry) (k : ℕ) : Type 0 where
  pub before : take k h ≡ take k g
  pub here : slice_get h k ≢ slice_get g k

abbrev pub IsVerdict : Language → List Entry → Verdict → Type 0
IsVerdict P h (Same n) = (replayed P h ≡ h) × (n ≡ length h)
IsVerdict P h (Differs j) = (k : ℕ) × (j ≡ k + 1) × IsFirstDifference (replayed P h) h k

abbrev pub is_of : Text → Option Text → Bool
is_of id None = false
is_of id (Some i) = bytes_eq i id

abbrev pub is_entry_of : Text → Entry → Bool
is_entry_of id e = is_of id (id_of e.act)

-- each of the entries that is of the ID agrees, after all those before it
abbrev pub AllAgreeOf : Language → Text → List Entry → List Entry → Type 0
AllAgreeOf P id h [] = ⊤
AllAgreeOf P id h (e ∷ es) = OnTrue (is_entry_of id e) (Agrees P h e) × AllAgreeOf P id (h ++ e ∷ []) es

pub record IsFirstDisagreement (P : Language) (id : Text) (h : List Entry) (k : ℕ) : Type 0 where
  pub entry : Entry
  pub at : slice_get h k ≡ Some entry
  pub of_id : IsTrue (is_entry_of id entry)
  pub before : AllAgreeOf P id [] (take k h)
  pub here : Agrees P (take k h) entry → ⊥

abbrev pub IsVerdictOn : Language → Text → List Entry → Verdict → Type 0
IsVerdictOn P id h (Same n) = AllAgreeOf P id [] h × (n ≡ length (filter (is_entry_of id) h))
IsVerdictOn P id h (Differs j) = (k : ℕ) × (j ≡ k + 1) × IsFirstDisagreement P id h k
