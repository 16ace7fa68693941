-- An opening, done on a desk.
use Rattle.std.specs.Prelude.{◌≡◌, ◌≢◌, ◌⊎◌, ℕ, List, [], ◌∷◌, length, Option, Some, ⊤}
use Rattle.std.specs.Option.{ForSome}
use Rattle.r3_value.specs.declared.value.Outcome.{Outcome}
use Rattle.r3_entry.specs.declared.entry.Entry.{Entry}
use Rattle.r3_entry.specs.Image.{IsHistoryOf}
use Rattle.r3_desk.specs.Asked as desk
use Rattle.r3_desk.specs.Crash.{NothingPending, Reach}
use Rattle.r3_desk.specs.Moments.{LeavesImage}
use Rattle.r3_formed.specs.Answers.{program_texts}
use Rattle.r3_store.specs.Opened.{IsCaused, IsStopped}
use Rattle.r3_store.specs.declared.fault.OpenFault.{OpenFault}
use Rattle.r3_store.specs.declared.fault.OpenFault.TheVariants as faults
use Rattle.r3_model.specs.Language.{Language, Text}
use Rattle.r3_model.specs.Machine.{State}
use Rattle.r3_model.specs.Run.{Trail, restarted, from_state}
use Rattle.r3_model.specs.Script.{opened}
use Rattle.r3_exec.specs.Runs.{Runs, language}
use Rattle.r3_exec.specs.Does.{SyncsWithin}
use Rattle.r3_exec.specs.declared.exec.Exec.{Exec}
use Rattle.r3_recover.specs.Kept.{IsKept, LeavesKept}
use Rattle.r3_recover.specs.Drained.{Comes}
use Rattle.r3_recover.specs.declared.ends.StartFault.{StartFault}
use Rattle.r3_recover.specs.declared.ends.StartFault.TheVariants as starts

-- the history was begun with this text, or hasn't begun
abbrev pub HasProgram : List Entry → Text → Type 0
HasProgram h text = (h ≡ []) ⊎ (program_texts h ≡ (1, text) ∷ [])

-- The machine's opening comes to this state, asks nothing, and leaves all answers.
abbrev pub OpensTo : Language → Text → List Entry → State → Type 0
OpensTo P text h after = (answers : List (Option Outcome)) → Comes (from_state (restarted h) answers) (opened P text h answers) after [] [] answers

-- The history of the disk was taken up as the machine does it. What it had is settled, and no more.
pub record HasOpened {D : Type 0} (told_size : D → Option ℕ) (told_image : D → Option (List ℕ)) (may_leave : D → List ℕ → Type 0) (moment : D → ℕ) (reach : D → Reach) (said : D → Option (List ℕ)) (asked : D → Option (List desk.Call)) (syncs : D → Option ℕ) (old new : D) (exec : Exec) (text : Text) : Type 0 where
  pub history : List Entry
  pub after : State
  pub is_history : ForSome (told_image old) (IsHistoryOf history)
  pub same : HasProgram history text
  pub machine : OpensTo (language exec) text history after
  pub runs : Runs told_size told_image may_leave new exec after (length history)
  pub leaves : LeavesKept moment reach said asked old new after.history (length history) []
  pub reads : ForSome (told_image new) (IsKept after.history (length history) [] 0)
  -- the header of a new file costs one
  pub few_syncs : SyncsWithin (syncs old) (syncs new) 1

-- what each fault says of the disk's image
abbrev pub HasCause : Option (List ℕ) → Text → StartFault → Type 0
HasCause image text (starts.Store fault) = IsCaused image fault × (IsStopped fault → ⊥)
HasCause image text starts.Other = ForSome image (λ i. (h : List Entry) × IsHistoryOf h i × (HasProgram h text → ⊥))
HasCause image text starts.Disk = ⊤
HasCause image text starts.Memory = ⊤

-- the disk has failed, or there was no memory
abbrev pub IsHalted : StartFault → Type 0
IsHalted fault = (fault ≡ starts.Disk) ⊎ (fault ≡ starts.Memory)

-- ---- a disk that is left alone

-- no store, or one of another program
abbrev pub IsNoneOf : Text → List ℕ → Type 0
IsNoneOf text image = (h : List Entry) → IsHistoryOf h image → HasProgram h text → ⊥

-- The disk was read at most: it reads as it did, and so does a crash leave it, at any moment and now.
pub record WasRead {D : Type 0} (told_image : D → Option (List ℕ)) (may_leave : D → List ℕ → Type 0) (moment : D → ℕ) (reach : D → Reach) (said : D → Option (List ℕ)) (asked : D → Option (List desk.Call)) (syncs : D → Option ℕ) (old new : D) : Type 0 where
  pub image : told_image new ≡ told_image old
  pub quiet : NothingPending (told_image new) (may_leave new)
  pub leaves : LeavesImage moment reach may_leave said asked old new (λ c. told_image old ≡ Some c)
  pub same_syncs : syncs new ≡ syncs old
