-- An opening of a session, done or ended early.
use Rattle.std.specs.Prelude.{◌≡◌, ◌⊎◌, ℕ, List, [], length, Option}
use Rattle.std.specs.Option.{ForSome}
use Rattle.r3_entry.specs.declared.entry.Entry.{Entry}
use Rattle.r3_entry.specs.Image.{IsHistoryOf}
use Rattle.r3_desk.specs.Asked as desk
use Rattle.r3_desk.specs.Crash.{Reach}
use Rattle.r3_model.specs.Language.{Language, Text}
use Rattle.r3_model.specs.Machine.{State}
use Rattle.r3_model.specs.Run.{restarted}
use Rattle.r3_exec.specs.Runs.{Runs, language}
use Rattle.r3_exec.specs.Does.{SyncsWithin}
use Rattle.r3_exec.specs.declared.exec.Exec.{Exec}
use Rattle.r3_recover.specs.Kept.{IsKept, LeavesKept}
use Rattle.r3_recover.specs.Opened.{HasProgram, OpensTo}

-- The history of the disk was taken up as the machine does it, and all is settled.
pub record HasBegun {D : Type 0} (told_size : D → Option ℕ) (told_image : D → Option (List ℕ)) (may_leave : D → List ℕ → Type 0) (moment : D → ℕ) (reach : D → Reach) (said : D → Option (List ℕ)) (asked : D → Option (List desk.Call)) (syncs : D → Option ℕ) (old new : D) (exec : Exec) (text : Text) : Type 0 where
  pub history : List Entry
  pub after : State
  pub is_history : ForSome (told_image old) (IsHistoryOf history)
  pub same : HasProgram history text
  pub machine : OpensTo (language exec) text history after
  pub runs : Runs told_size told_image may_leave new exec after (length after.history)
  pub leaves : LeavesKept moment reach said asked old new after.history (length history) []
  -- the header of a new file costs one, and settling two
  pub few_syncs : SyncsWithin (syncs old) (syncs new) 3

-- An opening of this history ended early: nothing was done, or all but that it may not be settled.
pub record StopsOpening {D : Type 0} (told_image : D → Option (List ℕ)) (moment : D → ℕ) (reach : D → Reach) (said : D → Option (List ℕ)) (asked : D → Option (List desk.Call)) (P : Language) (old new : D) (text : Text) (history : List Entry) : Type 0 where
  pub after : State
  pub part : (after ≡ restarted history) ⊎ OpensTo P text history after
  pub leaves : LeavesKept moment reach said asked old new after.history (length history) []
  pub reads : ForSome (told_image new) (IsKept after.history (length history) [] 0)
