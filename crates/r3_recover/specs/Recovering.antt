-- An opening at some point between two of its steps.
use Rattle.std.specs.Prelude.{◌≡◌, ℕ, List, [], length, map, take, Option}
use Rattle.std.specs.Option.{ForSome}
use Rattle.r3_value.specs.declared.value.Outcome.{Outcome}
use Rattle.r3_entry.specs.declared.entry.Entry.{Entry}
use Rattle.r3_entry.specs.Image.{IsHistoryOf}
use Rattle.r3_desk.specs.Asked as desk
use Rattle.r3_desk.specs.Crash.{Reach}
use Rattle.r3_desk.specs.Moments.{LeavesImage}
use Rattle.r3_store.specs.Opened.{Opens}
use Rattle.r3_store.specs.declared.fault.OpenFault.{OpenFault}
use Rattle.r3_store.specs.declared.fault.OpenFault.TheVariants as faults
use Rattle.r3_store.specs.declared.store.Store.{Store}
use Rattle.sys_flow.specs.declared.command.Command.TheVariants.{Recover}
use Rattle.r3_model.specs.Language.{Language, Text}
use Rattle.r3_model.specs.Event.{Event, Run}
use Rattle.r3_model.specs.Machine.{State}
use Rattle.r3_model.specs.Run.{Trail, pending_ids, restarted, run}
use Rattle.r3_exec.specs.Runs.{Runs, language}
use Rattle.r3_exec.specs.declared.exec.Exec.{Exec}
use Rattle.r3_recover.specs.Kept.{LeavesKept}
use Rattle.r3_recover.specs.Drained.{Comes, IsAt}
use Rattle.r3_recover.specs.declared.ends.StartFault.{StartFault}
use Rattle.r3_recover.specs.declared.ends.StartFault.TheVariants as starts

-- the store's fault, as the opening tells it
abbrev pub told_fault : OpenFault → StartFault
told_fault faults.Disk = starts.Disk
told_fault faults.Memory = starts.Memory
told_fault faults.NotStore = starts.Store faults.NotStore
told_fault (faults.Damaged k) = starts.Store (faults.Damaged k)
told_fault (faults.NotFormed k) = starts.Store (faults.NotFormed k)

-- The store was opened on the history of the disk.
pub record IsTaken {D : Type 0} (told_size : D → Option ℕ) (told_image : D → Option (List ℕ)) (may_leave : D → List ℕ → Type 0) (moment : D → ℕ) (reach : D → Reach) (said : D → Option (List ℕ)) (asked : D → Option (List desk.Call)) (syncs : D → Option ℕ) (from now : D) (store : Store) (h : List Entry) : Type 0 where
  pub opens : Opens told_size told_image may_leave now store h
  pub is_history : ForSome (told_image from) (IsHistoryOf h)
  pub leaves : LeavesKept moment reach said asked from now h (length h) []
  -- a crash leaves the history, and so reads the disk
  pub left : LeavesImage moment reach may_leave said asked from now (IsHistoryOf h)
  pub read : ForSome (told_image now) (IsHistoryOf h)
  pub said_same : said now ≡ said from
  pub asked_same : asked now ≡ asked from
  pub same_syncs : syncs now ≡ syncs from

abbrev pub recoveries : List Text → List Event
recoveries ids = map (λ id. Run (Recover id)) ids

-- from a restart on h the machine's recoveries have come to this state, with these left
abbrev pub Leads : Language → List Entry → State → List Text → Type 0
Leads P h now ids = (t : Trail) (rest : List (Option Outcome)) → IsAt (restarted h) [] rest t
    → (u : Trail) × Comes t u now [] [] rest
    × (run P t (recoveries (pending_ids (restarted h))) ≡ run P u (recoveries ids))

-- The opening from `from` on the history h has come to this point, and so has the desk.
pub record Recovers {D : Type 0} (told_size : D → Option ℕ) (told_image : D → Option (List ℕ)) (may_leave : D → List ℕ → Type 0) (moment : D → ℕ) (reach : D → Reach) (said : D → Option (List ℕ)) (asked : D → Option (List desk.Call)) (syncs : D → Option ℕ) (from now : D) (exec : Exec) (h : List Entry) (ids : List Text) : Type 0 where
  pub after : State
  pub machine : Leads (language exec) h after ids
  pub runs : Runs told_size told_image may_leave now exec after (length h)
  pub leaves : LeavesKept moment reach said asked from now after.history (length h) []
  -- what was recovered is staged: a crash leaves the history that was there, and so reads the disk
  pub first : take (length h) after.history ≡ h
  pub left : LeavesImage moment reach may_leave said asked from now (IsHistoryOf h)
  pub read : ForSome (told_image now) (IsHistoryOf h)
  pub said_same : said now ≡ said from
  pub asked_same : asked now ≡ asked from
  pub same_syncs : syncs now ≡ syncs from
