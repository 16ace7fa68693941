-- An executor, and the state of the machine that it is in.
use Rattle.std.specs.Prelude.{◌≡◌, ◌≤◌, ℕ, List, Option, length, nat_eq, sum_by, T, if◌then◌else◌}
use Rattle.std.specs.Map.{values_of}
use Rattle.std.specs.FinMap.Entries.{is_sorted}
use Rattle.r3_rows.specs.Keys.{bytes_cmp}
use Rattle.r3_entry.specs.declared.entry.Entry.{Entry}
use Rattle.r3_store.specs.Holds as store
use Rattle.sys_queue.specs.Lines.{declared_of, new_lines}
use Rattle.sys_queue.specs.Rows.{Rows}
use Rattle.sys_queue.specs.Index as queues
use Rattle.sys_pending.specs.Index as pending
use Rattle.r3_model.specs.Language.{Language}
use Rattle.r3_model.specs.Functions.{language_of}
use Rattle.r3_model.specs.Rows.{flows_at}
use Rattle.r3_model.specs.Machine.{State, Begun}
use Rattle.r3_model.specs.Valid.{IsValid}
use Rattle.r3_laws.specs.OfQueues.{rows_of}
use Rattle.r3_exec.specs.declared.exec.Exec.{Exec}

-- what the machine runs
abbrev pub language : Exec → Language
language exec = language_of exec.program

-- the workflows of a history with their rows, in the order of their IDs
abbrev pub rows_now : List Entry → Rows
rows_now h = rows_of (flows_at h (length h))

abbrev pub is_one : ℕ → ℕ → ℕ
is_one s x = if nat_eq s x then 1 else 0

-- each snapshot is pinned as often as it is open
abbrev pub ArePinned : List ℕ → Begun → Type 0
ArePinned pins begun = (s : ℕ) → sum_by (is_one s) pins ≡ sum_by (is_one s) (values_of begun)

-- What is in memory stands for a history and the open snapshots.
pub record Keeps (exec : Exec) (h : List Entry) (begun : Begun) : Type 0 where
  pub store : store.Stands exec.store h
  pub snapshots : exec.begun.entries ≡ begun
  pub in_order : T (is_sorted bytes_cmp begun)
  -- each open snapshot is pinned once
  pub pins : ArePinned exec.store.pins begun
  pub declared : declared_of exec.queues ≡ declared_of (new_lines exec.program)
  pub queues : queues.IsIndexOf exec.queues (rows_now h)
  pub pending : pending.IsIndexOf exec.pending (rows_now h)
  -- versions were discarded on an earlier history or on this one
  pub vacuumed : exec.vacuumed ≤ length h

-- it stands for a valid state
pub record Stands (exec : Exec) (st : State) : Type 0 where
  pub valid : IsValid (language exec) st
  pub keeps : Keeps exec st.history st.begun

-- and so does the desk's disk, on which the first entries are settled
pub record Runs {D : Type 0} (told_size : D → Option ℕ) (told_image : D → Option (List ℕ)) (may_leave : D → List ℕ → Type 0) (desk : D) (exec : Exec) (st : State) (settled : ℕ) : Type 0 where
  pub stands : Stands exec st
  pub holds : store.Holds told_size told_image may_leave desk exec.store st.history settled
