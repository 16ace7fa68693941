-- What became of an entry, before its event closes a snapshot.
use Rattle.std.specs.FinMap.Entries.{is_sorted}
use Rattle.r3_rows.specs.Keys.{bytes_cmp}
use Rattle.std.specs.Prelude.{T, ◌≡◌, ◌≤◌, ℕ, ◌+◌, List, [], ◌∷◌, ◌++◌, length, Option, Some, None}
use Rattle.r3_entry.specs.declared.entry.Entry.{Entry}
use Rattle.r3_rows.specs.declared.rows.Key.{Key}
use Rattle.r3_rows.specs.declared.rows.Key.TheVariants as keys
use Rattle.r3_rows.specs.declared.rows.Cell.{Cell}
use Rattle.r3_rows.specs.declared.rows.FlowRow.{FlowRow}
use Rattle.r3_entry.specs.Limits.{IsEntry}
use Rattle.r3_store.specs.Holds as store
use Rattle.sys_queue.specs.Lines.{declared_of, new_lines}
use Rattle.sys_queue.specs.Index as queues
use Rattle.sys_pending.specs.Index as pending
use Rattle.r3_laws.specs.OfStates.{flows_in}
use Rattle.r3_model.specs.Rows.{flow_at}
use Rattle.r3_model.specs.Language.{Text}
use Rattle.r3_model.specs.Machine.{Begun, full_of}
use Rattle.r3_exec.specs.Ends.{limit_of}
use Rattle.r3_exec.specs.Runs.{ArePinned, Keeps, rows_now}
use Rattle.r3_exec.specs.declared.exec.Exec.{Exec}
use Rattle.r3_exec.specs.declared.commit.Placed.{Placed}
use Rattle.r3_exec.specs.declared.commit.Placed.TheVariants.{Number, Full, Conflict}

-- the workflow whose row is written first
abbrev pub changed : List (Key × Option Cell) → Option Text
changed [] = None
changed ((keys.Flow id, w) ∷ ws) = Some id
changed ((keys.User table key, w) ∷ ws) = changed ws
changed ((keys.Step id n, w) ∷ ws) = changed ws

-- the workflow whose row the writes change, with the row that it had
abbrev pub IsChange : List Entry → List (Key × Option Cell) → Option (Text × Option FlowRow) → Type 0
IsChange h writes None = changed writes ≡ None
IsChange h writes (Some c) = (changed writes ≡ Some c.0) × (c.1 ≡ flow_at h (length h) c.0)

-- The entry stands in the store, and the indexes are those of the history before it.
pub record HasEntered (exec : Exec) (h : List Entry) (e : Entry) (begun : Begun) : Type 0 where
  pub store : store.Stands exec.store (h ++ e ∷ [])
  pub snapshots : exec.begun.entries ≡ begun
  pub in_order : T (is_sorted bytes_cmp begun)
  pub pins : ArePinned exec.store.pins begun
  pub declared : declared_of exec.queues ≡ declared_of (new_lines exec.program)
  pub queues : queues.IsIndexOf exec.queues (rows_now h)
  pub pending : pending.IsIndexOf exec.pending (rows_now h)
  pub vacuumed : exec.vacuumed ≤ length h
  pub entry : IsEntry e
  pub one_flow : flows_in e.writes ≤ 1

-- what is in memory and on the disk
pub record Keeping {D : Type 0} (told_size : D → Option ℕ) (told_image : D → Option (List ℕ)) (may_leave : D → List ℕ → Type 0) (desk : D) (exec : Exec) (h : List Entry) (begun : Begun) (settled : ℕ) : Type 0 where
  pub keeps : Keeps exec h begun
  pub holds : store.Holds told_size told_image may_leave desk exec.store h settled

-- it stands behind the history, or there was no room, or an entry past its snapshot wrote one of its keys
abbrev pub IsPlaced : {D : Type 0} → (D → Option ℕ) → (D → Option (List ℕ)) → (D → List ℕ → Type 0) → D → Exec → List Entry → Begun → ℕ → Entry → Placed → Type 0
IsPlaced size image may_leave desk exec h begun settled e (Number n) =
    (n ≡ length h + 1) × (full_of h e ≡ None) × Keeping size image may_leave desk exec (h ++ e ∷ []) begun settled
IsPlaced size image may_leave desk exec h begun settled e (Full limit) =
    (full_of h e ≡ Some (limit_of limit)) × Keeping size image may_leave desk exec h begun settled
IsPlaced size image may_leave desk exec h begun settled e (Conflict j) = Keeping size image may_leave desk exec h begun settled
