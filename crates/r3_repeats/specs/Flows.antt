-- A workflow as the history goes on: what of its row stays, and which entry was its first.
use Rattle.std.specs.Prelude.{◌≡◌, ℕ, ◌+◌, ◌<◌, ◌≤◌, Bool, true, false, IsTrue, List, length, Option, Some, None}
use Rattle.r3_rows.specs.declared.rows.FlowRow.{FlowRow}
use Rattle.r3_rows.specs.declared.rows.Status.{Status}
use Rattle.r3_rows.specs.declared.rows.Status.TheVariants.{Enqueued, Pending, Success, Error, Cancelled, MaxRecoveryAttemptsExceeded}
use Rattle.r3_entry.specs.declared.entry.Entry.{Entry}
use Rattle.r3_model.specs.Language.{Text}
use Rattle.r3_model.specs.Rows.{flow_at}

-- a workflow's row as it stands after the whole history
abbrev pub row_now : List Entry → Text → Option FlowRow
row_now h id = flow_at h (length h) id

-- a workflow that has ended, with a value or a failure
abbrev pub is_ended : Status → Bool
is_ended Enqueued = false
is_ended Pending = false
is_ended Success = true
is_ended Error = true
is_ended Cancelled = false
is_ended MaxRecoveryAttemptsExceeded = false

-- The same workflow, earlier and later: what it was started with is as it was, and once it has ended so is all.
pub record IsSameFlow (old new : FlowRow) : Type 0 where
  pub function : new.function ≡ old.function
  pub args : new.args ≡ old.args
  pub parent : new.parent ≡ old.parent
  pub started : new.started ≡ old.started
  pub ended : IsTrue (is_ended old.status) → new ≡ old

-- Entry k + 1 started the workflow, with this row: it is the first of the ID, and the row is the workflow's ever since.
pub record IsFirstOf (h : List Entry) (id : Text) (k : ℕ) (row : FlowRow) : Type 0 where
  pub within : k < length h
  pub none_before : (j : ℕ) → j ≤ k → flow_at h j id ≡ None
  pub starts : flow_at h (k + 1) id ≡ Some row
  pub number : row.started ≡ k + 1
  pub since : (j : ℕ) → k < j → (later : FlowRow) × (flow_at h j id ≡ Some later) × IsSameFlow row later
