-- Which workflow a queue starts next, over the rows of the workflows as they stand.
use Rattle.std.specs.Prelude.{◌≡◌, ℕ, ◌<◌, ◌≤◌, ◌&&◌, Bool, true, false, List, Option, Some, None, IsTrue, bytes_eq, length, filter}
use Rattle.std.specs.FinMap.Entries.{find}
use Rattle.std.specs.declared.cmp.Ordering.TheVariants.{Less}
use Rattle.r3_rows.specs.declared.rows.FlowRow.{FlowRow}
use Rattle.r3_rows.specs.declared.rows.Status.{Status}
use Rattle.r3_rows.specs.declared.rows.Status.TheVariants as status
use Rattle.sys_queue.specs.Lines.{Text, bytes_cmp, place_cmp}
use Rattle.sys_queue.specs.declared.next.Next.{Next}
use Rattle.sys_queue.specs.declared.next.Next.TheVariants.{Ready, Empty, Limit}

-- the workflows with their IDs, in the order of the IDs
abbrev pub Rows : Type 0
Rows = List (Text × FlowRow)

abbrev pub is_pending : Status → Bool
is_pending status.Enqueued = false
is_pending status.Pending = true
is_pending status.Success = false
is_pending status.Error = false
is_pending status.Cancelled = false
is_pending status.MaxRecoveryAttemptsExceeded = false

abbrev pub is_enqueued : Status → Bool
is_enqueued status.Enqueued = true
is_enqueued status.Pending = false
is_enqueued status.Success = false
is_enqueued status.Error = false
is_enqueued status.Cancelled = false
is_enqueued status.MaxRecoveryAttemptsExceeded = false

abbrev pub is_in : Text → Option Text → Bool
is_in name None = false
is_in name (Some queue) = bytes_eq name queue

-- the workflow runs, and came out of the queue
abbrev pub is_running : Text → FlowRow → Bool
is_running name row = is_in name row.queue && is_pending row.status

-- the workflow waits in the queue
abbrev pub is_waiting : Text → FlowRow → Bool
is_waiting name row = is_in name row.queue && is_enqueued row.status

-- how many of the queue's workflows run
abbrev pub running_count : Text → Rows → ℕ
running_count name rows = length (filter (λ (f : Text × FlowRow). is_running name f.1) rows)

-- of the workflows that wait in the queue this one was started first, and of those of one entry it has the lowest ID
pub record IsNext (rows : Rows) (name id : Text) : Type 0 where
  pub row : FlowRow
  pub stands : find bytes_cmp id rows ≡ Some row
  pub waits : IsTrue (is_waiting name row)
  pub first : (other : Text) (r : FlowRow) → find bytes_cmp other rows ≡ Some r → IsTrue (is_waiting name r) → place_cmp (r.started, other) (row.started, id) ≡ Less → ⊥

-- no workflow waits in the queue
abbrev pub NoneWaits : Rows → Text → Type 0
NoneWaits rows name = (id : Text) (r : FlowRow) → find bytes_cmp id rows ≡ Some r → is_waiting name r ≡ false

-- what a queue answers: the bound is looked at first
abbrev pub Tells : Rows → Text → ℕ → Next → Type 0
Tells rows name bound (Ready id) = (running_count name rows < bound) × IsNext rows name id.now
Tells rows name bound Empty = (running_count name rows < bound) × NoneWaits rows name
Tells rows name bound (Limit running) = (bound ≤ running_count name rows) × (running ≡ running_count name rows)
