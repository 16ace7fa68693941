-- The rows of a history as they stand after its first k entries.
use Rattle.std.specs.Prelude.{ℕ, suc, zero, ◌+◌, List, [], ◌∷◌, map, Option, Some, None, filter, filter_map, if◌then◌else◌, nat_le, option_and_then}
use Rattle.r3_value.specs.declared.value.Val.{Val}
use Rattle.r3_rows.specs.declared.rows.Key.{Key}
use Rattle.r3_rows.specs.declared.rows.Key.TheVariants as keys
use Rattle.r3_rows.specs.declared.rows.Cell.{Cell}
use Rattle.r3_rows.specs.declared.rows.Cell.TheVariants as cells
use Rattle.r3_rows.specs.declared.rows.FlowRow.{FlowRow}
use Rattle.r3_rows.specs.declared.rows.StepRow.{StepRow}
use Rattle.r3_entry.specs.declared.entry.Entry.{Entry}
use Rattle.r3_entry.specs.History.{Write, map_at, cell_at, version_at, range_at}
use Rattle.fn_tree.specs.declared.flow.Answer.{Answer}
use Rattle.fn_tree.specs.Writes.{Versions}
use Rattle.sys_queue.specs.Rows.{is_pending}
use Rattle.r3_model.specs.Language.{Text}

abbrev pub user_of : Cell → Option Val
user_of (cells.Row v) = Some v
user_of (cells.Flow r) = None
user_of (cells.Step r) = None

abbrev pub flow_of : Cell → Option FlowRow
flow_of (cells.Row v) = None
flow_of (cells.Flow r) = Some r
flow_of (cells.Step r) = None

abbrev pub step_of : Cell → Option StepRow
step_of (cells.Row v) = None
step_of (cells.Flow r) = None
step_of (cells.Step r) = Some r

module _ (h : List Entry) (k : ℕ) where
  abbrev pub row_at : Text → Text → Option Val
  row_at table key = option_and_then user_of (cell_at h k (keys.User table key))

  abbrev pub flow_at : Text → Option FlowRow
  flow_at id = option_and_then flow_of (cell_at h k (keys.Flow id))

  abbrev pub step_at : Text → ℕ → Option StepRow
  step_at id n = option_and_then step_of (cell_at h k (keys.Step id n))

  -- what a transaction sees on this snapshot
  abbrev pub view_at : Versions
  view_at = record {
    cell = row_at;
    version = λ table key. version_at h k (keys.User table key);
    keys = λ table lo hi. map (λ (p : Text × ℕ). p.0) (range_at h k table lo hi);
  }

  -- the steps n, n + 1 and so on, up to the first number without a row
  abbrev pub steps_from : ℕ → Text → ℕ → List StepRow
  steps_from zero id n = []
  steps_from (suc most) id n =
      let more = steps_from most id (n + 1) in
      elim (step_at id n) [ Some r ↦ r ∷ more | None ↦ [] ]

  -- the recorded steps of a workflow: 1,000 at most
  abbrev pub steps_at : Text → List StepRow
  steps_at id = steps_from 1000 id 0

-- a recorded step, as a workflow's run is told it
abbrev pub answer_of : StepRow → Answer
answer_of r = record { name = r.name; outcome = r.outcome }

-- ---- all workflows

pub record Flow : Type 0 where
  pub id : Text
  pub row : FlowRow

abbrev pub flow_seen : Key × Write → Option Flow
flow_seen (keys.User table key, w) = None
flow_seen (keys.Flow id, w) = option_and_then (λ r. Some (record { id = id; row = r })) (option_and_then flow_of w.1)
flow_seen (keys.Step id n, w) = None

-- the workflows in the order of their IDs
abbrev pub flows_at : List Entry → ℕ → List Flow
flows_at h k = filter_map flow_seen (map_at h k)

-- puts a workflow before the first that started later
abbrev pub placed : Flow → List Flow → List Flow
placed f [] = f ∷ []
placed f (g ∷ gs) = if nat_le f.row.started g.row.started then f ∷ g ∷ gs else g ∷ placed f gs

-- by the entry that started them; of the same entry the order of the IDs stays
abbrev pub by_start : List Flow → List Flow
by_start [] = []
by_start (f ∷ fs) = placed f (by_start fs)

-- the running workflows, the first started first
abbrev pub pending_at : List Entry → ℕ → List Flow
pending_at h k = by_start (filter (λ f. is_pending f.row.status) (flows_at h k))
