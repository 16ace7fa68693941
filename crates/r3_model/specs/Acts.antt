-- The entry of each act: what it writes.
use Rattle.std.specs.Prelude.{ℕ, ◌+◌, List, [], ◌∷◌, ◌++◌, length, map, take, fold, Option, Some, None}
use Rattle.std.specs.List.{enumerate_from}
use Rattle.std.specs.FinMap.Entries.{put}
use Rattle.r3_value.specs.declared.value.Val.{Val}
use Rattle.r3_value.specs.declared.value.Outcome.{Outcome}
use Rattle.r3_value.specs.declared.value.Outcome.TheVariants as outcomes
use Rattle.r3_rows.specs.declared.rows.Key.{Key}
use Rattle.r3_rows.specs.declared.rows.Key.TheVariants as keys
use Rattle.r3_rows.specs.declared.rows.Cell.{Cell}
use Rattle.r3_rows.specs.declared.rows.Cell.TheVariants as cells
use Rattle.r3_rows.specs.declared.rows.FlowRow.{FlowRow}
use Rattle.r3_rows.specs.declared.rows.Read.{Read}
use Rattle.r3_rows.specs.declared.rows.Read.TheVariants as reads
use Rattle.r3_rows.specs.declared.rows.StepRow.{StepRow}
use Rattle.r3_rows.specs.declared.rows.StepKind.{StepKind}
use Rattle.r3_rows.specs.declared.rows.StepKind.TheVariants as kinds
use Rattle.r3_rows.specs.declared.rows.Status.{Status}
use Rattle.r3_rows.specs.declared.rows.Status.TheVariants as status
use Rattle.r3_entry.specs.declared.entry.Act.{Act}
use Rattle.r3_entry.specs.declared.entry.Act.TheVariants as acts
use Rattle.r3_entry.specs.declared.entry.Entry.{Entry}
use Rattle.r3_rows.specs.Keys.{key_cmp}
use Rattle.fn_tree.specs.declared.flow.Request.{Request}
use Rattle.fn_tree.specs.declared.look.Look.{Look}
use Rattle.fn_tree.specs.declared.look.Look.TheVariants as looks
use Rattle.fn_tree.specs.declared.look.TxnRun.{TxnRun}
use Rattle.fn_tree.specs.Writes.{Write as Put}
use Rattle.r3_model.specs.Language.{Text}
use Rattle.r3_model.specs.Rows.{steps_at}

abbrev pub Writes : Type 0
Writes = List (Key × Option Cell)

abbrev pub flow_write : Text → FlowRow → Key × Option Cell
flow_write id row = (keys.Flow id, Some (cells.Flow row))

abbrev pub step_write : Text → ℕ → StepRow → Key × Option Cell
step_write id n row = (keys.Step id n, Some (cells.Step row))

abbrev pub row_write : Text → Text × Val → Key × Option Cell
row_write table row = (keys.User table row.0, Some (cells.Row row.1))

abbrev pub value_cell : Option Val → Option Cell
value_cell None = None
value_cell (Some v) = Some (cells.Row v)

-- a row as a body leaves it: its table, its key, and None for a deletion
abbrev pub put_write : Put → Key × Option Cell
put_write p = (keys.User p.0 p.1, value_cell p.2)

-- a body's look, as its entry keeps it
abbrev pub read_of : Look → Read
read_of (looks.At table key version) = reads.At table key version
read_of (looks.Range table lo hi found) = reads.Range table lo hi found

-- in the order of the keys, the last of equal keys
abbrev pub in_order : Writes → Writes
in_order ws = fold (λ (sorted : Writes) (w : Key × Option Cell). put key_cmp w.0 w.1 sorted) [] ws

-- the row that starts a workflow
abbrev pub started : Status → Text → Val → Option Text → ℕ → Option Text → FlowRow
started s function args queue number parent = record {
  status = s;
  function = function;
  args = args;
  outcome = None;
  queue = queue;
  started = number;
  attempts = 0;
  parent = parent;
}

abbrev pub step_row : Text → StepKind → Outcome → StepRow
step_row name kind outcome = record { name = name; kind = kind; outcome = outcome }

abbrev pub status_of : Outcome → Status
status_of (outcomes.Value v) = status.Success
status_of (outcomes.Failure word) = status.Error

module _ (h : List Entry) where
  -- an entry on all that stands before it, which reads nothing
  abbrev pub plain : Act → Writes → Entry
  plain act writes = record { act = act; snap = length h; reads = []; writes = writes }

  abbrev pub program_entry : Text → Entry
  program_entry text = plain (acts.Program text) []

  abbrev pub load_entry : Text → List (Text × Val) → Entry
  load_entry table rows = plain acts.Load (in_order (map (row_write table) rows))

  abbrev pub start_entry : Text → Text → Val → Entry
  start_entry id function args =
      plain (acts.Start id) (flow_write id (started status.Pending function args None (length h + 1) None) ∷ [])

  abbrev pub enqueue_entry : Text → Text → Text → Val → Entry
  enqueue_entry id queue function args =
      plain (acts.Enqueue id) (flow_write id (started status.Enqueued function args (Some queue) (length h + 1) None) ∷ [])

  abbrev pub dequeue_entry : Text → FlowRow → Entry
  dequeue_entry id row = plain (acts.Dequeue id) (flow_write id (record row { status = status.Pending }) ∷ [])

  abbrev pub finish_entry : Text → FlowRow → Outcome → Entry
  finish_entry id row o =
      plain (acts.Finish id) (flow_write id (record row { status = status_of o; outcome = Some o }) ∷ [])

  abbrev pub cancel_entry : Text → FlowRow → Entry
  cancel_entry id row = plain (acts.Cancel id) (flow_write id (record row { status = status.Cancelled }) ∷ [])

  abbrev pub resume_entry : Text → FlowRow → Entry
  resume_entry id row =
      plain (acts.Resume id) (flow_write id (record row { status = status.Pending; queue = None; attempts = 0 }) ∷ [])

  -- the source's first steps are copied
  abbrev pub fork_entry : Text → Text → FlowRow → ℕ → Entry
  fork_entry id source row below = plain (acts.Fork id source below)
      (flow_write id (started status.Pending row.function row.args None (length h + 1) None)
      ∷ map (λ s. step_write id s.0 s.1) (enumerate_from 0 (take below (steps_at h (length h) source))))

  abbrev pub recover_entry : Text → FlowRow → Status × ℕ → Entry
  recover_entry id row next =
      plain (acts.Recover id) (flow_write id (record row { status = next.0; attempts = next.1 }) ∷ [])

  -- the body's writes and its step, in one entry
  abbrev pub txn_entry : Text → Request → ℕ → TxnRun → Entry
  txn_entry id q snap run = record {
    act = acts.Txn id q.n q.args;
    snap = snap;
    reads = map read_of run.reads;
    writes = map put_write run.writes ++ step_write id q.n (step_row q.name kinds.Txn run.outcome) ∷ [];
  }

  abbrev pub outside_entry : Text → Request → Outcome → Entry
  outside_entry id q o =
      plain (acts.Outside id q.n q.args) (step_write id q.n (step_row q.name kinds.Outside o) ∷ [])

  abbrev pub await_entry : Text → Request → Text → Outcome → Entry
  await_entry id q on o = plain (acts.Await id q.n on) (step_write id q.n (step_row q.name kinds.Await o) ∷ [])

  -- a child's step, and its row where it is fresh
  abbrev pub child_entry : Text → Request → Text → Outcome → Writes → Entry
  child_entry id q child o fresh =
      plain (acts.Child id q.n child) (fresh ++ step_write id q.n (step_row q.name kinds.Child o) ∷ [])

  abbrev pub child_write : Text → Request → Text → Writes
  child_write id q child =
      flow_write child (started status.Pending q.name q.args None (length h + 1) (Some id)) ∷ []
