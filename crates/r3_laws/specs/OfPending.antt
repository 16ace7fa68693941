-- How the rows of all workflows change by an entry, and what the index of the running ones tells of them.
use Rattle.std.specs.Prelude.{◌≡◌, ℕ, ◌+◌, List, [], ◌∷◌, ◌++◌, length, map, filter_map, Option, Some, None, IsTrue, option_and_then}
use Rattle.std.specs.FinMap.Entries.{find, put, is_sorted}
use Rattle.r3_value.specs.declared.value.Val.{Val}
use Rattle.r3_rows.specs.declared.rows.Key.{Key}
use Rattle.r3_rows.specs.declared.rows.Key.TheVariants as keys
use Rattle.r3_rows.specs.declared.rows.Cell.{Cell}
use Rattle.r3_rows.specs.declared.rows.FlowRow.{FlowRow}
use Rattle.r3_rows.specs.declared.rows.Status.TheVariants as status
use Rattle.r3_entry.specs.declared.entry.Entry.{Entry}
use Rattle.r3_entry.specs.Formed.{Follows, IsFormed}
use Rattle.r3_entry.specs.History.{Write, map_at}
use Rattle.fn_tree.specs.declared.flow.Request.{Request}
use Rattle.fn_tree.specs.declared.look.TxnRun.{TxnRun}
use Rattle.sys_queue.specs.Lines.{bytes_cmp}
use Rattle.sys_queue.specs.Rows.{Rows}
use Rattle.sys_pending.specs.Running.{running_ids}
use Rattle.r3_model.specs.Language.{Text}
use Rattle.r3_model.specs.Rows.{Flow, flow_of, flow_at, flows_at, pending_at}
use Rattle.r3_model.specs.Acts.{started, load_entry, fork_entry, txn_entry}
use Rattle.r3_laws.specs.OfQueues.{rows_of}

-- what the index tells of the rows is the machine's list
abbrev pub PendingTells : Type 0
PendingTells = (h : List Entry) (k : ℕ)
    → running_ids (rows_of (flows_at h k)) ≡ map (λ (f : Flow). f.id) (pending_at h k)

-- ---- the rows of all workflows

-- they stand in the order of the IDs
abbrev pub RowsRise : Type 0
RowsRise = (h : List Entry) (k : ℕ) → IsTrue (is_sorted bytes_cmp (rows_of (flows_at h k)))

-- the row that is found among them is the workflow's
abbrev pub RowsTell : Type 0
RowsTell = (h : List Entry) (k : ℕ) (id : Text) → find bytes_cmp id (rows_of (flows_at h k)) ≡ flow_at h k id

-- the workflow whose row is written, with that row
abbrev pub flow_written : Key × Option Cell → Option (Text × FlowRow)
flow_written (keys.User table key, c) = None
flow_written (keys.Flow id, c) = option_and_then (λ (row : FlowRow). Some (id, row)) (option_and_then flow_of c)
flow_written (keys.Step id n, c) = None

-- the workflows whose rows an entry writes
abbrev pub flows_written : Entry → Rows
flows_written e = filter_map flow_written e.writes

-- the rows with those put, one after the other
abbrev pub put_all : Rows → Rows → Rows
put_all [] rows = rows
put_all (f ∷ fs) rows = put_all fs (put bytes_cmp f.0 f.1 rows)

-- after an entry they are those before it with what it writes
abbrev pub RowsFollow : Type 0
RowsFollow = (h : List Entry) (e : Entry) → Follows h e
    → rows_of (flows_at (h ++ e ∷ []) (length h + 1)) ≡ put_all (flows_written e) (rows_of (flows_at h (length h)))

-- A load and a transaction write no workflow's row, and a fork writes its own. Of the other acts the entry shows it.
pub record ActsWrite (h : List Entry) : Type 0 where
  pub load : (table : Text) (rows : List (Text × Val)) → flows_written (load_entry h table rows) ≡ []
  pub txn : (id : Text) (q : Request) (snap : ℕ) (run : TxnRun) → flows_written (txn_entry h id q snap run) ≡ []
  pub fork : (id source : Text) (row : FlowRow) (below : ℕ) → flows_written (fork_entry h id source row below)
      ≡ (id, started status.Pending row.function row.args None (length h + 1) None) ∷ []

-- the workflow of a key that is present
abbrev pub id_in : Key × Write → Option Text
id_in (keys.Flow id, (j, Some cell)) = Some id
id_in (keys.Flow id, (j, None)) = None
id_in (keys.User table key, w) = None
id_in (keys.Step id n, w) = None

-- each workflow whose key is present has a row
abbrev pub RowsListed : Type 0
RowsListed = (h : List Entry) (k : ℕ) → IsFormed h
    → filter_map id_in (map_at h k) ≡ map (λ (f : Text × FlowRow). f.0) (rows_of (flows_at h k))

-- rows in order are gathered one after the other: each is absent before it is put, and comes last
abbrev pub RowsGather : Type 0
RowsGather = (before after : Rows) (id : Text) (row : FlowRow) → IsTrue (is_sorted bytes_cmp (before ++ (id, row) ∷ after))
    → (find bytes_cmp id before ≡ None) × (put bytes_cmp id row before ≡ before ++ (id, row) ∷ [])
