-- The events that a history tells of.
use Rattle.std.specs.Prelude.{ℕ, ◌&&◌, List, [], ◌∷◌, ◌++◌, length, map, filter_map, flat_map, Option, Some, None, option_and_then, option_map, if◌then◌else◌, bytes_eq, nat_le}
use Rattle.std.specs.List.{enumerate_from, list_all}
use Rattle.std.specs.FinMap.Entries.{find}
use Rattle.r3_value.specs.declared.value.Val.{Val}
use Rattle.r3_rows.specs.declared.rows.Key.{Key}
use Rattle.r3_rows.specs.declared.rows.Key.TheVariants as keys
use Rattle.r3_rows.specs.declared.rows.Cell.{Cell}
use Rattle.r3_rows.specs.declared.rows.Cell.TheVariants as cells
use Rattle.r3_rows.specs.declared.rows.FlowRow.{FlowRow}
use Rattle.r3_rows.specs.declared.rows.StepRow.{StepRow}
use Rattle.r3_entry.specs.declared.entry.Act.{Act}
use Rattle.r3_entry.specs.declared.entry.Act.TheVariants as acts
use Rattle.r3_entry.specs.declared.entry.Entry.{Entry}
use Rattle.r3_rows.specs.Keys.{key_cmp}
use Rattle.r3_model.specs.Language.{Text}
use Rattle.sys_flow.specs.declared.command.Command.TheVariants.{Load, Start, Enqueue, Cancel, Resume, Fork, Recover}
use Rattle.r3_model.specs.Event.{Event, Append, Run, Turn, Dequeue, Nothing}
use Rattle.r3_model.specs.Rows.{flow_of, step_of}

abbrev pub written : Entry → Key → Option Cell
written e key = option_and_then (λ c. c) (find key_cmp key e.writes)

-- the Flow row of an ID that the entry writes
abbrev pub flow_written : Entry → Text → Option FlowRow
flow_written e id = option_and_then flow_of (written e (keys.Flow id))

abbrev pub step_written : Entry → Text → ℕ → Option StepRow
step_written e id n = option_and_then step_of (written e (keys.Step id n))

-- ---- the event of an entry

abbrev pub or_nothing : Option Event → Event
or_nothing None = Nothing
or_nothing (Some ev) = ev

-- a user row that is present, with its table
abbrev pub row_written : Key × Option Cell → Option (Text × (Text × Val))
row_written (keys.User table key, Some (cells.Row v)) = Some (table, (key, v))
row_written w = None

-- the load of these rows, which are of one table and 1,024 at most
abbrev pub load_of : List (Key × Option Cell) → List (Text × (Text × Val)) → Option Event
load_of ws [] = None
load_of ws (r ∷ rs) =
    if list_all (λ q. bytes_eq q.0 r.0) rs && nat_le (length ws) (length (r ∷ rs)) && nat_le (length ws) 1024
    then Some (Run (Load r.0 (map (λ q. q.1) (r ∷ rs)))) else None

abbrev pub dequeue_of : FlowRow → Option Event
dequeue_of row = option_map (λ q. Dequeue q) row.queue

abbrev pub enqueue_of : Text → FlowRow → Option Event
enqueue_of id row = option_map (λ q. Run (Enqueue (Some id) q row.function row.args)) row.queue

abbrev pub event_of_act : Entry → Act → Event
event_of_act e (acts.Program text) = Append text
event_of_act e acts.Load = or_nothing (load_of e.writes (filter_map row_written e.writes))
event_of_act e (acts.Start id) = or_nothing (option_map (λ row. Run (Start (Some id) row.function row.args)) (flow_written e id))
event_of_act e (acts.Enqueue id) = or_nothing (option_and_then (enqueue_of id) (flow_written e id))
event_of_act e (acts.Dequeue id) = or_nothing (option_and_then dequeue_of (flow_written e id))
event_of_act e (acts.Txn id n args) = Turn id
event_of_act e (acts.Outside id n args) = Turn id
event_of_act e (acts.Child id n child) = Turn id
event_of_act e (acts.Await id n on) = Turn id
event_of_act e (acts.Finish id) = Turn id
event_of_act e (acts.Cancel id) = Run (Cancel id)
event_of_act e (acts.Resume id) = Run (Resume id)
event_of_act e (acts.Fork id from below) = Run (Fork from below (Some id))
event_of_act e (acts.Recover id) = Run (Recover id)

abbrev pub event_of : Entry → Event
event_of e = event_of_act e e.act

-- the workflow whose transaction the entry commits, where it ran on the snapshot i
abbrev pub begun_by : ℕ → Act → ℕ → Option Event
begun_by i (acts.Txn id n args) snap = if nat_le i snap && nat_le snap i then Some (Turn id) else None
begun_by i act snap = None

-- The opening turns of the transactions that ran on snapshot i.
abbrev pub begins : List Entry → ℕ → List Event
begins h i = filter_map (λ (e : Entry). begun_by i e.act e.snap) h

-- At each place the snapshots are opened, and then comes the event of the next entry.
abbrev pub schedule : List Entry → List Event
schedule h = flat_map (λ p. begins h p.0 ++ event_of p.1 ∷ []) (enumerate_from 0 h)
