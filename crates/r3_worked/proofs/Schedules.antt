-- Worked cases of the events that a history tells of: the event of each act, or none, and where snapshots are opened.
use Rattle.std.proofs.Common.{◌≡◌, ℕ, [], ◌∷◌, replicate, Option, Some, None, refl, pos}
use Rattle.std.specs.Prelude.{codes}
use Rattle.r3_value.specs.declared.value.Val.TheVariants.{Null}
use Rattle.r3_value.specs.declared.value.Outcome.TheVariants as outcomes
use Rattle.r3_rows.specs.declared.rows.Key.{Key}
use Rattle.r3_rows.specs.declared.rows.Key.TheVariants as keys
use Rattle.r3_rows.specs.declared.rows.Cell.{Cell}
use Rattle.r3_rows.specs.declared.rows.Cell.TheVariants as cells
use Rattle.r3_rows.specs.declared.rows.Status.{Status}
use Rattle.r3_rows.specs.declared.rows.Status.TheVariants.{Enqueued, Pending, Success, Cancelled}
use Rattle.r3_rows.specs.declared.rows.StepKind.TheVariants as kinds
use Rattle.r3_entry.specs.declared.entry.Act.TheVariants as acts
use Rattle.r3_entry.specs.declared.entry.Entry.{Entry}
use Rattle.sys_flow.specs.declared.command.Command.TheVariants.{Load, Start, Enqueue, Cancel, Resume, Fork, Recover}
use Rattle.r3_model.specs.Language.{Text}
use Rattle.r3_model.specs.Event.{Append, Run, Turn, Dequeue, Nothing}
use Rattle.r3_model.specs.Schedule.{event_of, begins, schedule}
use Rattle.r3_model.proofs.WorkedReplay.{int, txt, m1, d1, plain, flow, row, step_row, args_m1}

abbrev e1 : Text
e1 = codes "e1"

-- a workflow's row with this queue and so many recoveries
abbrev queued : Status → Option Text → ℕ → Key × Option Cell
queued status queue attempts = (
  keys.Flow e1,
  Some (cells.Flow (record {
    status = status;
    function = codes "send";
    args = args_m1;
    outcome = None;
    queue = queue;
    started = 3;
    attempts = attempts;
    parent = None;
  })),
)

abbrev mail : Option Text
mail = Some (codes "mail")

-- ---- the event of each act

of_a_program : event_of (plain 0 (acts.Program (codes "table acct;")) []) ≡ Append (codes "table acct;")
of_a_program = refl

of_a_load : event_of (plain 1 acts.Load (row (codes "a") (pos 10) ∷ row (codes "b") (pos 5) ∷ []))
    ≡ Run (Load (codes "acct") ((codes "a", int 10) ∷ (codes "b", int 5) ∷ []))
of_a_load = refl

of_a_start : event_of (plain 2 (acts.Start m1) (flow m1 (codes "move") args_m1 Pending 3 None ∷ []))
    ≡ Run (Start (Some m1) (codes "move") args_m1)
of_a_start = refl

of_an_enqueue : event_of (plain 2 (acts.Enqueue e1) (queued Enqueued mail 0 ∷ []))
    ≡ Run (Enqueue (Some e1) (codes "mail") (codes "send") args_m1)
of_an_enqueue = refl

of_a_dequeue : event_of (plain 3 (acts.Dequeue e1) (queued Pending mail 0 ∷ [])) ≡ Dequeue (codes "mail")
of_a_dequeue = refl

-- each recorded step is of a turn, and so is the end
of_a_transaction : event_of (plain 3 (acts.Txn m1 0 args_m1) (step_row m1 0 (codes "pay") kinds.Txn (int 3) ∷ [])) ≡ Turn m1
of_a_transaction = refl

of_a_call : event_of (plain 4 (acts.Outside m1 1 args_m1) (step_row m1 1 (codes "notify") kinds.Outside Null ∷ [])) ≡ Turn m1
of_a_call = refl

of_a_child : event_of (plain 3 (acts.Child (codes "p1") 0 (codes "p1-0")) (step_row (codes "p1") 0 (codes "send") kinds.Child (txt (codes "p1-0")) ∷ [])) ≡ Turn (codes "p1")
of_a_child = refl

of_an_await : event_of (plain 6 (acts.Await (codes "p1") 1 (codes "p1-0")) (step_row (codes "p1") 1 (codes "await") kinds.Await (int 3) ∷ [])) ≡ Turn (codes "p1")
of_an_await = refl

of_a_finish : event_of (plain 5 (acts.Finish m1) (flow m1 (codes "move") args_m1 Success 3 (Some (outcomes.Value (int 3))) ∷ [])) ≡ Turn m1
of_a_finish = refl

of_a_cancel : event_of (plain 3 (acts.Cancel m1) (flow m1 (codes "move") args_m1 Cancelled 3 None ∷ [])) ≡ Run (Cancel m1)
of_a_cancel = refl

of_a_resume : event_of (plain 4 (acts.Resume m1) (flow m1 (codes "move") args_m1 Pending 3 None ∷ [])) ≡ Run (Resume m1)
of_a_resume = refl

-- the new workflow is the act's, and the source comes first in the command
of_a_fork : event_of (plain 6 (acts.Fork (codes "m2") m1 1) (flow (codes "m2") (codes "move") args_m1 Pending 7 None ∷ step_row (codes "m2") 0 (codes "pay") kinds.Txn (int 3) ∷ []))
    ≡ Run (Fork m1 1 (Some (codes "m2")))
of_a_fork = refl

of_a_recovery : event_of (plain 3 (acts.Recover e1) (queued Pending None 1 ∷ [])) ≡ Run (Recover e1)
of_a_recovery = refl

-- ---- entries that tell of nothing

abbrev of_table : Text → Text → Key × Option Cell
of_table table key = (keys.User table key, Some (cells.Row (int 1)))

a_load_of_two_tables : event_of (plain 1 acts.Load (of_table (codes "acct") (codes "a") ∷ of_table (codes "log") (codes "a") ∷ [])) ≡ Nothing
a_load_of_two_tables = refl

a_load_that_deletes : event_of (plain 1 acts.Load (of_table (codes "acct") (codes "a") ∷ (keys.User (codes "acct") (codes "b"), None) ∷ [])) ≡ Nothing
a_load_that_deletes = refl

a_load_of_no_rows : event_of (plain 1 acts.Load []) ≡ Nothing
a_load_of_no_rows = refl

-- a workflow's row beside a table's
a_load_of_a_workflow : event_of (plain 1 acts.Load (of_table (codes "acct") (codes "a") ∷ queued Pending None 0 ∷ [])) ≡ Nothing
a_load_of_a_workflow = refl

a_load_of_1024 : event_of (plain 1 acts.Load (replicate 1024 (of_table (codes "acct") (codes "a")))) ≡ Run (Load (codes "acct") (replicate 1024 (codes "a", int 1)))
a_load_of_1024 = refl

a_load_of_1025 : event_of (plain 1 acts.Load (replicate 1025 (of_table (codes "acct") (codes "a")))) ≡ Nothing
a_load_of_1025 = refl

a_start_without_its_row : event_of (plain 2 (acts.Start m1) (flow d1 (codes "move") args_m1 Pending 3 None ∷ [])) ≡ Nothing
a_start_without_its_row = refl

an_enqueue_without_a_queue : event_of (plain 2 (acts.Enqueue e1) (queued Enqueued None 0 ∷ [])) ≡ Nothing
an_enqueue_without_a_queue = refl

a_dequeue_without_a_queue : event_of (plain 3 (acts.Dequeue e1) (queued Pending None 0 ∷ [])) ≡ Nothing
a_dequeue_without_a_queue = refl

-- ---- the schedule

abbrev on : ℕ → Text → Entry
on snap id = plain snap (acts.Txn id 0 args_m1) []

abbrev done : Text → Entry
done id = plain 9 (acts.Finish id) []

-- all that were opened on a snapshot, in the order in which they commit
snapshots_of_two : begins (on 2 m1 ∷ on 1 d1 ∷ on 2 d1 ∷ done m1 ∷ []) 2 ≡ Turn m1 ∷ Turn d1 ∷ []
snapshots_of_two = refl

no_snapshot_there : begins (on 2 m1 ∷ on 1 d1 ∷ []) 3 ≡ []
no_snapshot_there = refl

-- snapshot 1 is opened before entry 2, for the workflow that commits as entry 4; no place opens snapshot 9
a_schedule : schedule (plain 0 (acts.Program (codes "p")) [] ∷ done m1 ∷ plain 2 (acts.Cancel d1) [] ∷ on 1 d1 ∷ on 9 m1 ∷ plain 5 acts.Load [] ∷ [])
    ≡ Append (codes "p") ∷ Turn d1 ∷ Turn m1 ∷ Run (Cancel d1) ∷ Turn d1 ∷ Turn m1 ∷ Nothing ∷ []
a_schedule = refl

-- of an empty history there is none, and a snapshot of all the entries is opened nowhere
no_schedule : schedule [] ≡ []
no_schedule = refl

a_last_snapshot : schedule (done m1 ∷ on 2 d1 ∷ []) ≡ Turn m1 ∷ Turn d1 ∷ []
a_last_snapshot = refl
