-- Which entry an event gives, and what stood before it.
use Rattle.std.proofs.Common.{◌≡◌, ℕ, ◌≤◌, Bool, true, false, List, [], length, Option, Some, None, ◌⊎◌}
use Rattle.std.specs.Prelude.{codes}
use Rattle.std.specs.List.{AllByRecursion}
use Rattle.r3_value.specs.declared.value.Val.{Val}
use Rattle.r3_value.specs.declared.value.Val.TheVariants as vals
use Rattle.r3_value.specs.declared.value.Outcome.{Outcome}
use Rattle.r3_value.specs.declared.value.Outcome.TheVariants as outcomes
use Rattle.r3_rows.specs.declared.rows.FlowRow.{FlowRow}
use Rattle.r3_rows.specs.declared.rows.Status.TheVariants as status
use Rattle.r3_entry.specs.declared.entry.Entry.{Entry}
use Rattle.r3_model.specs.Language.{Text, Language}
use Rattle.fn_tree.specs.declared.flow.Request.{Request}
use Rattle.fn_tree.specs.declared.flow.AskKind.TheVariants as asking
use Rattle.fn_tree.specs.declared.flow.FlowEnd.TheVariants.{Done, Asks}
use Rattle.r3_model.specs.Event.{Event, Append, Run, Turn, Dequeue}
use Rattle.sys_flow.specs.declared.command.Command.TheVariants.{Load, Start, Enqueue, Cancel, Resume, Fork, Recover}
use Rattle.sys_flow.specs.declared.command.Refusal.{Refusal}
use Rattle.sys_flow.specs.Children.{child_id}
use Rattle.r3_model.specs.Rows.{Flow, flow_at}
use Rattle.r3_model.specs.Acts.{program_entry, load_entry, start_entry, enqueue_entry, dequeue_entry, finish_entry, cancel_entry, resume_entry, fork_entry, recover_entry, txn_entry, outside_entry, child_entry, child_write, await_entry}
use Rattle.sys_flow.specs.Statuses.{may_cancel, may_resume, recovered}
use Rattle.r3_model.specs.Commands.{id_or_made, start_tests, enqueue_tests, fork_tests}
use Rattle.r3_model.specs.Turns.{flow_end, run_on, writer_past, conflict_keys, text_of}
use Rattle.sys_flow.specs.Awaits.{awaited_of}
use Rattle.sys_flow.specs.declared.awaits.Awaited.TheVariants as awaited

-- none of the refusals holds
abbrev pub Passes : List (Bool × Refusal) → Type 0
Passes tests = AllByRecursion (λ (t : Bool × Refusal). t.0 ≡ false) tests

-- what the step of a child that isn't fresh comes to
abbrev pub IsLinked : Text → Outcome → Type 0
IsLinked child o = (o ≡ outcomes.Value (vals.Text child)) ⊎ ((o ≡ outcomes.Failure (codes "id")) ⊎ (o ≡ outcomes.Failure (codes "conflict")))

-- the entry of a turn that asked for something, by what it asked for
pub data AskCase (P : Language) (h : List Entry) (id : Text) (q : Request) (snap : Option ℕ) (answer : Option Outcome) (e : Entry) : Type 0 where
  commits : (s : ℕ) → q.kind ≡ asking.Txn → snap ≡ Some s → writer_past h s (conflict_keys (run_on P h id s q)) ≡ None → e ≡ txn_entry h id q s (run_on P h id s q) → AskCase P h id q snap answer e
  hears : (o : Outcome) → q.kind ≡ asking.Outside → answer ≡ Some o → e ≡ outside_entry h id q o → AskCase P h id q snap answer e
  bears : q.kind ≡ asking.Child → flow_at h (length h) (child_id id q.n) ≡ None → length (child_id id q.n) ≤ 200
      → e ≡ child_entry h id q (child_id id q.n) (outcomes.Value (vals.Text (child_id id q.n))) (child_write h id q (child_id id q.n)) → AskCase P h id q snap answer e
  links : (child : Text) (o : Outcome) → q.kind ≡ asking.Child → (child ≡ id) ⊎ ((child ≡ child_id id q.n) × (length child ≤ 200)) → IsLinked child o → e ≡ child_entry h id q child o [] → AskCase P h id q snap answer e
  awaits : (o : Outcome) → q.kind ≡ asking.Await → awaited_of (flow_at h (length h) (text_of q.args)) ≡ awaited.Answer o → e ≡ await_entry h id q (text_of q.args) o → AskCase P h id q snap answer e

-- the entry of a turn of a running workflow
pub data TurnCase (P : Language) (h : List Entry) (id : Text) (row : FlowRow) (snap : Option ℕ) (answer : Option Outcome) (e : Entry) : Type 0 where
  finishes : (o : Outcome) → flow_end P h id row ≡ Done o → e ≡ finish_entry h id row o → TurnCase P h id row snap answer e
  goes_on : (q : Request) → flow_end P h id row ≡ Asks q → AskCase P h id q snap answer e → TurnCase P h id row snap answer e

-- the entry of an event
pub data Case (P : Language) (h : List Entry) (ev : Event) (snap : Option ℕ) (answer : Option Outcome) (e : Entry) : Type 0 where
  programs : (text : Text) → ev ≡ Append text → e ≡ program_entry h text → Case P h ev snap answer e
  loads : (table : Text) (rows : List (Text × Val)) → ev ≡ Run (Load table rows) → e ≡ load_entry h table rows → Case P h ev snap answer e
  starts : (id : Option Text) (function : Text) (args : Val) → ev ≡ Run (Start id function args) → flow_at h (length h) (id_or_made h id) ≡ None → Passes (start_tests P h (id_or_made h id) function args)
      → e ≡ start_entry h (id_or_made h id) function args → Case P h ev snap answer e
  enqueues : (id : Option Text) (queue function : Text) (args : Val) → ev ≡ Run (Enqueue id queue function args) → flow_at h (length h) (id_or_made h id) ≡ None → Passes (enqueue_tests P h (id_or_made h id) queue function args)
      → e ≡ enqueue_entry h (id_or_made h id) queue function args → Case P h ev snap answer e
  dequeues : (queue : Text) (f : Flow) → ev ≡ Dequeue queue → flow_at h (length h) f.id ≡ Some f.row → f.row.status ≡ status.Enqueued → e ≡ dequeue_entry h f.id f.row → Case P h ev snap answer e
  turns : (id : Text) (row : FlowRow) → ev ≡ Turn id → flow_at h (length h) id ≡ Some row → row.status ≡ status.Pending → TurnCase P h id row snap answer e → Case P h ev snap answer e
  cancels : (id : Text) (row : FlowRow) → ev ≡ Run (Cancel id) → flow_at h (length h) id ≡ Some row → may_cancel row.status ≡ true → e ≡ cancel_entry h id row → Case P h ev snap answer e
  resumes : (id : Text) (row : FlowRow) → ev ≡ Run (Resume id) → flow_at h (length h) id ≡ Some row → may_resume row.status ≡ true → e ≡ resume_entry h id row → Case P h ev snap answer e
  forks : (id : Option Text) (source : Text) (below : ℕ) (row : FlowRow) → ev ≡ Run (Fork source below id) → flow_at h (length h) (id_or_made h id) ≡ None → flow_at h (length h) source ≡ Some row
      → Passes (fork_tests P h (id_or_made h id) source below) → e ≡ fork_entry h (id_or_made h id) source row below → Case P h ev snap answer e
  recovers : (id : Text) (row : FlowRow) → ev ≡ Run (Recover id) → flow_at h (length h) id ≡ Some row → row.status ≡ status.Pending → e ≡ recover_entry h id row (recovered row.status row.attempts) → Case P h ev snap answer e
