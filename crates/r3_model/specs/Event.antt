-- What may happen to a machine, and what it answers.
use Rattle.std.specs.Prelude.{ℕ, Option}
use Rattle.r3_value.specs.declared.value.Val.{Val}
use Rattle.r3_value.specs.declared.value.Outcome.{Outcome}
use Rattle.r3_rows.specs.declared.rows.Status.{Status}
use Rattle.r3_rows.specs.declared.rows.FlowRow.{FlowRow}
use Rattle.sys_flow.specs.declared.command.Command.{Command}
use Rattle.sys_flow.specs.declared.command.Refusal.{Refusal}
use Rattle.r3_model.specs.Language.{Text}

-- one thing that may happen
pub data Event : Type 0 where
  -- a program is appended
  Append : (text : Text) → Event
  Run : Command → Event
  -- a workflow goes one step on
  Turn : (id : Text) → Event
  -- a queue starts its next workflow
  Dequeue : (queue : Text) → Event
  ShowStatus : (id : Text) → Event
  GetRow : (table key : Text) → Event
  Nothing : Event

-- what a history has no more room for
pub data Limit : Type 0 where
  Entries : Limit
  Bytes : Limit

-- what is answered
pub data Reply : Type 0 where
  -- an entry was appended, or stood there
  Entry : (number : ℕ) → Reply
  EntryOf : (number : ℕ) (id : Text) → Reply
  Full : Limit → Reply
  Refused : Refusal → Reply
  -- of a turn
  Began : (snap : ℕ) → Reply
  Conflicts : (entry : ℕ) → Reply
  Waiting : (id : Text) → Reply
  Again : Reply
  NotPending : Status → Reply
  Unexpects : (n : ℕ) (recorded asked : Text) → Reply
  -- of a dequeue
  Empty : Reply
  AtLimit : (running : ℕ) → Reply
  -- of a drain
  Idle : (turns : ℕ) → Reply
  Spent : (turns : ℕ) → Reply
  -- of a look
  Row : (id : Text) (row : FlowRow) → Reply
  Value : Val → Reply
  Absent : Reply
  -- of a line that is no JSON, or of no form
  NotRead : Reply
  NotForm : Reply
  -- of the event that does nothing
  Nil : Reply

-- a call of the outside, with its answer, or None where asking failed
pub record Call : Type 0 where
  pub id : Text
  pub n : ℕ
  pub name : Text
  pub args : Val
  pub answer : Option Outcome
