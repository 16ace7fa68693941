-- The commands that start a workflow, and what one is answered whose ID is there.
use Rattle.std.specs.Prelude.{◌≡◌, Bool, true, false, List, [], ◌∷◌, Option, Some, None, if◌then◌else◌, bytes_eq, option_map}
use Rattle.r3_value.specs.declared.value.Val.{Val}
use Rattle.r3_rows.specs.declared.rows.FlowRow.{FlowRow}
use Rattle.r3_entry.specs.declared.entry.Act.{Act}
use Rattle.r3_entry.specs.declared.entry.Act.TheVariants as acts
use Rattle.r3_entry.specs.declared.entry.Entry.{Entry}
use Rattle.sys_flow.specs.declared.command.Command.{Command}
use Rattle.sys_flow.specs.declared.command.Command.TheVariants.{Load, Start, Enqueue, Cancel, Resume, Fork, Recover}
use Rattle.sys_flow.specs.declared.command.Refusal.{Refusal}
use Rattle.sys_flow.specs.declared.command.Refusal.TheVariants as refusals
use Rattle.r3_model.specs.Language.{Text, Language}
use Rattle.r3_model.specs.Event.{Reply, EntryOf, Refused}
use Rattle.r3_model.specs.Commands.{id_or_made, start_tests, enqueue_tests, fork_tests}
use Rattle.r3_repeats.specs.Flows.{row_now}

-- the ID under which a command starts a workflow: the given one, or the one that is made
abbrev pub id_of_start : List Entry → Command → Option Text
id_of_start h (Load table rows) = None
id_of_start h (Start id function args) = Some (id_or_made h id)
id_of_start h (Enqueue id queue function args) = Some (id_or_made h id)
id_of_start h (Cancel id) = None
id_of_start h (Resume id) = None
id_of_start h (Fork source below to) = Some (id_or_made h to)
id_of_start h (Recover id) = None

-- it starts workflows: a start, an enqueue or a fork
abbrev pub is_start : Command → Bool
is_start (Load table rows) = false
is_start (Start id function args) = true
is_start (Enqueue id queue function args) = true
is_start (Cancel id) = false
is_start (Resume id) = false
is_start (Fork source below to) = true
is_start (Recover id) = false

-- a start or an enqueue that was given its ID
abbrev pub is_named : Command → Bool
is_named (Load table rows) = false
is_named (Start None function args) = false
is_named (Start (Some id) function args) = true
is_named (Enqueue None queue function args) = false
is_named (Enqueue (Some id) queue function args) = true
is_named (Cancel id) = false
is_named (Resume id) = false
is_named (Fork source below to) = false
is_named (Recover id) = false

-- the function and the arguments with which it starts one: a fork takes its source's
abbrev pub call_of_start : List Entry → Command → Option (Text × Val)
call_of_start h (Load table rows) = None
call_of_start h (Start id function args) = Some (function, args)
call_of_start h (Enqueue id queue function args) = Some (function, args)
call_of_start h (Cancel id) = None
call_of_start h (Resume id) = None
call_of_start h (Fork source below to) = option_map (λ (row : FlowRow). (row.function, row.args)) (row_now h source)
call_of_start h (Recover id) = None

-- what stands before the repeat rule: the refusals of the command, in their order
abbrev pub tests_of_start : Language → List Entry → Command → List (Bool × Refusal)
tests_of_start P h (Load table rows) = []
tests_of_start P h (Start id function args) = start_tests P h (id_or_made h id) function args
tests_of_start P h (Enqueue id queue function args) = enqueue_tests P h (id_or_made h id) queue function args
tests_of_start P h (Cancel id) = []
tests_of_start P h (Resume id) = []
tests_of_start P h (Fork source below to) = fork_tests P h (id_or_made h to) source below
tests_of_start P h (Recover id) = []

-- the first refusal whose test holds, else this reply
abbrev pub reply_unless : List (Bool × Refusal) → Reply → Reply
reply_unless [] reply = reply
reply_unless ((true, refusal) ∷ tests) reply = Refused refusal
reply_unless ((false, refusal) ∷ tests) reply = reply_unless tests reply

-- a workflow of this ID is there: under the same function its own reply, under another a conflict
abbrev pub repeat_reply : Text → FlowRow → Text → Reply
repeat_reply id row function = if bytes_eq row.function function then EntryOf row.started id else Refused refusals.Conflict

-- the act starts this workflow
abbrev pub IsStartOf : Text → Act → Type 0
IsStartOf id (acts.Start i) = i ≡ id
IsStartOf id (acts.Enqueue i) = i ≡ id
IsStartOf id (acts.Fork i source below) = i ≡ id
IsStartOf id act = ⊥
