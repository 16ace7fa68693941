-- The machine's replies, for what the calls of the executor answer.
use Rattle.std.specs.Prelude.{Option, Some, None, List, ℕ}
use Rattle.r3_gate.specs.declared.fault.Limit.{Limit as Room}
use Rattle.r3_gate.specs.declared.fault.Limit.TheVariants as rooms
use Rattle.r3_model.specs.Event.{Reply, Limit}
use Rattle.r3_model.specs.Event as reply
use Rattle.r3_exec.specs.declared.ends.TurnEnd.{TurnEnd}
use Rattle.r3_exec.specs.declared.ends.TurnEnd.TheVariants as turns
use Rattle.r3_exec.specs.declared.ends.DequeueEnd.{DequeueEnd}
use Rattle.r3_exec.specs.declared.ends.DequeueEnd.TheVariants as dequeues
use Rattle.r3_exec.specs.declared.ends.CommandEnd.{CommandEnd}
use Rattle.r3_exec.specs.declared.ends.CommandEnd.TheVariants as commands

abbrev pub limit_of : Room → Limit
limit_of rooms.Entries = reply.Entries
limit_of rooms.Bytes = reply.Bytes

abbrev pub turn_reply : TurnEnd → Reply
turn_reply (turns.None status) = reply.NotPending status
turn_reply (turns.Began snap) = reply.Began snap
turn_reply (turns.Entry number) = reply.Entry number
turn_reply (turns.Conflict entry) = reply.Conflicts entry
turn_reply (turns.Waiting id) = reply.Waiting id
turn_reply turns.Again = reply.Again
turn_reply (turns.Unexpected n recorded asked) = reply.Unexpects n recorded asked
turn_reply (turns.Full limit) = reply.Full (limit_of limit)

abbrev pub dequeue_reply : DequeueEnd → Reply
dequeue_reply (dequeues.Started id number) = reply.EntryOf number id
dequeue_reply dequeues.Empty = reply.Empty
dequeue_reply (dequeues.Limit running) = reply.AtLimit running
dequeue_reply (dequeues.Full limit) = reply.Full (limit_of limit)

abbrev pub made_reply : ℕ → Option (List ℕ) → Reply
made_reply number None = reply.Entry number
made_reply number (Some id) = reply.EntryOf number id

abbrev pub command_reply : CommandEnd → Reply
command_reply (commands.Made number id) = made_reply number id
command_reply (commands.Refused refusal) = reply.Refused refusal
command_reply (commands.Full limit) = reply.Full (limit_of limit)
