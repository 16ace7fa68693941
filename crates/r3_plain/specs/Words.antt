-- The machine's words, for what the program has.
use Rattle.std.specs.Prelude.{List, [], ◌∷◌, Option, Some, None}
use Rattle.r3_model.specs.Event as event
use Rattle.r3_model.specs.Given as given
use Rattle.r3_model.specs.Machine as machine
use Rattle.r3_plain.specs.declared.event.Event.{Event}
use Rattle.r3_plain.specs.declared.event.Event.TheVariants as events
use Rattle.r3_plain.specs.declared.given.Given.{Given}
use Rattle.r3_plain.specs.declared.given.Given.TheVariants as givens
use Rattle.r3_plain.specs.declared.reply.Call.{Call}
use Rattle.r3_plain.specs.declared.reply.Limit.{Limit}
use Rattle.r3_plain.specs.declared.reply.Limit.TheVariants as limits
use Rattle.r3_plain.specs.declared.reply.Out.{Out}
use Rattle.r3_plain.specs.declared.reply.Reply.{Reply}
use Rattle.r3_plain.specs.declared.reply.Reply.TheVariants as replies
use Rattle.r3_plain.specs.declared.state.State.{State}

abbrev pub state_of : State → machine.State
state_of s = record { history = s.history.items; begun = s.begun.entries }

abbrev pub event_of : Event → event.Event
event_of (events.Append text) = event.Append text
event_of (events.Run command) = event.Run command
event_of (events.Turn id) = event.Turn id
event_of (events.Dequeue queue) = event.Dequeue queue
event_of (events.ShowStatus id) = event.ShowStatus id
event_of (events.GetRow table key) = event.GetRow table key
event_of events.Nothing = event.Nothing

abbrev pub limit_of : Limit → event.Limit
limit_of limits.Entries = event.Entries
limit_of limits.Bytes = event.Bytes

abbrev pub reply_of : Reply → event.Reply
reply_of (replies.Entry number) = event.Entry number
reply_of (replies.EntryOf number id) = event.EntryOf number id
reply_of (replies.Full limit) = event.Full (limit_of limit)
reply_of (replies.Refused refusal) = event.Refused refusal
reply_of (replies.Began snap) = event.Began snap
reply_of (replies.Conflicts entry) = event.Conflicts entry
reply_of (replies.Waiting id) = event.Waiting id
reply_of replies.Again = event.Again
reply_of (replies.NotPending status) = event.NotPending status
reply_of (replies.Unexpects n recorded asked) = event.Unexpects n recorded asked
reply_of replies.Empty = event.Empty
reply_of (replies.AtLimit running) = event.AtLimit running
reply_of (replies.Row id row) = event.Row id row
reply_of (replies.Value value) = event.Value value
reply_of replies.Absent = event.Absent
reply_of replies.Nil = event.Nil

abbrev pub call_of : Call → event.Call
call_of c = record { id = c.id; n = c.n; name = c.name; args = c.args; answer = c.answer }

abbrev pub calls_of : Option Call → List event.Call
calls_of None = []
calls_of (Some c) = call_of c ∷ []

abbrev pub given_of : Given → given.Given
given_of (givens.Enters entry reply) = given.Enters entry (reply_of reply)
given_of (givens.Answers reply) = given.Answers (reply_of reply)

-- what a step leaves, tells and asks
abbrev pub out_of : State → Out → machine.Out
out_of s o = record { state = state_of s; reply = reply_of o.reply; calls = calls_of o.call }
