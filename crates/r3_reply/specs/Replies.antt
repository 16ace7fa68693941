-- Which reply of the plain machine a reply is.
use Rattle.r3_gate.specs.declared.fault.Limit.{Limit}
use Rattle.r3_gate.specs.declared.fault.Limit.TheVariants as limits
use Rattle.r3_model.specs.Event as model
use Rattle.r3_reply.specs.declared.reply.Reply.{Reply}
use Rattle.r3_reply.specs.declared.reply.Reply.TheVariants as replies

abbrev pub as_limit : Limit → model.Limit
as_limit limits.Entries = model.Entries
as_limit limits.Bytes = model.Bytes

-- the plain machine's reply
abbrev pub as_reply : Reply → model.Reply
as_reply (replies.Entry number) = model.Entry number
as_reply (replies.EntryOf number id) = model.EntryOf number id.now
as_reply (replies.Full limit) = model.Full (as_limit limit)
as_reply (replies.Refused refusal) = model.Refused refusal
as_reply (replies.Began snap) = model.Began snap
as_reply (replies.Conflict entry) = model.Conflicts entry
as_reply (replies.Waiting id) = model.Waiting id.now
as_reply replies.Again = model.Again
as_reply (replies.NotPending status) = model.NotPending status
as_reply (replies.Unexpected n recorded asked) = model.Unexpects n recorded.now asked.now
as_reply replies.Empty = model.Empty
as_reply (replies.Limit running) = model.AtLimit running
as_reply (replies.Idle turns) = model.Idle turns
as_reply (replies.Spent turns) = model.Spent turns
as_reply (replies.Row id row) = model.Row id.now row.now
as_reply (replies.Value value) = model.Value value.now
as_reply replies.Absent = model.Absent
as_reply replies.NotRead = model.NotRead
as_reply replies.NotForm = model.NotForm
