-- The text of each reply: compact JSON, keys in byte order, and a newline.
use Rattle.std.specs.Prelude.{ℕ, true, Option, Some, None, codes}
use Rattle.serde_json.specs.Data.{unsigned, Data, null, boolean, number, string, object, no_members, member}
use Rattle.r3_value.specs.declared.value.Val.{Val}
use Rattle.r3_value.specs.declared.value.Outcome.{Outcome}
use Rattle.r3_value.specs.declared.value.Outcome.TheVariants as outcomes
use Rattle.r3_value.specs.View.{value_of}
use Rattle.r3_json.specs.Values.{data_of}
use Rattle.r3_json.specs.Lines.{line_of}
use Rattle.r3_rows.specs.declared.rows.FlowRow.{FlowRow}
use Rattle.r3_rows.specs.Words.{status_word}
use Rattle.sys_flow.specs.declared.command.Refusal.{Refusal}
use Rattle.sys_flow.specs.declared.command.Refusal.TheVariants as refusals
use Rattle.r3_model.specs.Language.{Text}
use Rattle.r3_model.specs.Event.{Limit, Entries, Bytes, Reply, Entry, EntryOf, Full, Refused, Began, Conflicts, Waiting, Again, NotPending, Unexpects, Empty, AtLimit, Idle, Spent, Row, Value, Absent, NotRead, NotForm, Nil}

abbrev pub val_data : Val → Data
val_data v = data_of (value_of v)

abbrev pub count : ℕ → Data
count n = number (unsigned n)

-- objects of one and two members
abbrev pub one : Text → Data → Data
one key d = object (member key d no_members)

abbrev pub two : Text → Data → Text → Data → Data
two k d l e = object (member k d (member l e no_members))

abbrev pub outcome_data : Outcome → Data
outcome_data (outcomes.Value v) = one (codes "value") (val_data v)
outcome_data (outcomes.Failure word) = one (codes "failure") (string word)

abbrev pub or_null : {X : Type 0} → (X → Data) → Option X → Data
or_null f None = null
or_null f (Some x) = f x

-- the refusal of a status carries the status beside its word
abbrev pub refusal_data : Refusal → Data
refusal_data refusals.UnknownTable = one (codes "refused") (string (codes "unknown_table"))
refusal_data refusals.UnknownQueue = one (codes "refused") (string (codes "unknown_queue"))
refusal_data refusals.UnknownFunction = one (codes "refused") (string (codes "unknown_function"))
refusal_data refusals.Arity = one (codes "refused") (string (codes "arity"))
refusal_data refusals.Id = one (codes "refused") (string (codes "id"))
refusal_data refusals.UnknownId = one (codes "refused") (string (codes "unknown_id"))
refusal_data refusals.Conflict = one (codes "refused") (string (codes "conflict"))
refusal_data refusals.Step = one (codes "refused") (string (codes "step"))
refusal_data (refusals.Status s) =
    two (codes "refused") (string (codes "status")) (codes "status") (string (status_word s))

abbrev pub limit_word : Limit → Text
limit_word Entries = codes "entries"
limit_word Bytes = codes "bytes"

-- a workflow's row, with its ID between
abbrev pub row_data : Text → FlowRow → Data
row_data id r = object
    (member (codes "args") (val_data r.args)
    (member (codes "attempts") (count r.attempts)
    (member (codes "fn") (string r.function)
    (member (codes "id") (string id)
    (member (codes "outcome") (or_null outcome_data r.outcome)
    (member (codes "parent") (or_null string r.parent)
    (member (codes "queue") (or_null string r.queue)
    (member (codes "started") (count r.started)
    (member (codes "status") (string (status_word r.status)) no_members)))))))))

abbrev pub unexpected_data : ℕ → Text → Text → Data
unexpected_data n recorded asked = object
    (member (codes "asked") (string asked)
    (member (codes "n") (count n)
    (member (codes "recorded") (string recorded) no_members)))

abbrev pub reply_data : Reply → Data
reply_data (Entry k) = one (codes "entry") (count k)
reply_data (EntryOf k id) = two (codes "entry") (count k) (codes "id") (string id)
reply_data (Full limit) = one (codes "full") (string (limit_word limit))
reply_data (Refused refusal) = refusal_data refusal
reply_data (Began s) = one (codes "began") (count s)
reply_data (Conflicts j) = one (codes "conflict") (count j)
reply_data (Waiting id) = one (codes "waiting") (string id)
reply_data Again = one (codes "again") (boolean true)
reply_data (NotPending s) = one (codes "none") (string (status_word s))
reply_data (Unexpects n recorded asked) = one (codes "unexpected") (unexpected_data n recorded asked)
reply_data Empty = one (codes "empty") (boolean true)
reply_data (AtLimit r) = one (codes "limit") (count r)
reply_data (Idle t) = two (codes "drain") (string (codes "idle")) (codes "turns") (count t)
reply_data (Spent t) = two (codes "drain") (string (codes "spent")) (codes "turns") (count t)
reply_data (Row id r) = row_data id r
reply_data (Value v) = one (codes "value") (val_data v)
reply_data Absent = one (codes "absent") (boolean true)
reply_data NotRead = one (codes "refused") (string (codes "syntax"))
reply_data NotForm = one (codes "refused") (string (codes "command"))
reply_data Nil = null

-- the bytes of a reply
abbrev pub reply_text : Reply → Text
reply_text r = line_of (reply_data r)
