-- The plain machine.
use Rattle.std.specs.Prelude.{ℕ, ◌+◌, ◌^◌, not, List, [], ◌∷◌, ◌++◌, length, Option, Some, None, if◌then◌else◌, nat_lt, nat_le, bytes_eq}
use Rattle.std.specs.FinMap.Entries.{find, put, where_key}
use Rattle.r3_value.specs.declared.value.Val.{Val}
use Rattle.r3_value.specs.declared.value.Outcome.{Outcome}
use Rattle.r3_rows.specs.declared.rows.FlowRow.{FlowRow}
use Rattle.r3_entry.specs.declared.entry.Act.{Act}
use Rattle.r3_entry.specs.declared.entry.Act.TheVariants as acts
use Rattle.r3_entry.specs.declared.entry.Entry.{Entry}
use Rattle.r3_rows.specs.Keys.{bytes_cmp}
use Rattle.r3_entry.specs.Bytes.{entry, size}
use Rattle.r3_model.specs.Language.{Text, Language}
use Rattle.fn_tree.specs.declared.flow.Request.{Request}
use Rattle.r3_model.specs.Event.{Event, Append, Run, Turn, Dequeue, ShowStatus, GetRow, Nothing, Limit, Entries, Bytes, Reply, Full, Refused, Began, Conflicts, Row, Value, Absent, Nil, Call}
use Rattle.sys_flow.specs.declared.command.Refusal.TheVariants.{UnknownId, UnknownTable}
use Rattle.r3_model.specs.Event as reply
use Rattle.r3_model.specs.Given.{Given, Enters, Answers}
use Rattle.r3_model.specs.Rows.{row_at, flow_at}
use Rattle.r3_model.specs.Acts.{program_entry}
use Rattle.r3_model.specs.Commands.{commanded}
use Rattle.r3_model.specs.Queues.{dequeued}
use Rattle.r3_model.specs.Turns.{turned, call_of_turn}

-- the open snapshots, in the order of the IDs
abbrev pub Begun : Type 0
Begun = List (Text × ℕ)

pub record State : Type 0 where
  pub history : List Entry
  pub begun : Begun

-- ---- one event on a history

abbrev pub shown : Text → Option FlowRow → Reply
shown id None = Refused UnknownId
shown id (Some row) = Row id row

abbrev pub got : Option Val → Reply
got None = Absent
got (Some v) = Value v

module _ (P : Language) (h : List Entry) where
  -- What an event comes to, with its open snapshot and the answer of the outside, should it be asked.
  abbrev pub given : Event → Option ℕ → Option Outcome → Given
  given (Append text) snap answer = Enters (program_entry h text) (reply.Entry (length h + 1))
  given (Run command) snap answer = commanded P h command
  given (Turn id) snap answer = turned P h id snap answer
  given (Dequeue queue) snap answer = dequeued h P queue
  given (ShowStatus id) snap answer = Answers (shown id (flow_at h (length h) id))
  given (GetRow table key) snap answer =
      if P.has_table table then Answers (got (row_at h (length h) table key)) else Answers (Refused UnknownTable)
  given Nothing snap answer = Answers Nil

  abbrev pub call_with : Text → Option Outcome → Option Request → List Call
  call_with id answer None = []
  call_with id answer (Some q) = record { id = id; n = q.n; name = q.name; args = q.args; answer = answer } ∷ []

  -- the calls of the outside that the event makes: one at most
  abbrev pub calls_of : Event → Option Outcome → List Call
  calls_of (Turn id) answer = call_with id answer (call_of_turn P h id)
  calls_of _ answer = []

-- ---- room

-- whether there is no room for one more entry, and of which kind
abbrev pub full_of : List Entry → Entry → Option Limit
full_of h e =
    if nat_le 1000000 (length h) then Some Entries
    else if nat_lt (2 ^ 30) (size h + 5 + length (entry e)) then Some Bytes else None

-- ---- open snapshots

abbrev pub snap_of : Begun → Event → Option ℕ
snap_of begun (Turn id) = find bytes_cmp id begun
snap_of begun _ = None

abbrev pub opened : Text → ℕ → Begun → Begun
opened id s begun = put bytes_cmp id s begun

abbrev pub closed : Text → Begun → Begun
closed id begun = where_key bytes_cmp (λ i. not (bytes_eq i id)) begun

-- an entry closes the snapshot that it commits, cancels or recovers
abbrev pub after_act : Act → Begun → Begun
after_act (acts.Txn id n args) begun = closed id begun
after_act (acts.Cancel id) begun = closed id begun
after_act (acts.Recover id) begun = closed id begun
after_act act begun = begun

-- a turn that begins opens one, and a conflict closes it
abbrev pub after_reply : Event → Reply → Begun → Begun
after_reply (Turn id) (Began s) begun = opened id s begun
after_reply (Turn id) (Conflicts j) begun = closed id begun
after_reply e r begun = begun

-- ---- a step

pub record Out : Type 0 where
  pub state : State
  pub reply : Reply
  pub calls : List Call

abbrev pub entered : State → Entry → Reply → Option Limit → State × Reply
entered st e r (Some limit) = (st, Full limit)
entered st e r None = (record { history = st.history ++ e ∷ []; begun = after_act e.act st.begun }, r)

abbrev pub came : State → Event → Given → State × Reply
came st ev (Enters e r) = entered st e r (full_of st.history e)
came st ev (Answers r) = (record { history = st.history; begun = after_reply ev r st.begun }, r)

abbrev pub first_of : List (Option Outcome) → Option Outcome
first_of [] = None
first_of (a ∷ rest) = a

module _ (P : Language) where
  abbrev pub stepped : State → Event → Option Outcome → Out
  stepped st ev answer =
      let after = came st ev (given P st.history ev (snap_of st.begun ev) answer) in
      record { state = after.0; reply = after.1; calls = calls_of P st.history ev answer }

  -- One event. A call of the outside takes the first answer; where there is none, asking fails.
  abbrev pub step : State → Event → List (Option Outcome) → Out
  step st ev answers = stepped st ev (first_of answers)
