-- What a turn comes to, before anything is asked or appended.
use Rattle.std.specs.Prelude.{◌≡◌, ℕ, ◌+◌, List, [], ◌∷◌, ◌++◌, length, Option, Some, None}
use Rattle.std.specs.FinMap.{find}
use Rattle.r3_value.specs.declared.value.Outcome.{Outcome}
use Rattle.r3_rows.specs.declared.rows.FlowRow.{FlowRow}
use Rattle.r3_rows.specs.Keys.{bytes_cmp}
use Rattle.r3_entry.specs.declared.entry.Entry.{Entry}
use Rattle.fn_tree.specs.declared.flow.AskKind.TheVariants as asking
use Rattle.fn_tree.specs.declared.flow.FlowEnd.TheVariants.{Asks}
use Rattle.fn_tree.specs.declared.flow.Request.{Request}
use Rattle.r3_model.specs.Event as reply
use Rattle.r3_model.specs.Given.{Given, Enters, Answers}
use Rattle.r3_model.specs.Language.{Language, Text}
use Rattle.r3_model.specs.Acts.{txn_entry}
use Rattle.r3_model.specs.Rows.{flow_at}
use Rattle.r3_model.specs.Turns.{call_of_turn, flow_end, outside_turn, run_on, turned, txn_turn}
use Rattle.r3_model.specs.Machine.{State, Begun, closed, opened}
use Rattle.r3_exec.specs.Ends.{turn_reply}
use Rattle.r3_exec.specs.Entered.{HasCome, reply_after}
use Rattle.r3_exec.specs.declared.commit.Placed.{Placed}
use Rattle.r3_exec.specs.declared.commit.Placed.TheVariants as placed
use Rattle.r3_exec.specs.declared.ends.TurnEnd.{TurnEnd}
use Rattle.r3_exec.specs.declared.ends.TurnEnd.TheVariants as ends
use Rattle.r3_exec.specs.declared.enter.Entered.{Entered}
use Rattle.r3_exec.specs.declared.exec.Exec.{Exec}
use Rattle.r3_exec.specs.declared.turning.Turning.{Turning}
use Rattle.r3_exec.specs.declared.turning.Turning.TheVariants as turns

-- the run of the workflow, on its recorded steps, asks for it
pub record IsAsked (P : Language) (h : List Entry) (id : Text) (q : Request) : Type 0 where
  pub row : FlowRow
  pub there : flow_at h (length h) id ≡ Some row
  pub asks : flow_end P h id row ≡ Asks q

-- What is given, by the open snapshot and the answer of the outside, and the call that is made.
abbrev pub Comes : Language → List Entry → Text → (Option ℕ → Option Outcome → Given) → Option Request → Turning → Type 0
Comes P h id given call (turns.NotPending status) = ((snap : Option ℕ) (answer : Option Outcome) → given snap answer ≡ Answers (reply.NotPending status)) × (call ≡ None)
Comes P h id given call (turns.Unexpected n recorded asks) = ((snap : Option ℕ) (answer : Option Outcome) → given snap answer ≡ Answers (reply.Unexpects n recorded asks)) × (call ≡ None)
Comes P h id given call (turns.Waiting w) = ((snap : Option ℕ) (answer : Option Outcome) → given snap answer ≡ Answers (reply.Waiting w)) × (call ≡ None)
Comes P h id given call (turns.Enters e) = ((snap : Option ℕ) (answer : Option Outcome) → given snap answer ≡ Enters e (reply.Entry (length h + 1))) × (call ≡ None)
Comes P h id given call (turns.Commits q) = ((snap : Option ℕ) (answer : Option Outcome) → given snap answer ≡ txn_turn P h id snap q) × (call ≡ None) × (q.kind ≡ asking.Txn) × IsAsked P h id q
Comes P h id given call (turns.Calls q) = ((snap : Option ℕ) (answer : Option Outcome) → given snap answer ≡ outside_turn P h id q answer) × (call ≡ Some q)

-- a turn of this workflow makes this call
abbrev pub IsCalled : Language → State → Text → Request → Type 0
IsCalled P st id q = Comes P st.history id (turned P st.history id) (call_of_turn P st.history id) (turns.Calls q)

-- its turn asks for a transaction, and no snapshot is open
pub record IsFirst (P : Language) (st : State) (id : Text) (q : Request) : Type 0 where
  pub comes : Comes P st.history id (turned P st.history id) (call_of_turn P st.history id) (turns.Commits q)
  pub none : find bytes_cmp id st.begun ≡ None

-- the state once its snapshot is open
abbrev pub begun_at : Text → State → State
begun_at id st = record { history = st.history; begun = opened id (length st.history) st.begun }

-- its turn commits a transaction on the snapshot that is open
pub record IsTxn (P : Language) (st : State) (id : Text) (q : Request) (s : ℕ) : Type 0 where
  pub comes : Comes P st.history id (turned P st.history id) (call_of_turn P st.history id) (turns.Commits q)
  pub snap : find bytes_cmp id st.begun ≡ Some s

-- and this is the entry of the transaction
pub record IsTxnEntry (P : Language) (st : State) (id : Text) (e : Entry) : Type 0 where
  pub request : Request
  pub snap : ℕ
  pub txn : IsTxn P st id request snap
  pub made : e ≡ txn_entry st.history id request snap (run_on P st.history id snap request)

-- what a transaction comes to whose entry came to this
abbrev pub end_of : Placed → TurnEnd
end_of (placed.Number n) = ends.Entry n
end_of (placed.Full limit) = ends.Full limit
end_of (placed.Conflict j) = ends.Conflict j

abbrev pub history_after : List Entry → Entry → Placed → List Entry
history_after h e (placed.Number n) = h ++ e ∷ []
history_after h e (placed.Full limit) = h
history_after h e (placed.Conflict j) = h

-- a commit and a conflict close its snapshot
abbrev pub begun_after : Text → Placed → Begun → Begun
begun_after id (placed.Number n) begun = closed id begun
begun_after id (placed.Full limit) begun = begun
begun_after id (placed.Conflict j) begun = closed id begun

-- the answer of its call was recorded, or there was no room
pub record HasRecorded {D : Type 0} (P : Language) (told_size : D → Option ℕ) (told_image : D → Option (List ℕ)) (may_leave : D → List ℕ → Type 0) (desk : D) (exec : Exec) (st : State) (settled : ℕ) (id : Text) (outcome : Outcome) (end : TurnEnd) : Type 0 where
  pub entry : Entry
  pub entered : Entered
  pub come : HasCome P told_size told_image may_leave desk exec st settled (reply.Turn id) (Some outcome) entry (reply.Entry (length st.history + 1)) entered
  pub reply_is : turn_reply end ≡ reply_after (reply.Entry (length st.history + 1)) entered
