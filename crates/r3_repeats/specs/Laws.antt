-- One workflow ID, one reply: what holds of each event, and of calls on one store.
use Rattle.std.specs.Prelude.{◌≡◌, ℕ, ◌+◌, IsTrue, List, [], ◌∷◌, ◌++◌, length, slice_get, Option, Some, None}
use Rattle.r3_value.specs.declared.value.Val.{Val}
use Rattle.r3_value.specs.declared.value.Outcome.{Outcome}
use Rattle.r3_rows.specs.declared.rows.FlowRow.{FlowRow}
use Rattle.r3_entry.specs.declared.entry.Entry.{Entry}
use Rattle.sys_flow.specs.declared.command.Command.{Command}
use Rattle.r3_model.specs.Language.{Text, Language}
use Rattle.r3_model.specs.Event.{Event, Run, ShowStatus, Reply, EntryOf, Row}
use Rattle.r3_model.specs.Machine.{State, step}
use Rattle.r3_model.specs.Run.{Trail, next, run}
use Rattle.r3_model.specs.Made.{IsMade}
use Rattle.r3_model.specs.Script.{Line, Does}
use Rattle.r3_repeats.specs.Flows.{row_now, is_ended, IsSameFlow, IsFirstOf}
use Rattle.r3_repeats.specs.Starting.{id_of_start, is_start, is_named, call_of_start, tests_of_start, reply_unless, repeat_reply, IsStartOf}
use Rattle.r3_repeats.specs.Invocations.{Invocation, GoesByMachine, IsWhole, AreOnOneStore, Replied, Outlives}

-- ---- workflows stay

-- whatever events follow, a workflow that is there stays there, as the same
abbrev pub KeepsFlows : Type 0
KeepsFlows = (P : Language) (t : Trail) (evs : List Event) (id : Text) (row : FlowRow)
    → row_now t.state.history id ≡ Some row
    → (later : FlowRow) × (row_now (run P t evs).state.history id ≡ Some later) × IsSameFlow row later

-- and the entry that started it stays the first of its ID
abbrev pub KeepsFirst : Type 0
KeepsFirst = (P : Language) (t : Trail) (evs : List Event) (id : Text) (k : ℕ) (row : FlowRow)
    → IsFirstOf t.state.history id k row → IsFirstOf (run P t evs).state.history id k row

-- in what a program made each workflow has such an entry, whose number its row tells
abbrev pub EachHasFirst : Type 0
EachHasFirst = (P : Language) (h : List Entry) (id : Text) (row : FlowRow) → IsMade P h → row_now h id ≡ Some row
    → (k : ℕ) × (first : FlowRow) × IsFirstOf h id k first × IsSameFlow first row

-- ---- a start of an ID that is there

-- where no refusal stands before, it is answered by the repeat rule
abbrev pub TellsRepeats : Type 0
TellsRepeats = (P : Language) (st : State) (command : Command) (answers : List (Option Outcome)) (id : Text) (row : FlowRow) (call : Text × Val)
    → id_of_start st.history command ≡ Some id → call_of_start st.history command ≡ Some call → row_now st.history id ≡ Some row
    → (step P st (Run command) answers).reply ≡ reply_unless (tests_of_start P st.history command) (repeat_reply id row call.0)

-- the workflow of an accepted start is there, under its function, and its number is the one that was told
abbrev pub AcceptedStands : Type 0
AcceptedStands = (P : Language) (st : State) (command : Command) (answers : List (Option Outcome)) (number : ℕ) (id : Text)
    → IsTrue (is_start command) → (step P st (Run command) answers).reply ≡ EntryOf number id
    → (row : FlowRow) × (call : Text × Val) × (id_of_start st.history command ≡ Some id) × (call_of_start st.history command ≡ Some call)
    × (row_now (step P st (Run command) answers).state.history id ≡ Some row) × (row.started ≡ number) × (row.function ≡ call.0)

-- where the ID is new, it is of the next entry, which is the first of the ID, and has the arguments too
abbrev pub AcceptedIsFirst : Type 0
AcceptedIsFirst = (P : Language) (st : State) (command : Command) (answers : List (Option Outcome)) (number : ℕ) (id : Text)
    → IsTrue (is_start command) → row_now st.history id ≡ None → (step P st (Run command) answers).reply ≡ EntryOf number id
    → (row : FlowRow) × (entry : Entry) × ((step P st (Run command) answers).state.history ≡ st.history ++ entry ∷ []) × IsStartOf id entry.act
    × (number ≡ length st.history + 1) × (row_now (st.history ++ entry ∷ []) id ≡ Some row)
    × (call_of_start st.history command ≡ Some (row.function, row.args))

-- ---- repeats are accepted

-- a start of an ID that is there changes nothing, and asks nothing of the outside
abbrev pub AddsNothing : Type 0
AddsNothing = (P : Language) (st : State) (command : Command) (answers : List (Option Outcome)) (id : Text) (row : FlowRow)
    → id_of_start st.history command ≡ Some id → row_now st.history id ≡ Some row
    → ((step P st (Run command) answers).state ≡ st) × ((step P st (Run command) answers).calls ≡ [])

-- whatever events follow an accepted start that was given its ID, the same start is accepted, with the same reply
abbrev pub AcceptsAgain : Type 0
AcceptsAgain = (P : Language) (t : Trail) (command : Command) (evs : List Event) (number : ℕ) (id : Text)
    → IsTrue (is_named command) → (next P t (Run command)).last ≡ EntryOf number id
    → (next P (run P (next P t (Run command)) evs) (Run command)).last ≡ EntryOf number id

-- ---- calls on one store

-- a call that lost nothing has kept all that was acknowledged, whatever was said and asked
abbrev pub WholeGoes : Type 0
WholeGoes = (P : Language) (i : Invocation) → IsWhole P i → GoesByMachine P i

-- a line of one call and a line of the same or a later call, with their replies, where what the first did was not lost
pub record AreLines (P : Language) (first : List Entry) (calls : List Invocation) (line : Line) (reply : Reply) (line' : Line) (reply' : Reply) : Type 0 where
  pub on_store : AreOnOneStore P first calls
  pub a : ℕ
  pub b : ℕ
  pub k : ℕ
  pub l : ℕ
  pub early : Invocation
  pub late : Invocation
  pub early_is : slice_get calls a ≡ Some early
  pub late_is : slice_get calls b ≡ Some late
  pub replied : Replied P early k line reply
  pub replied' : Replied P late l line' reply'
  pub outlives : Outlives P early a k b l

-- one ID has one reply: each start, enqueue or fork of it that is accepted gets the same
abbrev pub RepeatsAreAlike : Type 0
RepeatsAreAlike = (P : Language) (first : List Entry) (calls : List Invocation) (one two : Command) (n m : ℕ) (id : Text)
    → IsTrue (is_start one) → IsTrue (is_start two)
    → AreLines P first calls (Does (Run one)) (EntryOf n id) (Does (Run two)) (EntryOf m id)
    → m ≡ n

-- a start that was given its ID and was accepted is accepted each time, with the same reply
abbrev pub AcceptedIsAccepted : Type 0
AcceptedIsAccepted = (P : Language) (first : List Entry) (calls : List Invocation) (command : Command) (n : ℕ) (id : Text) (reply : Reply)
    → IsTrue (is_named command)
    → AreLines P first calls (Does (Run command)) (EntryOf n id) (Does (Run command)) reply
    → reply ≡ EntryOf n id

-- its workflow is shown each time, with that number
abbrev pub AcceptedIsShown : Type 0
AcceptedIsShown = (P : Language) (first : List Entry) (calls : List Invocation) (command : Command) (n : ℕ) (id : Text) (reply : Reply)
    → IsTrue (is_start command)
    → AreLines P first calls (Does (Run command)) (EntryOf n id) (Does (ShowStatus id)) reply
    → (row : FlowRow) × (reply ≡ Row id row) × (row.started ≡ n)

-- a workflow that was shown to have ended is shown with the same result each time
abbrev pub ResultsAreAlike : Type 0
ResultsAreAlike = (P : Language) (first : List Entry) (calls : List Invocation) (id : Text) (row : FlowRow) (reply : Reply)
    → IsTrue (is_ended row.status)
    → AreLines P first calls (Does (ShowStatus id)) (Row id row) (Does (ShowStatus id)) reply
    → reply ≡ Row id row

-- two entries that start one workflow are one
abbrev pub StartsEachOnce : List Entry → Type 0
StartsEachOnce h = (id : Text) (i j : ℕ) (e f : Entry) → slice_get h i ≡ Some e → slice_get h j ≡ Some f
    → IsStartOf id e.act → IsStartOf id f.act → i ≡ j

-- no second start of a workflow is stored, whatever crashes
abbrev pub StoresOneStart : Type 0
StoresOneStart = (P : Language) (first : List Entry) (calls : List Invocation) (a : ℕ) (i : Invocation)
    → IsMade P first → AreOnOneStore P first calls → slice_get calls a ≡ Some i → StartsEachOnce i.left
