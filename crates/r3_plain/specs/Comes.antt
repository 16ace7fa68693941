-- What an event comes to, with the call that it makes.
use Rattle.std.specs.Prelude.{◌≡◌, ℕ, ◌≤◌, List, length, Option, Some, None}
use Rattle.r3_value.specs.declared.value.Outcome.{Outcome}
use Rattle.r3_rows.specs.declared.rows.FlowRow.{FlowRow}
use Rattle.r3_entry.specs.declared.entry.Act.{Act}
use Rattle.r3_entry.specs.declared.entry.Act.TheVariants as acts
use Rattle.r3_entry.specs.declared.entry.Entry.{Entry}
use Rattle.fn_tree.specs.declared.flow.FlowEnd.TheVariants.{Asks}
use Rattle.fn_tree.specs.declared.flow.Request.{Request}
use Rattle.r3_model.specs.Event.{Call, Event}
use Rattle.r3_model.specs.Given as machine
use Rattle.r3_model.specs.Language.{Language, Text}
use Rattle.r3_model.specs.Machine.{State, Begun, calls_of, closed, given, snap_of}
use Rattle.r3_model.specs.Turns.{flow_end}
use Rattle.r3_plain.specs.declared.given.Turned.{Turned}
use Rattle.r3_plain.specs.Words as words

-- it comes to this, and makes these calls
pub record ComesTo (t : Turned) (g : machine.Given) (made : List Call) : Type 0 where
  pub given : words.given_of t.given ≡ g
  pub calls : words.calls_of t.call ≡ made

-- the event in this state, with its answer of the outside
abbrev pub Happens : Language → State → Event → Option Outcome → Turned → Type 0
Happens P st ev answer t = ComesTo t (given P st.history ev (snap_of st.begun ev) answer) (calls_of P st.history ev answer)

-- a workflow's function, run on its recorded steps, asks for it
pub record IsAsked (P : Language) (h : List Entry) (id : Text) (q : Request) : Type 0 where
  pub row : FlowRow
  pub asks : flow_end P h id row ≡ Asks q

-- a snapshot that is open lies within the history
abbrev pub IsWithin : List Entry → Option ℕ → Type 0
IsWithin h snap = (s : ℕ) → snap ≡ Some s → s ≤ length h

-- the open snapshots, once that of a workflow is closed
abbrev pub closed_by : Option Text → Begun → Begun
closed_by None begun = begun
closed_by (Some id) begun = closed id begun

-- the workflow whose snapshot an act closes
abbrev pub closing : Act → Option Text
closing (acts.Txn id n args) = Some id
closing (acts.Cancel id) = Some id
closing (acts.Recover id) = Some id
closing act = None
