-- What holds of each event.
use Rattle.std.specs.Prelude.{◌≡◌, ℕ, ◌≤◌, List, length, Option, Some, None, ⊤}
use Rattle.std.specs.List.{AllByRecursion}
use Rattle.r3_value.specs.declared.value.Outcome.{Outcome}
use Rattle.r3_entry.specs.declared.entry.Entry.{Entry}
use Rattle.sys_flow.specs.declared.command.Command.TheVariants.{Load}
use Rattle.r3_model.specs.Language.{Language}
use Rattle.r3_model.specs.Event.{Event, Run, Reply, Call}
use Rattle.r3_model.specs.Given.{Enters}
use Rattle.r3_model.specs.Rows.{step_at}
use Rattle.r3_model.specs.Machine.{State, step, given}
use Rattle.r3_model.specs.Made.{recorded}
use Rattle.r3_model.specs.Schedule.{event_of}
use Rattle.r3_model.specs.Lawful.{IsLawful}

-- a load has 1 to 1,024 rows
abbrev pub HasRows : Event → Type 0
HasRows (Run (Load table rows)) = (1 ≤ length rows) × (length rows ≤ 1024)
HasRows ev = ⊤

-- An entry tells its event: with the entry's snapshot and the outcome that it records, the event gives the entry again.
abbrev pub TellsItsEvent : Type 0
TellsItsEvent = (P : Language) (h : List Entry) (ev : Event) (snap : Option ℕ) (answer : Option Outcome) (e : Entry) (r : Reply)
    → HasRows ev → given P h ev snap answer ≡ Enters e r
    → given P h (event_of e) (Some e.snap) (recorded e e.act) ≡ Enters e r

-- no recorded step is asked of the outside again
abbrev pub AsksUnrecorded : Type 0
AsksUnrecorded = (P : Language) (st : State) (ev : Event) (answers : List (Option Outcome)) → IsLawful P
    → AllByRecursion (λ (c : Call). step_at st.history (length st.history) c.id c.n ≡ None) (step P st ev answers).calls
