-- What every event keeps of a state.
use Rattle.std.specs.Prelude.{◌≡◌, ℕ, ◌+◌, ◌≤◌, ◌^◌, List, [], ◌∷◌, length, Option, Some, None, sum_by}
use Rattle.std.specs.List.{AllByRecursion}
use Rattle.r3_value.specs.declared.value.Outcome.{Outcome}
use Rattle.r3_rows.specs.declared.rows.Key.{Key}
use Rattle.r3_rows.specs.declared.rows.Cell.{Cell}
use Rattle.r3_rows.specs.declared.rows.Cell.TheVariants as cells
use Rattle.r3_entry.specs.declared.entry.Entry.{Entry}
use Rattle.r3_entry.specs.Bytes.{entry}
use Rattle.r3_entry.specs.Formed.{IsFormed, Follows, read_count}
use Rattle.r3_entry.specs.Limits.{IsEntry, IsOutcome, IfThere}
use Rattle.r3_model.specs.Language.{Text, Language}
use Rattle.r3_model.specs.Event.{Event, Append, Reply}
use Rattle.r3_model.specs.Given.{Enters}
use Rattle.r3_model.specs.Machine.{State, step, given, snap_of}
use Rattle.r3_model.specs.Run.{empty}
use Rattle.r3_model.specs.Valid.{AreOpen, IsValid}
use Rattle.r3_model.specs.Fits.{Fits}
use Rattle.r3_model.specs.Lawful.{IsLawful, IsLimited}

-- every event keeps the open snapshots those of workflows that wait for their transactions
abbrev pub KeepsOpen : Type 0
KeepsOpen = (P : Language) (st : State) (ev : Event) (answers : List (Option Outcome))
    → AreOpen P st → AreOpen P (step P st ev answers).state

-- the entry of an event that fits may follow a formed history
abbrev pub EntersWhatFollows : Type 0
EntersWhatFollows = (P : Language) (st : State) (ev : Event) (answer : Option Outcome) (e : Entry) (r : Reply)
    → IsLawful P → IsFormed st.history → AreOpen P st → Fits st.history ev
    → given P st.history ev (snap_of st.begun ev) answer ≡ Enters e r → Follows st.history e

-- the rows of workflows, which are longer than all other cells
abbrev pub flows_in : List (Key × Option Cell) → ℕ
flows_in [] = 0
flows_in ((k, Some (cells.Flow r)) ∷ ws) = 1 + flows_in ws
flows_in ((k, Some (cells.Row v)) ∷ ws) = flows_in ws
flows_in ((k, Some (cells.Step r)) ∷ ws) = flows_in ws
flows_in ((k, None) ∷ ws) = flows_in ws

-- few looks and writes, and one workflow's row at most
pub record IsLight (e : Entry) : Type 0 where
  pub few_reads : sum_by read_count e.reads ≤ 4096
  pub few_writes : length e.writes ≤ 1025
  pub few_flows : flows_in e.writes ≤ 1

-- the entry of an event that fits is light
abbrev pub EntersLight : Type 0
EntersLight = (P : Language) (st : State) (ev : Event) (answer : Option Outcome) (e : Entry) (r : Reply)
    → IsLawful P → Fits st.history ev → given P st.history ev (snap_of st.begun ev) answer ≡ Enters e r → IsLight e

-- so within the limits of entries its payload has room
abbrev pub LightFits : Type 0
LightFits = (e : Entry) → IsEntry e → IsLight e → length (entry e) ≤ 2 ^ 23

-- where there is room it is within the limits of entries, and so is its payload
abbrev pub EntersWithinLimits : Type 0
EntersWithinLimits = (P : Language) (st : State) (ev : Event) (answer : Option Outcome) (e : Entry) (r : Reply)
    → IsLawful P → IsLimited P → IsFormed st.history → AreOpen P st → Fits st.history ev → IfThere IsOutcome answer
    → length st.history + 1 ≤ 1000000 → given P st.history ev (snap_of st.begun ev) answer ≡ Enters e r
    → IsEntry e × (length (entry e) ≤ 2 ^ 23)

-- every event that fits keeps a state valid, whatever the outside answers within the limits
abbrev pub KeepsValid : Type 0
KeepsValid = (P : Language) (st : State) (ev : Event) (answers : List (Option Outcome))
    → IsLawful P → IsLimited P → IsValid P st → Fits st.history ev → AllByRecursion (IfThere IsOutcome) answers
    → IsValid P (step P st ev answers).state

-- and the first program makes the empty state valid
abbrev pub BeginsValid : Type 0
BeginsValid = (P : Language) (text : Text) → IsLawful P → IsLimited P → Fits [] (Append text)
    → IsValid P (step P empty (Append text) []).state
