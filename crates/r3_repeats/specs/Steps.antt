-- What calls leave of a store: a history that the program made, in which each step stands once.
use Rattle.std.specs.Prelude.{◌≡◌, ◌⊎◌, ℕ, ◌≤◌, ◌^◌, List, length, take, slice_get, Some, ⊤}
use Rattle.std.specs.List.{AllByRecursion}
use Rattle.r3_rows.specs.declared.rows.StepKind.TheVariants as kinds
use Rattle.r3_rows.specs.declared.rows.StepRow.{StepRow}
use Rattle.r3_entry.specs.declared.entry.Entry.{Entry}
use Rattle.r3_model.specs.Acts.{step_write}
use Rattle.r3_model.specs.Event.{Append, Reply, Unexpects}
use Rattle.r3_model.specs.Language.{Text, Language}
use Rattle.r3_model.specs.Lawful.{IsLawful}
use Rattle.r3_model.specs.Made.{IsMade}
use Rattle.r3_model.specs.Script.{Line, Does}
use Rattle.r3_laws.specs.OfEvents.{HasRows}
use Rattle.r3_laws.specs.OfHistories.{WritesStepsOnce, Commits, Copies}
use Rattle.r3_repeats.specs.Invocations.{Invocation, told_in, AreOnOneStore}

-- ---- what the calls were given

-- as a line of a script is read: none appends a program, and a load has 1 to 1,024 rows
abbrev pub IsOfScript : Line → Type 0
IsOfScript (Does (Append text)) = ⊥
IsOfScript (Does ev) = HasRows ev
IsOfScript line = ⊤

-- a function file within its limit, and lines as they are read
pub record KeepsLimits (i : Invocation) : Type 0 where
  pub text : length i.text ≤ 2 ^ 20
  pub lines : AllByRecursion IsOfScript i.lines

-- one of the calls on a store whose first history was made: so on any that began empty
pub record IsOneOnStore (P : Language) (i : Invocation) : Type 0 where
  pub first : List Entry
  pub made : IsMade P first
  pub calls : List Invocation
  pub on_store : AreOnOneStore P first calls
  pub limits : AllByRecursion KeepsLimits calls
  pub place : ℕ
  pub is : slice_get calls place ≡ Some i

-- ---- what they leave

-- each step was written once, and one of a transaction with its body's writes, or it was copied by a fork
pub record HasStepsOnce (P : Language) (h : List Entry) : Type 0 where
  pub once : WritesStepsOnce h
  pub with_writes : (k j : ℕ) (e : Entry) (id : Text) (n : ℕ) (r : StepRow)
      → slice_get h k ≡ Some e → slice_get e.writes j ≡ Some (step_write id n r) → r.kind ≡ kinds.Txn
      → Commits P (take k h) e id n r ⊎ Copies (take k h) e id n r

-- what a call leaves was made, whatever crashes
abbrev pub LeavesMade : Type 0
LeavesMade = (P : Language) (i : Invocation) → IsOneOnStore P i → IsMade P i.left

-- so no step is ever stored twice
abbrev pub StoresStepsOnce : Type 0
StoresStepsOnce = (P : Language) (i : Invocation) → IsLawful P → IsOneOnStore P i → HasStepsOnce P i.left

-- ---- what they answer

-- it tells of no turn that its workflow's function went another way than its recorded steps
abbrev pub IsExpected : Reply → Type 0
IsExpected (Unexpects n recorded asked) = ⊥
IsExpected r = ⊤

-- nothing in a call is answered so: no line, and no turn of a drain
abbrev pub ExpectsEachTurn : Type 0
ExpectsEachTurn = (P : Language) (i : Invocation) → IsLawful P → IsOneOnStore P i
    → AllByRecursion IsExpected (told_in P i).said × AllByRecursion IsExpected (told_in P i).trail.replies
