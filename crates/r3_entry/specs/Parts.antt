-- The parts of which entries are put together, in the order of their bytes.
use Rattle.std.specs.Prelude.{◌≡◌, ℕ, ◌<◌, List, [], ◌∷◌, Option, Result, Ok, Err, IsTrue, ⊤}
use Rattle.std.specs.FinMap.Entries.{is_sorted}
use Rattle.std.specs.declared.cmp.Ordering.TheVariants.{Less}
use Rattle.r3_value.specs.declared.value.Val.{Val}
use Rattle.r3_value.specs.declared.value.Outcome.{Outcome}
use Rattle.r3_bytes.specs.Spelling.{number, string}
use Rattle.r3_rows.specs.Keys.{key_cmp}
use Rattle.r3_rows.specs.declared.rows.Key.{Key}
use Rattle.r3_rows.specs.declared.rows.Cell.{Cell}
use Rattle.r3_rows.specs.declared.rows.Read.{Read}
use Rattle.r3_rows.specs.declared.rows.Status.{Status}
use Rattle.r3_rows.specs.declared.rows.StepKind.{StepKind}
use Rattle.r3_entry.specs.declared.entry.Act.{Act}
use Rattle.r3_entry.specs.declared.entry.Act.TheVariants as acts
use Rattle.r3_entry.specs.declared.fields.Miss.{Miss}
use Rattle.r3_entry.specs.declared.fields.Miss.TheVariants as miss
use Rattle.r3_entry.specs.Bytes as spell
use Rattle.r3_entry.specs.Limits.{IsId, IsName, IsRowKey, IsBound, IsNumber, IsArgs, IsOutcome, IfThere, IsSeen, IsAct, IsRead, IsWrite, AreSome}
use Rattle.r3_entry.specs.Parse.{both, Both, IsBetween}

abbrev pub IsAny : {X : Type 0} → X → Type 0
IsAny x = Unit {0}

-- ---- a flow row: what it was called with and what it ended with, and then the rest, field after field

abbrev pub call : List ℕ × Val → List ℕ
call = both string spell.val

abbrev pub IsCall : List ℕ × Val → Type 0
IsCall = Both IsName IsArgs

abbrev pub Called : Type 0
Called = (List ℕ × Val) × Option Outcome

abbrev pub called : Called → List ℕ
called = both call (spell.option spell.outcome)

abbrev pub IsCalled : Called → Type 0
IsCalled = Both IsCall (IfThere IsOutcome)

-- the queue, and the entry that made the row
abbrev pub Queued : Type 0
Queued = Option (List ℕ) × ℕ

abbrev pub queued : Queued → List ℕ
queued = both (spell.option string) number

abbrev pub IsQueued : Queued → Type 0
IsQueued = Both (IfThere IsName) (IsBetween 1 1000000)

abbrev pub tried : Queued × ℕ → List ℕ
tried = both queued number

abbrev pub IsTried : Queued × ℕ → Type 0
IsTried = Both IsQueued (IsBetween 0 51)

abbrev pub Descended : Type 0
Descended = (Queued × ℕ) × Option (List ℕ)

abbrev pub descended : Descended → List ℕ
descended = both tried (spell.option string)

abbrev pub IsDescended : Descended → Type 0
IsDescended = Both IsTried (IfThere IsId)

abbrev pub status : Status → List ℕ
status s = spell.status_code s ∷ []

-- ---- a step row

abbrev pub kind : StepKind → List ℕ
kind k = spell.kind_code k ∷ []

abbrev pub named : List ℕ × StepKind → List ℕ
named = both string kind

abbrev pub IsNamed : List ℕ × StepKind → Type 0
IsNamed = Both IsName IsAny

abbrev pub ended : (List ℕ × StepKind) × Outcome → List ℕ
ended = both named spell.outcome

abbrev pub IsEnded : (List ℕ × StepKind) × Outcome → Type 0
IsEnded = Both IsNamed IsOutcome

-- ---- read items

-- a key and its version
abbrev pub seen : List ℕ × ℕ → List ℕ
seen = both string number

-- a table and a key
abbrev pub place : List ℕ × List ℕ → List ℕ
place = both string string

abbrev pub IsPlace : List ℕ × List ℕ → Type 0
IsPlace = Both IsName IsRowKey

abbrev pub looked : (List ℕ × List ℕ) × ℕ → List ℕ
looked = both place number

abbrev pub IsLooked : (List ℕ × List ℕ) × ℕ → Type 0
IsLooked = Both IsPlace IsNumber

-- a table and the lower bound
abbrev pub IsFrom : List ℕ × List ℕ → Type 0
IsFrom = Both IsName IsBound

abbrev pub Bounds : Type 0
Bounds = (List ℕ × List ℕ) × List ℕ

abbrev pub bounds : Bounds → List ℕ
bounds = both place string

abbrev pub AreBounds : Bounds → Type 0
AreBounds = Both IsFrom IsBound

abbrev pub scanned : Bounds × List (List ℕ × ℕ) → List ℕ
scanned = both bounds (spell.list seen)

abbrev pub IsScanned : Bounds × List (List ℕ × ℕ) → Type 0
IsScanned = Both AreBounds (AreSome IsSeen)

-- ---- acts

abbrev pub IsStepNumber : ℕ → Type 0
IsStepNumber n = n < 1000

-- a workflow's ID and the number of its step
abbrev pub step : List ℕ × ℕ → List ℕ
step = both string number

abbrev pub IsStepOf : List ℕ × ℕ → Type 0
IsStepOf = Both IsId IsStepNumber

abbrev pub step_args : (List ℕ × ℕ) × Val → List ℕ
step_args = both step spell.val

abbrev pub AreStepArgs : (List ℕ × ℕ) × Val → Type 0
AreStepArgs = Both IsStepOf IsArgs

abbrev pub step_text : (List ℕ × ℕ) × List ℕ → List ℕ
step_text = both step string

abbrev pub IsForkOf : List ℕ × List ℕ → Type 0
IsForkOf = Both IsId IsId

abbrev pub forked : (List ℕ × List ℕ) × ℕ → List ℕ
forked = both place number

abbrev pub IsForked : (List ℕ × List ℕ) × ℕ → Type 0
IsForked = Both IsForkOf (IsBetween 0 1000)

-- an act with an ID and nothing else
abbrev pub IsOfId : Act → Type 0
IsOfId (acts.Start id) = IsId id
IsOfId (acts.Enqueue id) = IsId id
IsOfId (acts.Dequeue id) = IsId id
IsOfId (acts.Finish id) = IsId id
IsOfId (acts.Cancel id) = IsId id
IsOfId (acts.Resume id) = IsId id
IsOfId (acts.Recover id) = IsId id
IsOfId a = ⊥

-- ---- an entry

abbrev pub write : Key × Option Cell → List ℕ
write = both spell.key (spell.option spell.cell)

-- writes, whose keys rise
abbrev pub AreWrites : List (Key × Option Cell) → Type 0
AreWrites ws = AreSome IsWrite ws × IsTrue (is_sorted key_cmp ws)

abbrev pub IsBelowFirst : Key → List (Key × Option Cell) → Type 0
IsBelowFirst k [] = ⊤
IsBelowFirst k (w ∷ ws) = key_cmp k w.0 ≡ Less

-- the pairs as they are, where their keys rise
abbrev pub Ordered : List (Key × Option Cell) → Result (List (Key × Option Cell)) Miss → Type 0
Ordered pairs (Ok ws) = (ws ≡ pairs) × IsTrue (is_sorted key_cmp pairs)
Ordered pairs (Err miss.Absent) = ¬ (IsTrue (is_sorted key_cmp pairs))
Ordered pairs (Err miss.Memory) = ⊤

abbrev pub acted : Act × ℕ → List ℕ
acted = both spell.act number

abbrev pub IsActed : Act × ℕ → Type 0
IsActed = Both IsAct IsNumber

abbrev pub Looks : Type 0
Looks = (Act × ℕ) × List Read

abbrev pub looks : Looks → List ℕ
looks = both acted (spell.list spell.read)

abbrev pub AreLooks : Looks → Type 0
AreLooks = Both IsActed (AreSome IsRead)
