-- The limits of what stands in an entry.
use Rattle.std.specs.Prelude.{ℕ, ◌≤◌, ◌<◌, ◌^◌, List, length, Option, Some, None, IsTrue, ⊤}
use Rattle.std.specs.List.{AllByRecursion}
use Rattle.std.specs.Str.{is_utf8}
use Rattle.std.specs.FinMap.Entries.{is_sorted}
use Rattle.r3_value.specs.declared.value.Val.{Val}
use Rattle.r3_value.specs.declared.value.Val.TheVariants.{List as ListOf}
use Rattle.r3_value.specs.declared.value.Outcome.{Outcome}
use Rattle.r3_value.specs.declared.value.Outcome.TheVariants.{Value, Failure}
use Rattle.r3_value.specs.Value.{IsValue}
use Rattle.r3_value.specs.View.{value_of}
use Rattle.r3_bytes.specs.Spelling.{count}
use Rattle.r3_rows.specs.declared.rows.Key.{Key}
use Rattle.r3_rows.specs.declared.rows.Key.TheVariants.{User, Flow, Step}
use Rattle.r3_rows.specs.declared.rows.FlowRow.{FlowRow}
use Rattle.r3_rows.specs.declared.rows.StepRow.{StepRow}
use Rattle.r3_rows.specs.declared.rows.Cell.{Cell}
use Rattle.r3_rows.specs.declared.rows.Cell.TheVariants as cells
use Rattle.r3_rows.specs.declared.rows.Read.{Read}
use Rattle.r3_rows.specs.declared.rows.Read.TheVariants.{At, Range}
use Rattle.r3_entry.specs.declared.entry.Act.{Act}
use Rattle.r3_entry.specs.declared.entry.Act.TheVariants as acts
use Rattle.r3_entry.specs.declared.entry.Entry.{Entry}
use Rattle.r3_rows.specs.Keys.{key_cmp}

-- a text of so many bytes
pub record IsSized (least most : ℕ) (s : List ℕ) : Type 0 where
  pub long : least ≤ length s
  pub short : length s ≤ most
  pub utf8 : IsTrue (is_utf8 s)

abbrev pub IsId : List ℕ → Type 0
IsId = IsSized 1 200

abbrev pub IsName : List ℕ → Type 0
IsName = IsSized 1 64

abbrev pub IsRowKey : List ℕ → Type 0
IsRowKey = IsSized 1 256

abbrev pub IsBound : List ℕ → Type 0
IsBound = IsSized 0 256

abbrev pub IsAnyText : List ℕ → Type 0
IsAnyText = IsSized 0 4091

abbrev pub IsNumber : ℕ → Type 0
IsNumber n = n < 2 ^ 32

abbrev pub IfThere : {X : Type 0} → (X → Type 0) → Option X → Type 0
IfThere Is None = ⊤
IfThere Is (Some x) = Is x

abbrev pub IsVal : Val → Type 0
IsVal v = IsValue (value_of v)

-- a list of at most 16 values
abbrev pub IsArgs : Val → Type 0
IsArgs (ListOf vs) = IsVal (ListOf vs) × (count vs ≤ 16)
IsArgs v = ⊥

abbrev pub IsOutcome : Outcome → Type 0
IsOutcome (Value v) = IsVal v
IsOutcome (Failure word) = IsAnyText word

abbrev pub IsKey : Key → Type 0
IsKey (User table key) = IsName table × IsRowKey key
IsKey (Flow id) = IsId id
IsKey (Step id n) = IsId id × (n < 1000)

pub record IsFlow (r : FlowRow) : Type 0 where
  pub function : IsName r.function
  pub args : IsArgs r.args
  pub outcome : IfThere IsOutcome r.outcome
  pub queue : IfThere IsName r.queue
  pub started : (1 ≤ r.started) × (r.started ≤ 1000000)
  pub attempts : r.attempts ≤ 51
  pub parent : IfThere IsId r.parent

pub record IsStep (r : StepRow) : Type 0 where
  pub name : IsName r.name
  pub outcome : IsOutcome r.outcome

abbrev pub IsCell : Cell → Type 0
IsCell (cells.Row v) = IsVal v
IsCell (cells.Flow r) = IsFlow r
IsCell (cells.Step r) = IsStep r

abbrev pub IsSeen : List ℕ × ℕ → Type 0
IsSeen p = IsRowKey p.0 × IsNumber p.1

-- so many of them that four bytes hold their number
abbrev pub AreSome : {X : Type 0} → (X → Type 0) → List X → Type 0
AreSome Is xs = IsNumber (length xs) × AllByRecursion Is xs

abbrev pub IsRead : Read → Type 0
IsRead (At table key version) = IsName table × IsRowKey key × IsNumber version
IsRead (Range table lo hi keys) = IsName table × IsBound lo × IsBound hi × (IsNumber (length keys) × AllByRecursion IsSeen keys)

abbrev pub IsStepAct : List ℕ → ℕ → Type 0
IsStepAct id n = IsId id × (n < 1000)

abbrev pub IsAct : Act → Type 0
IsAct (acts.Program text) = IsSized 0 1048576 text
IsAct acts.Load = ⊤
IsAct (acts.Start id) = IsId id
IsAct (acts.Enqueue id) = IsId id
IsAct (acts.Dequeue id) = IsId id
IsAct (acts.Txn id n args) = IsStepAct id n × IsArgs args
IsAct (acts.Outside id n args) = IsStepAct id n × IsArgs args
IsAct (acts.Child id n child) = IsStepAct id n × IsId child
IsAct (acts.Await id n on) = IsStepAct id n × IsAnyText on
IsAct (acts.Finish id) = IsId id
IsAct (acts.Cancel id) = IsId id
IsAct (acts.Resume id) = IsId id
IsAct (acts.Fork id from below) = IsId id × IsId from × (below ≤ 1000)
IsAct (acts.Recover id) = IsId id

abbrev pub IsWrite : Key × Option Cell → Type 0
IsWrite w = IsKey w.0 × IfThere IsCell w.1

pub record IsEntry (e : Entry) : Type 0 where
  pub act : IsAct e.act
  pub snap : IsNumber e.snap
  pub reads_fit : IsNumber (length e.reads)
  pub reads : AllByRecursion IsRead e.reads
  pub writes_fit : IsNumber (length e.writes)
  pub writes : AllByRecursion IsWrite e.writes
  -- the keys rise strictly
  pub rising : IsTrue (is_sorted key_cmp e.writes)
