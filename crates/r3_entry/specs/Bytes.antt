-- How entries and histories are spelled.
use Rattle.std.specs.Prelude.{ℕ, ◌+◌, List, [], ◌∷◌, ◌++◌, length, Option, Some, None, codes}
use Rattle.std.specs.List.{flat_map}
use Rattle.r3_value.specs.declared.value.Val.{Val}
use Rattle.r3_value.specs.View.{value_of}
pub use Rattle.r3_bytes.specs.Spelling.{outcome}
use Rattle.r3_bytes.specs.Spelling.{number, string, value}
use Rattle.r3_rows.specs.declared.rows.Key.{Key}
use Rattle.r3_rows.specs.declared.rows.Key.TheVariants.{User, Flow, Step}
use Rattle.r3_rows.specs.declared.rows.Status.{Status}
use Rattle.r3_rows.specs.declared.rows.Status.TheVariants as status
use Rattle.r3_rows.specs.declared.rows.StepKind.{StepKind}
use Rattle.r3_rows.specs.declared.rows.StepKind.TheVariants as kinds
use Rattle.r3_rows.specs.declared.rows.FlowRow.{FlowRow}
use Rattle.r3_rows.specs.declared.rows.StepRow.{StepRow}
use Rattle.r3_rows.specs.declared.rows.Cell.{Cell}
use Rattle.r3_rows.specs.declared.rows.Cell.TheVariants as cells
use Rattle.r3_rows.specs.declared.rows.Read.{Read}
use Rattle.r3_rows.specs.declared.rows.Read.TheVariants.{At, Range}
use Rattle.r3_entry.specs.declared.entry.Act.{Act}
use Rattle.r3_entry.specs.declared.entry.Act.TheVariants as acts
use Rattle.r3_entry.specs.declared.entry.Entry.{Entry}

abbrev pub val : Val → List ℕ
val v = value (value_of v)

abbrev pub option : {X : Type 0} → (X → List ℕ) → Option X → List ℕ
option spell None = 0 ∷ []
option spell (Some x) = 1 ∷ spell x

abbrev pub list : {X : Type 0} → (X → List ℕ) → List X → List ℕ
list spell xs = number (length xs) ++ flat_map spell xs

abbrev pub status_code : Status → ℕ
status_code status.Enqueued = 0
status_code status.Pending = 1
status_code status.Success = 2
status_code status.Error = 3
status_code status.Cancelled = 4
status_code status.MaxRecoveryAttemptsExceeded = 5

abbrev pub kind_code : StepKind → ℕ
kind_code kinds.Txn = 0
kind_code kinds.Outside = 1
kind_code kinds.Child = 2
kind_code kinds.Await = 3

abbrev pub key : Key → List ℕ
key (User table k) = 0 ∷ (string table ++ string k)
key (Flow id) = 1 ∷ string id
key (Step id n) = 2 ∷ (string id ++ number n)

abbrev pub flow_row : FlowRow → List ℕ
flow_row r =
    status_code r.status ∷ (string r.function ++ val r.args ++ option outcome r.outcome ++ option string r.queue
    ++ number r.started ++ number r.attempts ++ option string r.parent)

abbrev pub step_row : StepRow → List ℕ
step_row r = string r.name ++ kind_code r.kind ∷ outcome r.outcome

abbrev pub cell : Cell → List ℕ
cell (cells.Row v) = 0 ∷ val v
cell (cells.Flow r) = 1 ∷ flow_row r
cell (cells.Step r) = 2 ∷ step_row r

abbrev pub read : Read → List ℕ
read (At table k version) = 0 ∷ (string table ++ string k ++ number version)
read (Range table lo hi keys) = 1 ∷ (string table ++ string lo ++ string hi ++ list (λ p. string p.0 ++ number p.1) keys)

abbrev pub act : Act → List ℕ
act (acts.Program text) = 1 ∷ string text
act acts.Load = 2 ∷ []
act (acts.Start id) = 3 ∷ string id
act (acts.Enqueue id) = 4 ∷ string id
act (acts.Dequeue id) = 5 ∷ string id
act (acts.Txn id n args) = 6 ∷ (string id ++ number n ++ val args)
act (acts.Outside id n args) = 7 ∷ (string id ++ number n ++ val args)
act (acts.Child id n child) = 8 ∷ (string id ++ number n ++ string child)
act (acts.Await id n on) = 9 ∷ (string id ++ number n ++ string on)
act (acts.Finish id) = 10 ∷ string id
act (acts.Cancel id) = 11 ∷ string id
act (acts.Resume id) = 12 ∷ string id
act (acts.Fork id from below) = 13 ∷ (string id ++ string from ++ number below)
act (acts.Recover id) = 14 ∷ string id

abbrev pub entry : Entry → List ℕ
entry e = act e.act ++ number e.snap ++ list read e.reads ++ list (λ w. key w.0 ++ option cell w.1) e.writes

abbrev pub magic : List ℕ
magic = codes "R3STORE1"

abbrev pub open_gate : ℕ
open_gate = 0xa5

-- an open gate, the length and the payload
abbrev pub record_of : Entry → List ℕ
record_of e = open_gate ∷ string (entry e)

abbrev pub records : List Entry → List ℕ
records h = flat_map record_of h

abbrev pub bytes : List Entry → List ℕ
bytes h = magic ++ records h ++ 0 ∷ []

abbrev pub record_sizes : List Entry → ℕ
record_sizes [] = 0
record_sizes (e ∷ es) = 5 + length (entry e) + record_sizes es

abbrev pub size : List Entry → ℕ
size h = 9 + record_sizes h
