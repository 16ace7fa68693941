-- Which histories are formed.
use Rattle.std.specs.Prelude.{◌≡◌, ℕ, ◌+◌, ◌≤◌, ◌^◌, Bool, true, false, List, [], ◌∷◌, ◌++◌, length, Option, Some, None, IsTrue, IsSome, count_by, sum_by, ⊤}
use Rattle.std.specs.List.{AllByRecursion}
use Rattle.r3_value.specs.declared.value.Outcome.{Outcome}
use Rattle.r3_value.specs.declared.value.Outcome.TheVariants.{Value, Failure}
use Rattle.r3_rows.specs.declared.rows.Key.{Key}
use Rattle.r3_rows.specs.declared.rows.Key.TheVariants.{User, Flow, Step}
use Rattle.r3_rows.specs.declared.rows.Status.{Status}
use Rattle.r3_rows.specs.declared.rows.Status.TheVariants.{Enqueued, Pending, Success, Error, Cancelled, MaxRecoveryAttemptsExceeded}
use Rattle.r3_rows.specs.declared.rows.Cell.{Cell}
use Rattle.r3_rows.specs.declared.rows.Cell.TheVariants as cells
use Rattle.r3_rows.specs.declared.rows.Read.{Read}
use Rattle.r3_rows.specs.declared.rows.Read.TheVariants.{At, Range}
use Rattle.r3_entry.specs.declared.entry.Act.{Act}
use Rattle.r3_entry.specs.declared.entry.Act.TheVariants as acts
use Rattle.r3_entry.specs.declared.entry.Entry.{Entry}
use Rattle.r3_entry.specs.History.{version_at, cell_at, range_at}
use Rattle.r3_entry.specs.Bytes.{entry, size}
use Rattle.r3_entry.specs.Limits.{IsEntry}

abbrev pub is_program : Act → Bool
is_program (acts.Program text) = true
is_program a = false

abbrev pub is_first : List Entry → Bool
is_first [] = true
is_first (e ∷ es) = false

-- entry 1 is a Program that reads and writes nothing, and no other entry is one
abbrev pub IsProgramFirst : List Entry → Entry → Type 0
IsProgramFirst [] e = IsTrue (is_program e.act) × (e.snap ≡ 0) × (e.reads ≡ []) × (e.writes ≡ [])
IsProgramFirst (x ∷ xs) e = is_program e.act ≡ false

-- a read item tells what stands at the snapshot
abbrev pub IsReadAt : List Entry → ℕ → Read → Type 0
IsReadAt h s (At table key version) = version ≡ version_at h s (User table key)
IsReadAt h s (Range table lo hi keys) = keys ≡ range_at h s table lo hi

-- each cell is of its key's kind, and only user rows are deleted
abbrev pub IsOfKind : Key × Option Cell → Type 0
IsOfKind (User table key, None) = ⊤
IsOfKind (User table key, Some (cells.Row v)) = ⊤
IsOfKind (Flow id, Some (cells.Flow r)) = ⊤
IsOfKind (Step id n, Some (cells.Step r)) = ⊤
IsOfKind w = ⊥

-- a step is written once, and its workflow is there
abbrev pub IsNewStep : List Entry → List Entry → Key × Option Cell → Type 0
IsNewStep old new (Step id n, c) = (version_at old (length old) (Step id n) ≡ 0) × IsSome (cell_at new (length new) (Flow id))
IsNewStep old new w = ⊤

abbrev pub HasOutcome : Status → Option Outcome → Type 0
HasOutcome Success (Some (Value v)) = ⊤
HasOutcome Error (Some (Failure word)) = ⊤
HasOutcome Enqueued None = ⊤
HasOutcome Pending None = ⊤
HasOutcome Cancelled None = ⊤
HasOutcome MaxRecoveryAttemptsExceeded None = ⊤
HasOutcome s o = ⊥

abbrev pub IsFlowRow : ℕ → Key × Option Cell → Type 0
IsFlowRow j (k, Some (cells.Flow r)) = HasOutcome r.status r.outcome × (r.status ≡ Enqueued → IsSome r.queue) × (r.started ≤ j)
IsFlowRow j w = ⊤

abbrev pub is_user : Key × Option Cell → Bool
is_user (User table key, c) = true
is_user w = false

-- a range counts 1, and 1 for each key in it
abbrev pub read_count : Read → ℕ
read_count (At table key version) = 1
read_count (Range table lo hi keys) = 1 + length keys

-- The transaction read a snapshot, and no entry since wrote a key that it writes (first committer wins).
pub record IsIsolated (h : List Entry) (e : Entry) : Type 0 where
  pub below : e.snap ≤ length h
  pub reads : AllByRecursion (IsReadAt h e.snap) e.reads
  pub unwritten : AllByRecursion (λ w. version_at h (length h) w.0 ≤ e.snap) e.writes

-- e may follow the entries h
pub record Follows (h : List Entry) (e : Entry) : Type 0 where
  pub program : IsProgramFirst h e
  pub isolated : IsIsolated h e
  pub kinds : AllByRecursion IsOfKind e.writes
  pub steps : AllByRecursion (IsNewStep h (h ++ e ∷ [])) e.writes
  pub flows : AllByRecursion (IsFlowRow (length h + 1)) e.writes
  pub few_rows : count_by is_user e.writes ≤ 1024
  pub few_reads : sum_by read_count e.reads ≤ 4096

abbrev pub FollowEachOther : List Entry → List Entry → Type 0
FollowEachOther h [] = ⊤
FollowEachOther h (e ∷ es) = Follows h e × FollowEachOther (h ++ e ∷ []) es

pub record IsFormed (h : List Entry) : Type 0 where
  pub entries : FollowEachOther [] h
  pub few : length h ≤ 1000000
  pub small : size h ≤ 2 ^ 30
  pub payloads : AllByRecursion (λ e. length (entry e) ≤ 2 ^ 23) h
  pub limits : AllByRecursion IsEntry h
