-- What the laws of the machine ask of a language.
use Rattle.std.specs.Prelude.{◌≡◌, ◌≢◌, ℕ, ◌≤◌, ◌<◌, IsTrue, List, [], ◌∷◌, ◌++◌, length, map, Some, ⊤, sum_by, true}
use Rattle.std.specs.List.{AllByRecursion}
use Rattle.std.specs.FinMap.Entries.{is_sorted}
use Rattle.r3_value.specs.declared.value.Val.{Val}
use Rattle.r3_value.specs.declared.value.Val.TheVariants as vals
use Rattle.r3_rows.specs.Keys.{key_cmp}
use Rattle.r3_entry.specs.Limits.{IsName, IsRowKey, IsArgs, IsVal, IsOutcome, IsAnyText, IsRead, IsNumber, IfThere}
use Rattle.r3_entry.specs.Formed.{read_count}
use Rattle.fn_tree.specs.declared.flow.Answer.{Answer}
use Rattle.fn_tree.specs.declared.flow.AskKind.{AskKind}
use Rattle.fn_tree.specs.declared.flow.AskKind.TheVariants as asking
use Rattle.fn_tree.specs.declared.flow.FlowEnd.{FlowEnd}
use Rattle.fn_tree.specs.declared.flow.FlowEnd.TheVariants.{Done, Asks, Unexpected}
use Rattle.fn_tree.specs.declared.flow.Request.{Request}
use Rattle.fn_tree.specs.declared.look.Look.{Look}
use Rattle.fn_tree.specs.declared.look.Look.TheVariants.{At, Range}
use Rattle.fn_tree.specs.declared.look.TxnRun.{TxnRun}
use Rattle.fn_tree.specs.Writes.{Versions, Write as Put}
use Rattle.r3_model.specs.Language.{Text, Language, Queue}
use Rattle.r3_model.specs.Acts.{put_write, read_of}

-- ---- the runs of workflows

-- a run that no further answer changes
abbrev pub IsOver : FlowEnd → Type 0
IsOver (Done o) = ⊤
IsOver (Asks q) = ⊥
IsOver (Unexpected n recorded asked) = ⊤

-- an await asks with an ID alone, which may be any text
abbrev pub HasArgs : AskKind → Val → Type 0
HasArgs asking.Await (vals.Text s) = IsAnyText s
HasArgs asking.Await v = ⊥
HasArgs k v = IsArgs v

-- how far a run comes on so many answers: it asks for the step after them
abbrev pub Counts : ℕ → FlowEnd → Type 0
Counts n (Done o) = ⊤
Counts n (Asks q) = (q.n ≡ n) × (n < 1000)
Counts n (Unexpected m recorded asked) = m < n

-- what a run ends in, or asks for, is within its limits
abbrev pub EndsWell : FlowEnd → Type 0
EndsWell (Done o) = IsOutcome o
EndsWell (Asks q) = IsName q.name × HasArgs q.kind q.args
EndsWell (Unexpected n recorded asked) = ⊤

abbrev pub AreAnswers : List Answer → Type 0
AreAnswers answers = AllByRecursion (λ a. IsOutcome a.outcome) answers

-- ---- the runs of transactions

-- what stands in the map is within the limits
pub record IsWithinLimits (m : Versions) : Type 0 where
  pub cells : (table key : Text) → IfThere IsVal (m.cell table key)
  pub versions : (table key : Text) → IsNumber (m.version table key)
  pub keys : (table lo hi : Text) → AllByRecursion IsRowKey (m.keys table lo hi)

-- a look tells what stands in the map
abbrev pub IsLookAt : Versions → Look → Type 0
IsLookAt m (At table key version) = version ≡ m.version table key
IsLookAt m (Range table lo hi found) = found ≡ map (λ k. (k, m.version table k)) (m.keys table lo hi)

abbrev pub IsPut : Put → Type 0
IsPut p = IsName p.0 × IsRowKey p.1 × IfThere IsVal p.2

-- what a body gives, whatever it is run on
pub record RunsTrue (m : Versions) (run : TxnRun) : Type 0 where
  pub looks : AllByRecursion (IsLookAt m) run.reads
  pub few_looks : sum_by read_count (map read_of run.reads) ≤ 4096
  pub few_puts : length run.writes ≤ 1024
  pub rising : IsTrue (is_sorted key_cmp (map put_write run.writes))

-- what it gives is within the limits
pub record RunsWell (run : TxnRun) : Type 0 where
  pub outcome : IsOutcome run.outcome
  pub looks : AllByRecursion IsRead (map read_of run.reads)
  pub puts : AllByRecursion IsPut run.writes

-- What the laws ask of a language. The language of a sound program has it.
pub record IsLawful (P : Language) : Type 0 where
  pub counts : (function : Text) (args : Val) (answers : List Answer)
      → Counts (length answers) (P.flow function args answers)
  -- a run that is over goes no further
  pub over : (function : Text) (args : Val) (answers more : List Answer)
      → IsOver (P.flow function args answers) → P.flow function args (answers ++ more) ≡ P.flow function args answers
  -- a run that asks goes on with an answer to just what it asked
  pub goes_on : (function : Text) (args : Val) (answers : List Answer) (a : Answer) (q : Request)
      → P.flow function args answers ≡ Asks q → a.name ≡ q.name
      → (n : ℕ) (recorded asked : Text) → P.flow function args (answers ++ a ∷ []) ≢ Unexpected n recorded asked
  pub looks_true : (name : Text) (args : Val) (m : Versions) → RunsTrue m (P.txn name args m)

-- What the limits of entries ask of it besides: within the limits it stays within the limits.
pub record IsLimited (P : Language) : Type 0 where
  -- what is declared has a name, and a workflow has few parameters
  pub table_names : (table : Text) → P.has_table table ≡ true → IsName table
  pub names : (function : Text) (n : ℕ) → P.arity function ≡ Some n → IsName function × (n ≤ 16)
  pub queue_names : AllByRecursion (λ (q : Queue). IsName q.name) P.queues
  pub ends : (function : Text) (args : Val) (answers : List Answer)
      → IsArgs args → AreAnswers answers → EndsWell (P.flow function args answers)
  pub runs : (name : Text) (args : Val) (m : Versions) → IsArgs args → IsWithinLimits m → RunsWell (P.txn name args m)
