-- How many bytes an entry has.
use Rattle.std.proofs.Common.{◌≡◌, ℕ, ◌+◌, ◌*◌, ◌≤◌, ◌<◌, ◌^◌, List, [], ◌∷◌, ◌++◌, length, Option, Some, None, refl, arith, length-append}
use Rattle.std.specs.Prelude.{sum_by}
use Rattle.std.specs.List.{flat_map, AllByRecursion}
use Rattle.std.proofs.lemmas.List.Sums.{sum_by-cons}
use Rattle.r3_value.specs.Value.{Value, null, boolean, integer, text, list as ListOf, Items, no_items, item, weight, weights}
use Rattle.r3_value.specs.View.{value_of}
use Rattle.r3_value.specs.declared.value.Val.{Val}
use Rattle.r3_value.specs.declared.value.Val.TheVariants as vals
use Rattle.r3_value.specs.declared.value.Outcome.{Outcome}
use Rattle.r3_value.specs.declared.value.Outcome.TheVariants as outcomes
use Rattle.r3_bytes.specs.Spelling as spell
use Rattle.r3_bytes.specs.Spelling.{number, string}
use Rattle.r3_rows.specs.declared.rows.Key.{Key}
use Rattle.r3_rows.specs.declared.rows.Key.TheVariants as keys
use Rattle.r3_rows.specs.declared.rows.Cell.{Cell}
use Rattle.r3_rows.specs.declared.rows.Cell.TheVariants as cells
use Rattle.r3_rows.specs.declared.rows.FlowRow.{FlowRow}
use Rattle.r3_rows.specs.declared.rows.StepRow.{StepRow}
use Rattle.r3_rows.specs.declared.rows.Read.{Read}
use Rattle.r3_rows.specs.declared.rows.Read.TheVariants.{At, Range}
use Rattle.r3_entry.specs.declared.entry.Act.{Act}
use Rattle.r3_entry.specs.declared.entry.Act.TheVariants as acts
use Rattle.r3_entry.specs.declared.entry.Entry.{Entry}
use Rattle.r3_entry.specs.Bytes.{val, outcome, option, kind_code, key, flow_row, step_row, cell, read, act, entry}
use Rattle.r3_laws.specs.OfStates.{flows_in}
use Rattle.r3_entry.specs.Formed.{read_count}
use Rattle.r3_entry.specs.Limits.{IsOutcome, IsKey, IsFlow, IsStep, IsSeen, IsRead, IsAct, IsArgs, IsWrite, IsEntry, IfThere, IsId, IsName, IsVal}

-- ---- values

mutual
  value-long : (v : Value) → length (spell.value v) ≡ weight v
  value-long null = refl
  value-long (boolean b) = refl
  value-long (integer z) = refl
  value-long (text s) = omega (arith, length-append (number (length s)) s)
  value-long (ListOf vs) = omega (arith, length-append (number (spell.count vs)) (spell.items vs), items-long vs)

  items-long : (vs : Items) → length (spell.items vs) ≡ weights vs
  items-long no_items = refl
  items-long (item v vs) = omega (arith, length-append (spell.value v) (spell.items vs), value-long v, items-long vs)

-- a value has at most 4,096 bytes
pub val-few : (v : Val) → IsVal v → length (val v) ≤ 4096
val-few v is = omega (arith, value-long (value_of v), is.small)

pub string-long : (s : List ℕ) → length (string s) ≡ 4 + length s
string-long s = omega (arith, length-append (number (length s)) s)

pub outcome-few : (o : Outcome) → IsOutcome o → length (outcome o) ≤ 4097
outcome-few (outcomes.Value v) is = omega (arith, val-few v is)
outcome-few (outcomes.Failure word) is = omega (arith, string-long word, is.short)

args-few : (v : Val) → IsArgs v → length (val v) ≤ 4096
args-few (vals.List vs) is = val-few (vals.List vs) is.0
args-few vals.Null is = absurd is
args-few (vals.Bool b) is = absurd is
args-few (vals.Int z) is = absurd is
args-few (vals.Text s) is = absurd is

-- ---- cells

user-few : (v : Val) → IsVal v → length (cell (cells.Row v)) ≤ 4097
user-few v is = omega (arith, val-few v is)

step-few : (r : StepRow) → IsStep r → length (step_row r) ≤ 4166
step-few r is =
    omega (arith, length-append (string r.name) (kind_code r.kind ∷ outcome r.outcome), string-long r.name, is.name.short, outcome-few r.outcome is.outcome)

option-few : {X : Type 0} (spell : X → List ℕ) (Is : X → Type 0) (n : ℕ) → ((x : X) → Is x → length (spell x) ≤ n) → (o : Option X) → IfThere Is o → length (option spell o) ≤ 1 + n
option-few spell Is n few None is = omega arith
option-few spell Is n few (Some x) is = omega (arith, few x is)

name-few : (s : List ℕ) → IsName s → length (string s) ≤ 68
name-few s is = omega (arith, string-long s, is.short)

id-few : (s : List ℕ) → IsId s → length (string s) ≤ 204
id-few s is = omega (arith, string-long s, is.short)

flow-few : (r : FlowRow) → IsFlow r → length (flow_row r) ≤ 8545
flow-few r is =
    let called : List ℕ = string r.function ++ val r.args in
    let ended : List ℕ = called ++ option outcome r.outcome in
    let queued : List ℕ = ended ++ option string r.queue in
    let started : List ℕ = queued ++ number r.started in
    let tried : List ℕ = started ++ number r.attempts in
    omega (
      arith,
      length-append (string r.function) (val r.args),
      length-append called (option outcome r.outcome),
      length-append ended (option string r.queue),
      length-append queued (number r.started),
      length-append started (number r.attempts),
      length-append tried (option string r.parent),
      name-few r.function is.function,
      args-few r.args is.args,
      option-few outcome IsOutcome 4097 outcome-few r.outcome is.outcome,
      option-few string IsName 68 name-few r.queue is.queue,
      option-few string IsId 204 id-few r.parent is.parent,
    )

-- ---- writes

abbrev write : Key × Option Cell → List ℕ
write w = key w.0 ++ option cell w.1

key-few : (k : Key) → IsKey k → length (key k) ≤ 329
key-few (keys.User table k) is = omega (arith, length-append (string table) (string k), string-long table, string-long k, is.0.short, is.1.short)
key-few (keys.Flow id) is = omega (arith, id-few id is)
key-few (keys.Step id n) is = omega (arith, length-append (string id) (number n), id-few id is.0)

writes-few : (ws : List (Key × Option Cell)) → AllByRecursion IsWrite ws → length (flat_map write ws) ≤ 4497 * length ws + 4379 * flows_in ws
writes-few [] all = omega arith
writes-few ((k, None) ∷ ws) all =
    omega (arith, length-append (write (k, None)) (flat_map write ws), length-append (key k) (option cell None), key-few k all.0.0, writes-few ws all.1)
writes-few ((k, Some (cells.Row v)) ∷ ws) all =
    omega (arith, length-append (write (k, Some (cells.Row v))) (flat_map write ws), length-append (key k) (option cell (Some (cells.Row v))), key-few k all.0.0, user-few v all.0.1, writes-few ws all.1)
writes-few ((k, Some (cells.Step r)) ∷ ws) all =
    omega (arith, length-append (write (k, Some (cells.Step r))) (flat_map write ws), length-append (key k) (option cell (Some (cells.Step r))), key-few k all.0.0, step-few r all.0.1, writes-few ws all.1)
writes-few ((k, Some (cells.Flow r)) ∷ ws) all =
    omega (arith, length-append (write (k, Some (cells.Flow r))) (flat_map write ws), length-append (key k) (option cell (Some (cells.Flow r))), key-few k all.0.0, flow-few r all.0.1, writes-few ws all.1)

-- ---- reads

seens-few : (ps : List (List ℕ × ℕ)) → AllByRecursion IsSeen ps → length (flat_map (λ (p : List ℕ × ℕ). string p.0 ++ number p.1) ps) ≤ 264 * length ps
seens-few [] all = omega arith
seens-few (p ∷ ps) all =
    omega (
      arith,
      length-append (string p.0 ++ number p.1) (flat_map (λ (p : List ℕ × ℕ). string p.0 ++ number p.1) ps),
      length-append (string p.0) (number p.1),
      string-long p.0,
      all.0.0.short,
      seens-few ps all.1,
    )

read-few : (r : Read) → IsRead r → length (read r) ≤ 597 * read_count r
read-few (At table k version) is =
    omega (arith, length-append (string table ++ string k) (number version), length-append (string table) (string k), string-long table, string-long k, is.0.short, is.1.short)
read-few (Range table lo hi ks) is =
    let found : List ℕ = flat_map (λ (p : List ℕ × ℕ). string p.0 ++ number p.1) ks in
    omega (
      arith,
      length-append (string table ++ string lo ++ string hi) (number (length ks) ++ found),
      length-append (string table ++ string lo) (string hi),
      length-append (string table) (string lo),
      length-append (number (length ks)) found,
      string-long table,
      string-long lo,
      string-long hi,
      is.0.short,
      is.1.short,
      is.2.short,
      seens-few ks is.3.1,
    )

reads-few : (rs : List Read) → AllByRecursion IsRead rs → length (flat_map read rs) ≤ 597 * sum_by read_count rs
reads-few [] all = omega arith
reads-few (r ∷ rs) all = omega (arith, length-append (read r) (flat_map read rs), sum_by-cons read_count r rs, read-few r all.0, reads-few rs all.1)

reads-count : (rs : List Read) → length rs ≤ sum_by read_count rs
reads-count [] = omega arith
reads-count (At table k version ∷ rs) = omega (arith, sum_by-cons read_count (At table k version) rs, reads-count rs)
reads-count (Range table lo hi ks ∷ rs) = omega (arith, sum_by-cons read_count (Range table lo hi ks) rs, reads-count rs)

pub reads-number : (rs : List Read) → sum_by read_count rs ≤ 4096 → length rs < 2 ^ 32
reads-number rs few = omega (arith, reads-count rs, few)

-- ---- acts

step-act-few : (id more : List ℕ) (n k : ℕ) → IsId id → length more ≤ k → length (string id ++ number n ++ more) ≤ 208 + k
step-act-few id more n k is few = omega (arith, length-append (string id ++ number n) more, length-append (string id) (number n), id-few id is, few)

act-few : (a : Act) → IsAct a → length (act a) ≤ 1048581
act-few (acts.Program s) is = omega (arith, string-long s, is.short)
act-few acts.Load is = omega arith
act-few (acts.Start id) is = omega (arith, id-few id is)
act-few (acts.Enqueue id) is = omega (arith, id-few id is)
act-few (acts.Dequeue id) is = omega (arith, id-few id is)
act-few (acts.Txn id n args) is = omega (arith, step-act-few id (val args) n 4096 is.0.0 (args-few args is.1))
act-few (acts.Outside id n args) is = omega (arith, step-act-few id (val args) n 4096 is.0.0 (args-few args is.1))
act-few (acts.Child id n child) is = omega (arith, step-act-few id (string child) n 204 is.0.0 (id-few child is.1))
act-few (acts.Await id n on) is = omega (arith, step-act-few id (string on) n 4095 is.0.0 (omega (arith, string-long on, is.1.short)))
act-few (acts.Finish id) is = omega (arith, id-few id is)
act-few (acts.Cancel id) is = omega (arith, id-few id is)
act-few (acts.Resume id) is = omega (arith, id-few id is)
act-few (acts.Fork id from below) is =
    omega (arith, length-append (string id ++ string from) (number below), length-append (string id) (string from), id-few id is.0, id-few from is.1)
act-few (acts.Recover id) is = omega (arith, id-few id is)

-- ---- the payload

pub payload-few : (e : Entry) → IsEntry e → sum_by read_count e.reads ≤ 4096 → length e.writes ≤ 1025 → flows_in e.writes ≤ 1 → length (entry e) ≤ 2 ^ 23
payload-few e is few_reads few_writes few_flows =
    let writes : List ℕ = flat_map write e.writes in
    let written : List ℕ = number (length e.writes) ++ writes in
    let reads : List ℕ = flat_map read e.reads in
    let looked : List ℕ = number (length e.reads) ++ reads in
    omega (
      arith,
      length-append (act e.act ++ number e.snap ++ looked) written,
      length-append (act e.act ++ number e.snap) looked,
      length-append (act e.act) (number e.snap),
      length-append (number (length e.reads)) reads,
      length-append (number (length e.writes)) writes,
      act-few e.act is.act,
      reads-few e.reads is.reads,
      writes-few e.writes is.writes,
      few_reads,
      few_writes,
      few_flows,
    )
