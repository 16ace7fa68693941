-- What a transaction's body does on a map with versions.
use Rattle.fn_tree.specs.declared.look.Look.{Look}
use Rattle.fn_tree.specs.declared.look.TxnRun.{TxnRun}
use Rattle.fn_tree.specs.declared.program.Item.{Item}
use Rattle.fn_tree.specs.declared.stmt.Stmt.{Stmt}
use Rattle.r3_value.specs.declared.value.Outcome.TheVariants.{Value, Failure}
use Rattle.r3_value.specs.declared.value.Val.{Val}
use Rattle.r3_value.specs.declared.value.Val.TheVariants.{Null}
use Rattle.std.specs.Prelude.{ℕ, ◌&&◌, List, [], ◌∷◌, length, map, codes, Option, Some, None, nat_lt, nat_eq, if◌then◌else◌}
use Rattle.std.specs.Str.{bytes_eq}
use Rattle.fn_tree.specs.declared.look.Look.TheVariants as look
use Rattle.fn_tree.specs.declared.program.Item.TheVariants as item
use Rattle.fn_tree.specs.Values.{text_of, or_null}
use Rattle.fn_tree.specs.Sequences.{list_or_size}
use Rattle.fn_tree.specs.Evaluation.{Calls}
use Rattle.fn_tree.specs.Expression.{bound, calls_of}
use Rattle.fn_tree.specs.Ends.{At, Ends, Goes, Returns, Failed, Asks, Stuck, Effects}
use Rattle.fn_tree.specs.Control.{taken}
use Rattle.fn_tree.specs.Statement.{body_of}
pub use Rattle.fn_tree.specs.Writes.{Versions, Write, Log, Never, is_at, is_before, written_at, with_write, Row, row_left, rows_under, pair_value}
pub use Rattle.fn_tree.specs.Looks.{items_of_look, read_items, same_place, contains_look, with_look, fits_key, fits_bound, with_text}

module _ (base : Versions) where
  abbrev pub got_by : Option (Option Val) → List ℕ → List ℕ → At Log → Ends Never Log Val
  got_by (Some left) table key at = Goes (or_null left) at
  got_by None table key at = with_look (look.At table key (base.version table key)) at (Goes (or_null (base.cell table key)))

  -- what the body left at the key, else what the map has there, which is recorded
  abbrev pub got : List ℕ → Val → At Log → Ends Never Log Val
  got table k at = with_text fits_key (text_of k) at (λ key. got_by (written_at at.world.writes table key) table key at)

  -- at most 1,024 keys are written
  abbrev pub wrote : List ℕ → Option Val → Val → At Log → Ends Never Log (Unit {0})
  wrote table left k at = with_text fits_key (text_of k) at (λ key.
      let writes = with_write at.world.writes table key left in
      if nat_lt 1024 (length writes) then Failed (codes "size") at
      else Goes tt (record at { world = record { looks = at.world.looks; writes = writes } }))

  -- the present keys of a range with their versions, and their rows
  abbrev pub found : List ℕ → List ℕ → List ℕ → Look
  found table lo hi = look.Range table lo hi (map (λ k. (k, base.version table k)) (base.keys table lo hi))

  abbrev pub rows_at : List ℕ → List ℕ → List ℕ → List Row
  rows_at table lo hi = map (λ k. (k, or_null (base.cell table k))) (base.keys table lo hi)

  abbrev pub scanned : List ℕ → Val → Val → At Log → Ends Never Log Val
  scanned table lo hi at = with_text fits_bound (text_of lo) at (λ from. with_text fits_bound (text_of hi) at (λ to.
      with_look (found table from to) at
      (taken (list_or_size (map pair_value (rows_under at.world.writes table from to (rows_at table from to)))))))

  abbrev pub on_versions : Effects Never Log
  on_versions = record {
    get = got;
    scan = scanned;
    put = λ table k v. wrote table (Some v) k;
    delete = λ table k. wrote table None k;
    call = λ name n args at. Stuck;
    spawn = λ name n args at. Stuck;
    await = λ id at. Stuck;
  }

-- what a body gives, with the number of expression nodes evaluated
pub record Counted (A : Type 0) : Type 0 where
  pub run : A
  pub cost : ℕ

-- A failed body has no writes, and its looks stay.
abbrev pub txn_end : Ends Never Log (Unit {0}) → Option (Counted TxnRun)
txn_end (Goes a at) = Some (record { run = record { outcome = Value Null; reads = at.world.looks; writes = at.world.writes }; cost = at.cost })
txn_end (Returns v at) = Some (record { run = record { outcome = Value v; reads = at.world.looks; writes = at.world.writes }; cost = at.cost })
txn_end (Failed word at) = Some (record { run = record { outcome = Failure word; reads = at.world.looks; writes = [] }; cost = at.cost })
txn_end (Asks q at next) = None
txn_end Stuck = None

-- a transaction's body on its arguments, from 100,000 units
abbrev pub txn_begun : Versions → Calls → List (List ℕ) → List Stmt → List Val → Ends Never Log (Unit {0})
txn_begun base calls params body args =
    body_of (on_versions base) calls body (record { env = bound params args; world = record { looks = []; writes = [] }; units = 100000; cost = 0 })

abbrev pub txn_run : Versions → Calls → List (List ℕ) → List Stmt → List Val → Option (Counted TxnRun)
txn_run base calls params body args = txn_end (txn_begun base calls params body args)

abbrev pub run_among : Versions → Calls → List Item → List ℕ → List Val → Option (Counted TxnRun)
run_among base calls [] name args = None
run_among base calls (item.Txn serial x params body ∷ items) name args =
    if bytes_eq x name && nat_eq (length params) (length args) then txn_run base calls params body args else run_among base calls items name args
run_among base calls (i ∷ items) name args = run_among base calls items name args

-- The run of a program's transaction on a map with versions. There is none where no transaction has the name and that number
-- of parameters, and where the body is stuck, which no sound program's is.
abbrev pub txn_meaning : List Item → Versions → List ℕ → List Val → Option (Counted TxnRun)
txn_meaning items base name args = run_among base (calls_of items) items name args
