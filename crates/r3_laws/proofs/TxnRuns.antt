-- The runs of a program's transactions tell what stands in the map, and write their keys in order.
use Rattle.std.proofs.Common.{◌≡◌, ℕ, ◌+◌, Bool, true, false, List, [], ◌∷◌, ◌++◌, Option, Some, None, length, refl, arith}
use Rattle.std.specs.Prelude.{map, if◌then◌else◌, ◌&&◌, nat_lt, nat_eq, sum_by}
use Rattle.std.specs.List.{AllByRecursion}
use Rattle.std.specs.Str.{bytes_eq}
use Rattle.std.specs.FinMap.Entries.{is_sorted}
use Rattle.std.proofs.lemmas.List.Sums.{sum_by-cons}
use Rattle.r3_value.specs.declared.value.Val.{Val}
use Rattle.r3_rows.specs.declared.rows.Read.TheVariants as reads
use Rattle.r3_rows.specs.Keys.{key_cmp}
use Rattle.r3_entry.specs.Formed.{read_count}
use Rattle.fn_tree.specs.declared.look.Look.{Look}
use Rattle.fn_tree.specs.declared.look.Look.TheVariants as look
use Rattle.fn_tree.specs.declared.look.TxnRun.{TxnRun}
use Rattle.fn_tree.specs.declared.program.Item.{Item}
use Rattle.fn_tree.specs.declared.program.Item.TheVariants as item
use Rattle.fn_tree.specs.Values.{text_of, or_null}
use Rattle.fn_tree.specs.Sequences.{list_or_size}
use Rattle.fn_tree.specs.Expression.{Calls}
use Rattle.fn_tree.specs.Ends.{At, Ends, Goes, Returns, Failed, Asks, Stuck}
use Rattle.fn_tree.specs.Transaction.{Versions, Log, Never, Counted, written_at, with_write, contains_look, read_items, items_of_look, with_look, fits_key, fits_bound, with_text, pair_value, rows_under, rows_at, found, got_by, got, wrote, scanned, on_versions, txn_end, txn_begun, run_among}
use Rattle.fn_meaning.proofs.WorldLemmas.{Holds, Part, holds_if, taken_holds, EffectsKeep, body_holds}
use Rattle.r3_model.specs.Acts.{put_write, read_of}
use Rattle.r3_model.specs.Lawful.{IsLookAt}
use Rattle.r3_laws.proofs.WriteOrder.{with_write-rises}

-- ---- the looks and the writes so far

all-last : {X : Type 0} (A : X → Type 0) (xs : List X) (x : X) → AllByRecursion A xs → A x → AllByRecursion A (xs ++ x ∷ [])
all-last A [] x all a = (a, tt)
all-last A (y ∷ ys) x all a = (all.0, all-last A ys x all.1 a)

pub items-read : (ls : List Look) → sum_by read_count (map read_of ls) ≡ read_items ls
items-read [] = refl
items-read (look.At table key version ∷ ls) =
    omega (arith, items-read ls, sum_by-cons read_count (reads.At table key version) (map read_of ls))
items-read (look.Range table lo hi ks ∷ ls) =
    omega (arith, items-read ls, sum_by-cons read_count (reads.Range table lo hi ks) (map read_of ls))

-- what a body did so far tells what stands in the map, and rises
pub record IsTrueLog (base : Versions) (log : Log) : Type 0 where
  pub looks : AllByRecursion (IsLookAt base) log.looks
  pub rising : is_sorted key_cmp (map put_write log.writes) ≡ true

module _ (base : Versions) where
  abbrev I : Log → Type 0
  I log = IsTrueLog base log

  text-holds : {A : Type 0} (fits : List ℕ → Bool) (o : Option (List ℕ)) (at : At Log) (go : List ℕ → Ends Never Log A) → I at.world → ((t : List ℕ) → Holds I (go t)) → Holds I (with_text fits o at go)
  text-holds fits None at go i h = i
  text-holds fits (Some t) at go i h = holds_if I (fits t) _ _ (λ e. h t) (λ e. i)

  look-holds : {A : Type 0} (l : Look) (at : At Log) (go : At Log → Ends Never Log A) → IsLookAt base l → I at.world → Part I go → Holds I (with_look l at go)
  look-holds l at go true_look i h =
      holds_if I (contains_look at.world.looks l) _ _ (λ e. h at i)
      (λ e. holds_if I (nat_lt 4096 (read_items at.world.looks + items_of_look l)) _ _ (λ f. i)
      (λ f. h (record at { world = record { looks = at.world.looks ++ l ∷ []; writes = at.world.writes } })
      (record { looks = all-last (IsLookAt base) at.world.looks l i.looks true_look; rising = i.rising })))

  got_by-holds : (o : Option (Option Val)) (table key : List ℕ) → Part I (got_by base o table key)
  got_by-holds (Some left) table key at i = i
  got_by-holds None table key at i = look-holds _ at (Goes (or_null (base.cell table key))) refl i (λ at i. i)

  got-holds : (table : List ℕ) (k : Val) → Part I (got base table k)
  got-holds table k at i = text-holds fits_key (text_of k) at _ i (λ key. got_by-holds (written_at at.world.writes table key) table key at i)

  wrote-holds : (table : List ℕ) (left : Option Val) (k : Val) → Part I (wrote base table left k)
  wrote-holds table left k at i = text-holds fits_key (text_of k) at _ i (λ key.
      holds_if I (nat_lt 1024 (length (with_write at.world.writes table key left))) _ _ (λ f. i)
      (λ f. record { looks = i.looks; rising = with_write-rises at.world.writes table key left i.rising }))

  scanned-holds : (table : List ℕ) (lo hi : Val) → Part I (scanned base table lo hi)
  scanned-holds table lo hi at i =
      text-holds fits_bound (text_of lo) at _ i (λ from. text-holds fits_bound (text_of hi) at _ i (λ to.
      look-holds (found base table from to) at _ refl i (taken_holds Never I (list_or_size (map pair_value (rows_under at.world.writes table from to (rows_at base table from to)))))))

  versions-keep : EffectsKeep I (on_versions base)
  versions-keep = record {
    get = got-holds;
    scan = scanned-holds;
    put = λ table k v. wrote-holds table (Some v) k;
    delete = λ table k. wrote-holds table None k;
    call = λ name n args at i. tt;
    spawn = λ name n args at i. tt;
    await = λ id at i. tt;
  }

  abbrev pub RunTrue : TxnRun → Type 0
  RunTrue run = AllByRecursion (IsLookAt base) run.reads × (is_sorted key_cmp (map put_write run.writes) ≡ true)

  abbrev pub IfRun : Option (Counted TxnRun) → Type 0
  IfRun None = Unit {0}
  IfRun (Some r) = RunTrue r.run

  end-true : (d : Ends Never Log (Unit {0})) → Holds I d → IfRun (txn_end d)
  end-true (Goes a at) h = (h.looks, h.rising)
  end-true (Returns v at) h = (h.looks, h.rising)
  end-true (Failed word at) h = (h.looks, refl)
  end-true (Asks q at next) h = tt
  end-true Stuck h = tt

  by_true : (b : Bool) (x y : Option (Counted TxnRun)) → IfRun x → IfRun y → IfRun (if b then x else y)
  by_true true x y h g = h
  by_true false x y h g = g

  pub among-true : (calls : Calls) (rest : List Item) (name : List ℕ) (args : List Val) → IfRun (run_among base calls rest name args)
  among-true calls [] name args = tt
  among-true calls (item.Txn serial x params body ∷ rest) name args =
      by_true (bytes_eq x name && nat_eq (length params) (length args)) _ _
      (end-true (txn_begun base calls params body args) (body_holds I (on_versions base) calls versions-keep body _ (record { looks = tt; rising = refl }))) (among-true calls rest name args)
  among-true calls (item.Table x ∷ rest) name args = among-true calls rest name args
  among-true calls (item.Queue x n ∷ rest) name args = among-true calls rest name args
  among-true calls (item.Outside x params ∷ rest) name args = among-true calls rest name args
  among-true calls (item.Helper x params body ∷ rest) name args = among-true calls rest name args
  among-true calls (item.Flow x params body ∷ rest) name args = among-true calls rest name args
