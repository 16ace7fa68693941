-- A transaction's looks and writes are within their limits.
use Rattle.std.proofs.Common.{◌≡◌, subst, ℕ, ◌+◌, ◌≤◌, Bool, true, false, List, [], ◌∷◌, ◌++◌, Option, Some, None, length, arith}
use Rattle.std.specs.Prelude.{map, if◌then◌else◌, ◌&&◌, nat_lt, nat_eq}
use Rattle.std.specs.Str.{bytes_eq}
use Rattle.std.proofs.lemmas.Bool.{ltb-false}
use Rattle.r3_value.specs.declared.value.Val.{Val}
use Rattle.fn_tree.specs.declared.look.Look.{Look}
use Rattle.fn_tree.specs.declared.look.TxnRun.{TxnRun}
use Rattle.fn_tree.specs.declared.program.Item.{Item}
use Rattle.fn_tree.specs.declared.program.Item.TheVariants as item
use Rattle.fn_tree.specs.Values.{text_of, or_null}
use Rattle.fn_tree.specs.Sequences.{list_or_size}
use Rattle.fn_tree.specs.Expression.{Calls, calls_of}
use Rattle.fn_tree.specs.Statement.{At, Ends, Goes, Returns, Failed, Asks, Stuck}
use Rattle.fn_tree.specs.Transaction.{Versions, Log, Never, Counted, Write, is_at, is_before, written_at, with_write, contains_look, read_items, items_of_look, with_look, fits_key, fits_bound, with_text, pair_value, rows_under, rows_at, found, got_by, got, wrote, scanned, on_versions, txn_end, txn_begun, run_among}
use Rattle.fn_tree.specs.Limits.{KeysFit, IsWithin, RunsWithin}
use Rattle.fn_meaning.proofs.WorldLemmas.{Holds, Part, holds_if, taken_holds, EffectsKeep, body_holds}

abbrev Within : Log → Type 0
Within log = IsWithin log.looks log.writes

not_more : (a b : ℕ) → nat_lt a b ≡ false → b ≤ a
not_more a b e = ltb-false a b e

items_last : (ls : List Look) (l : Look) → read_items (ls ++ l ∷ []) ≡ read_items ls + items_of_look l
items_last [] l = omega arith
items_last (m ∷ ls) l = omega (arith, items_last ls l)

keys_by : (b : Bool) (xs ys : List Write) → KeysFit xs → KeysFit ys → KeysFit (if b then xs else ys)
keys_by true xs ys h g = h
keys_by false xs ys h g = g

keys_fit : (ws : List Write) (table key : List ℕ) (left : Option Val) → fits_key key ≡ true → KeysFit ws → KeysFit (with_write ws table key left)
keys_fit [] table key left fits h = (fits, tt)
keys_fit (w ∷ ws) table key left fits h =
    keys_by (is_at table key w) _ _ (fits, h.1) (keys_by (is_before table key w) _ _ (fits, h) (h.0, keys_fit ws table key left fits h.1))

with_text_holds : {A : Type 0} (fits : List ℕ → Bool) (o : Option (List ℕ)) (at : At Log) (go : List ℕ → Ends Never Log A) → Within at.world → ((t : List ℕ) → fits t ≡ true → Holds Within (go t)) → Holds Within (with_text fits o at go)
with_text_holds fits None at go i h = i
with_text_holds fits (Some t) at go i h = holds_if Within (fits t) _ _ (λ e. h t e) (λ e. i)

with_look_holds : {A : Type 0} (l : Look) (at : At Log) (go : At Log → Ends Never Log A) → Within at.world → Part Within go → Holds Within (with_look l at go)
with_look_holds l at go i h =
    holds_if Within (contains_look at.world.looks l) _ _ (λ e. h at i)
    (λ e. holds_if Within (nat_lt 4096 (read_items at.world.looks + items_of_look l)) _ _ (λ f. i)
    (λ f. h (record at { world = record { looks = at.world.looks ++ l ∷ []; writes = at.world.writes } })
    (record { few_keys = i.few_keys; keys = i.keys; few_items = omega (arith, items_last at.world.looks l, not_more 4096 (read_items at.world.looks + items_of_look l) f) })))

module _ (base : Versions) where
  got_by_holds : (o : Option (Option Val)) (table key : List ℕ) → Part Within (got_by base o table key)
  got_by_holds (Some left) table key at i = i
  got_by_holds None table key at i = with_look_holds _ at (Goes (or_null (base.cell table key))) i (λ at i. i)

  got_holds : (table : List ℕ) (k : Val) → Part Within (got base table k)
  got_holds table k at i = with_text_holds fits_key (text_of k) at _ i (λ key e. got_by_holds (written_at at.world.writes table key) table key at i)

  wrote_holds : (table : List ℕ) (left : Option Val) (k : Val) → Part Within (wrote base table left k)
  wrote_holds table left k at i = with_text_holds fits_key (text_of k) at _ i (λ key e.
      holds_if Within (nat_lt 1024 (length (with_write at.world.writes table key left))) _ _ (λ f. i)
      (λ f. record { few_keys = not_more 1024 (length (with_write at.world.writes table key left)) f; keys = keys_fit at.world.writes table key left e i.keys; few_items = i.few_items }))

  scanned_holds : (table : List ℕ) (lo hi : Val) → Part Within (scanned base table lo hi)
  scanned_holds table lo hi at i =
      with_text_holds fits_bound (text_of lo) at _ i (λ from e. with_text_holds fits_bound (text_of hi) at _ i (λ to f.
      with_look_holds (found base table from to) at _ i (taken_holds Never Within (list_or_size (map pair_value (rows_under at.world.writes table from to (rows_at base table from to)))))))

  versions_keep : EffectsKeep Within (on_versions base)
  versions_keep = record {
    get = got_holds;
    scan = scanned_holds;
    put = λ table k v. wrote_holds table (Some v) k;
    delete = λ table k. wrote_holds table None k;
    call = λ name n args at i. tt;
    spawn = λ name n args at i. tt;
    await = λ id at i. tt;
  }

  abbrev RunWithin : Counted TxnRun → Type 0
  RunWithin r = IsWithin r.run.reads r.run.writes

  -- what holds of a run, where there is one
  abbrev IfRun : Option (Counted TxnRun) → Type 0
  IfRun None = Unit {0}
  IfRun (Some r) = RunWithin r

  end_within : (d : Ends Never Log (Unit {0})) → Holds Within d → IfRun (txn_end d)
  end_within (Goes a at) h = h
  end_within (Returns v at) h = h
  end_within (Failed word at) h = record { few_keys = omega arith; keys = tt; few_items = h.few_items }
  end_within (Asks q at next) h = tt
  end_within Stuck h = tt

  by_within : (b : Bool) (x y : Option (Counted TxnRun)) → IfRun x → IfRun y → IfRun (if b then x else y)
  by_within true x y h g = h
  by_within false x y h g = g

  among_within : (calls : Calls) (rest : List Item) (name : List ℕ) (args : List Val) → IfRun (run_among base calls rest name args)
  among_within calls [] name args = tt
  among_within calls (item.Txn serial x params body ∷ rest) name args =
      by_within (bytes_eq x name && nat_eq (length params) (length args)) _ _
      (end_within (txn_begun base calls params body args) (body_holds Within (on_versions base) calls versions_keep body _ (record { few_keys = omega arith; keys = tt; few_items = omega arith }))) (among_within calls rest name args)
  among_within calls (item.Table x ∷ rest) name args = among_within calls rest name args
  among_within calls (item.Queue x n ∷ rest) name args = among_within calls rest name args
  among_within calls (item.Outside x params ∷ rest) name args = among_within calls rest name args
  among_within calls (item.Helper x params body ∷ rest) name args = among_within calls rest name args
  among_within calls (item.Flow x params body ∷ rest) name args = among_within calls rest name args

pub runs_within : RunsWithin
runs_within items base name args r e = subst (IfRun base) e (among_within base (calls_of items) items name args)
