-- A transaction of a sound program stays within the limits.
use Rattle.std.proofs.Common.{◌≡◌, ℕ, ◌+◌, ◌≤◌, ◌<◌, Bool, true, false, not, List, [], ◌∷◌, ◌++◌, length, Option, Some, None, refl, arith}
use Rattle.std.specs.Prelude.{map, codes, ◌&&◌, nat_lt, nat_eq, if◌then◌else◌, unwrap_or}
use Rattle.std.specs.List.{AllByRecursion}
use Rattle.std.specs.Str.{is_utf8, bytes_eq, chars}
use lib.Utf8.{encode}
use Rattle.std.proofs.lemmas.Bool.{ltb-true, ltb-false}
use Rattle.r3_value.specs.Value.{IsProper, AreProper}
use Rattle.r3_value.specs.View.{value_of, items_of}
use Rattle.r3_value.specs.declared.value.Val.{Val}
use Rattle.r3_value.specs.declared.value.Val.TheVariants.{Null, Bool as Truth, Int, Text as TextOf, List as ListOf}
use Rattle.r3_entry.specs.Limits.{IsName, IsRowKey, IsBound, IsArgs, IsAnyText, IsRead, IsSeen, IfThere, IsVal}
use Rattle.fn_tree.specs.declared.look.Look.{Look}
use Rattle.fn_tree.specs.declared.look.Look.TheVariants as look
use Rattle.fn_tree.specs.declared.look.TxnRun.{TxnRun}
use Rattle.fn_tree.specs.declared.program.Item.{Item}
use Rattle.fn_tree.specs.declared.program.Item.TheVariants as item
use Rattle.fn_tree.specs.declared.stmt.Stmt.{Stmt}
use Rattle.fn_tree.specs.Comparison.{bytes_lt}
use Rattle.fn_tree.specs.Ends.{At, Ends, Goes, Returns, Failed, Asks, Stuck}
use Rattle.fn_tree.specs.Expression.{calls_of}
use Rattle.fn_tree.specs.Literals.{is_text, item_fits, body_fits, HoldsValues}
use Rattle.fn_tree.specs.Sequences.{list_or_size}
use Rattle.fn_tree.specs.Soundness.{OfTxn, any, is_table, body_is_sound, items_are_sound, each_passes}
use Rattle.fn_tree.specs.Transaction.{Versions, Write, Log, Never, Counted, Row, is_at, is_before, written_at, with_write, contains_look, read_items, items_of_look, with_look, fits_key, fits_bound, with_text, row_left, pair_value, rows_under, rows_at, found, got_by, got, wrote, scanned, on_versions, txn_end, txn_begun, txn_run, run_among}
use Rattle.fn_tree.specs.Values.{text_of, or_null, items_of as list_of}
use Rattle.fn_meaning.specs.ValueLimits.{AreVals, IsWord}
use Rattle.fn_meaning.proofs.SoundExpression.{Anything, and_first, and_second, item_part, rest_part}
use Rattle.fn_meaning.proofs.ValueBodies.{AtWithin, Stays, stays_if, taken_kept, EffectsWithin, body_kept}
use Rattle.fn_meaning.proofs.ValueExpressions.{bound_within, calls_within}
use Rattle.fn_meaning.proofs.ValueLemmas.{TextFits, text_fits, text_utf8, text_short, list_items, list_within, null_val, type_word, size_word}
use Rattle.r3_model.specs.Acts.{read_of}
use Rattle.r3_model.specs.Lawful.{IsWithinLimits, IsPut, RunsWell}
use Rattle.r3_model.specs.Functions.{run_of}
use Rattle.r3_laws.proofs.NamedItems.{IsNamed, table-named}

-- ---- texts

pub any-text : (t : List ℕ) → IsWord t → IsAnyText t
any-text t w = record { long = omega arith; short = text_short t w; utf8 = text_utf8 t w }

row-key : (t : List ℕ) → fits_key t ≡ true → IsWord t → IsRowKey t
row-key [] e w = absurd cc
row-key (b ∷ bs) e w = let short : length bs < 256 = ltb-true (length bs) 256 e in record { long = omega arith; short = omega (arith, short); utf8 = text_utf8 (b ∷ bs) w }

bound-fits : (t : List ℕ) → fits_bound t ≡ true → IsWord t → IsBound t
bound-fits t e w = let short : length t < 257 = ltb-true (length t) 257 e in record { long = omega arith; short = omega (arith, short); utf8 = text_utf8 t w }

pub unknown-any : IsAnyText (codes "unknown_function")
unfolding is_utf8 chars encode
unknown-any = record { long = omega arith; short = omega arith; utf8 = refl }

-- ---- looks and writes

-- what a body has read and written so far
pub record IsLogWithin (log : Log) : Type 0 where
  pub looks : AllByRecursion IsRead (map read_of log.looks)
  pub writes : AllByRecursion IsPut log.writes

abbrev NoAsk : Never → Type 0
NoAsk q = Unit {0}

looks-last : (ls : List Look) (l : Look) → AllByRecursion IsRead (map read_of ls) → IsRead (read_of l) → AllByRecursion IsRead (map read_of (ls ++ l ∷ []))
looks-last [] l all is = (is, tt)
looks-last (m ∷ ls) l all is = (all.0, looks-last ls l all.1 is)

puts-by : (b : Bool) (xs ys : List Write) → AllByRecursion IsPut xs → AllByRecursion IsPut ys → AllByRecursion IsPut (if b then xs else ys)
puts-by true xs ys h g = h
puts-by false xs ys h g = g

puts-with : (ws : List Write) (table key : List ℕ) (left : Option Val) → IsPut (table, key, left) → AllByRecursion IsPut ws → AllByRecursion IsPut (with_write ws table key left)
puts-with [] table key left is all = (is, tt)
puts-with (w ∷ ws) table key left is all =
    puts-by (is_at table key w) ((table, key, left) ∷ ws) _ (is, all.1)
    (puts-by (is_before table key w) ((table, key, left) ∷ w ∷ ws) (w ∷ with_write ws table key left) (is, (all.0, all.1)) (all.0, puts-with ws table key left is all.1))

abbrev Written : Option (Option Val) → Type 0
Written None = Unit {0}
Written (Some left) = IfThere IsVal left

written-by : (b : Bool) (left : Option Val) (o : Option (Option Val)) → IfThere IsVal left → Written o → Written (if b then Some left else o)
written-by true left o h g = h
written-by false left o h g = g

written-fits : (ws : List Write) (table key : List ℕ) → AllByRecursion IsPut ws → Written (written_at ws table key)
written-fits [] table key all = tt
written-fits (w ∷ ws) table key all = written-by (is_at table key w) w.2 (written_at ws table key) all.0.2 (written-fits ws table key all.1)

or-null-val : (o : Option Val) → IfThere IsVal o → IsVal (or_null o)
or-null-val (Some v) h = h
or-null-val None h = null_val

-- ---- the rows of a scan

abbrev IsRow : Row → Type 0
IsRow r = (is_utf8 r.0 ≡ true) × IsProper (value_of r.1)

rows-by : (a b : Bool) (xs ys zs : List Row) → AllByRecursion IsRow xs → AllByRecursion IsRow ys → AllByRecursion IsRow zs → AllByRecursion IsRow (if a then xs else if b then ys else zs)
rows-by true b xs ys zs h g k = h
rows-by false true xs ys zs h g k = g
rows-by false false xs ys zs h g k = k

row-left : (left : Option Val) (key : List ℕ) → is_utf8 key ≡ true → IfThere IsVal left → (rows : List Row) → AllByRecursion IsRow rows → AllByRecursion IsRow (row_left key left rows)
row-left None key u h [] all = tt
row-left (Some v) key u h [] all = ((u, h.proper), tt)
row-left None key u h (r ∷ rows) all =
    rows-by (bytes_eq r.0 key) (bytes_lt key r.0) rows (r ∷ rows) (r ∷ row_left key None rows) all.1 (all.0, all.1) (all.0, row-left None key u h rows all.1)
row-left (Some v) key u h (r ∷ rows) all =
    rows-by (bytes_eq r.0 key) (bytes_lt key r.0) ((key, v) ∷ rows) ((key, v) ∷ r ∷ rows) (r ∷ row_left key (Some v) rows)
    ((u, h.proper), all.1) ((u, h.proper), (all.0, all.1)) (all.0, row-left (Some v) key u h rows all.1)

rows-if : (b : Bool) (xs ys : List Row) → AllByRecursion IsRow xs → AllByRecursion IsRow ys → AllByRecursion IsRow (if b then xs else ys)
rows-if true xs ys h g = h
rows-if false xs ys h g = g

rows-under : (ws : List Write) (table lo hi : List ℕ) (rows : List Row) → AllByRecursion IsPut ws → AllByRecursion IsRow rows → AllByRecursion IsRow (rows_under ws table lo hi rows)
rows-under [] table lo hi rows all h = h
rows-under (w ∷ ws) table lo hi rows all h =
    rows-if (bytes_eq w.0 table && not (bytes_lt w.1 lo) && bytes_lt w.1 hi) (rows_under ws table lo hi (row_left w.1 w.2 rows)) (rows_under ws table lo hi rows)
    (rows-under ws table lo hi (row_left w.1 w.2 rows) all.1 (row-left w.2 w.1 all.0.1.utf8 all.0.2 rows h)) (rows-under ws table lo hi rows all.1 h)

pairs-proper : (rows : List Row) → AllByRecursion IsRow rows → AreProper (items_of (map pair_value rows))
pairs-proper [] all = tt
pairs-proper (r ∷ rows) all = ((all.0.0, (all.0.1, tt)), pairs-proper rows all.1)

-- ---- what a body does on a map within the limits

module _ (items : List Item) (named : AllByRecursion IsNamed items) (base : Versions) (fits : IsWithinLimits base) where
  keys-rows : (table : List ℕ) (ks : List (List ℕ)) → AllByRecursion IsRowKey ks → AllByRecursion IsRow (map (λ (k : List ℕ). (k, or_null (base.cell table k))) ks)
  keys-rows table [] all = tt
  keys-rows table (k ∷ ks) all = ((all.0.utf8, (or-null-val (base.cell table k) (fits.cells table k)).proper), keys-rows table ks all.1)

  keys-seen : (table : List ℕ) (ks : List (List ℕ)) → AllByRecursion IsRowKey ks → AllByRecursion IsSeen (map (λ (k : List ℕ). (k, base.version table k)) ks)
  keys-seen table [] all = tt
  keys-seen table (k ∷ ks) all = ((all.0, fits.versions table k), keys-seen table ks all.1)

  text-kept : {A : Type 0} (good : A → Type 0) (test : List ℕ → Bool) (o : Option (List ℕ)) (at : At Log) (go : List ℕ → Ends Never Log A) → TextFits o → AtWithin IsLogWithin at
      → ((t : List ℕ) → test t ≡ true → IsWord t → Stays IsLogWithin NoAsk good (go t)) → Stays IsLogWithin NoAsk good (with_text test o at go)
  text-kept good test None at go w i h = (type_word, i)
  text-kept good test (Some t) at go w i h = stays_if IsLogWithin NoAsk good (test t) (go t) (Failed (codes "size") at) (λ e. h t e w) (λ e. (size_word, i))

  look-kept : {A : Type 0} (good : A → Type 0) (l : Look) (at : At Log) (go : At Log → Ends Never Log A) → (items_of_look l ≤ 4096 → IsRead (read_of l)) → AtWithin IsLogWithin at
      → ((at : At Log) → AtWithin IsLogWithin at → Stays IsLogWithin NoAsk good (go at)) → Stays IsLogWithin NoAsk good (with_look l at go)
  look-kept good l at go is i h =
      stays_if IsLogWithin NoAsk good (contains_look at.world.looks l) _ _ (λ e. h at i)
      (λ e. stays_if IsLogWithin NoAsk good (nat_lt 4096 (read_items at.world.looks + items_of_look l)) _ _ (λ f. (size_word, i))
      (λ f. let few : read_items at.world.looks + items_of_look l ≤ 4096 = ltb-false 4096 (read_items at.world.looks + items_of_look l) f in
      h (record at { world = record { looks = at.world.looks ++ l ∷ []; writes = at.world.writes } })
      (i.0, record { looks = looks-last at.world.looks l i.1.looks (is (omega (arith, few))); writes = i.1.writes })))

  got-by-kept : (o : Option (Option Val)) → Written o → (table key : List ℕ) → IsName table → IsRowKey key → (at : At Log) → AtWithin IsLogWithin at → Stays IsLogWithin NoAsk IsVal (got_by base o table key at)
  got-by-kept (Some left) w table key name is at i = (or-null-val left w, i)
  got-by-kept None w table key name is at i =
      look-kept IsVal (look.At table key (base.version table key)) at (Goes (or_null (base.cell table key))) (λ few. (name, is, fits.versions table key)) i
      (λ at i. (or-null-val (base.cell table key) (fits.cells table key), i))

  got-kept : (table : List ℕ) → any (is_table table) items ≡ true → (k : Val) → IsVal k → (at : At Log) → AtWithin IsLogWithin at → Stays IsLogWithin NoAsk IsVal (got base table k at)
  got-kept table there k h at i =
      text-kept IsVal fits_key (text_of k) at (λ key. got_by base (written_at at.world.writes table key) table key at) (text_fits k h) i
      (λ key e w. got-by-kept (written_at at.world.writes table key) (written-fits at.world.writes table key i.1.writes) table key (table-named items named table there) (row-key key e w) at i)

  wrote-kept : (table : List ℕ) → any (is_table table) items ≡ true → (left : Option Val) → IfThere IsVal left → (k : Val) → IsVal k → (at : At Log) → AtWithin IsLogWithin at → Stays IsLogWithin NoAsk Anything (wrote base table left k at)
  wrote-kept table there left g k h at i =
      text-kept Anything fits_key (text_of k) at _ (text_fits k h) i
      (λ key e w. stays_if IsLogWithin NoAsk Anything (nat_lt 1024 (length (with_write at.world.writes table key left))) _ _ (λ f. (size_word, i))
      (λ f. (tt, (i.0, record { looks = i.1.looks; writes = puts-with at.world.writes table key left (table-named items named table there, row-key key e w, g) i.1.writes }))))

  found-fits : (table lo hi : List ℕ) → IsName table → IsBound lo → IsBound hi → items_of_look (found base table lo hi) ≤ 4096 → IsRead (read_of (found base table lo hi))
  found-fits table lo hi name from to few = (name, from, to, (omega (arith, few), keys-seen table (base.keys table lo hi) (fits.keys table lo hi)))

  scanned-kept : (table : List ℕ) → any (is_table table) items ≡ true → (lo hi : Val) → IsVal lo → IsVal hi → (at : At Log) → AtWithin IsLogWithin at → Stays IsLogWithin NoAsk IsVal (scanned base table lo hi at)
  scanned-kept table there lo hi h g at i =
      text-kept IsVal fits_bound (text_of lo) at _ (text_fits lo h) i (λ from e w. text-kept IsVal fits_bound (text_of hi) at _ (text_fits hi g) i (λ to f u.
      look-kept IsVal (found base table from to) at _ (found-fits table from to (table-named items named table there) (bound-fits from e w) (bound-fits to f u)) i
      (λ at' j. taken_kept IsLogWithin NoAsk (list_or_size (map pair_value (rows_under at.world.writes table from to (rows_at base table from to))))
      (list_within (map pair_value (rows_under at.world.writes table from to (rows_at base table from to)))
      (pairs-proper (rows_under at.world.writes table from to (rows_at base table from to)) (rows-under at.world.writes table from to (rows_at base table from to) i.1.writes (keys-rows table (base.keys table from to) (fits.keys table from to))))) at' j)))

  versions-within : EffectsWithin items IsLogWithin NoAsk (on_versions base)
  versions-within = record {
    get = got-kept;
    scan = scanned-kept;
    put = λ table there k v h g. wrote-kept table there (Some v) g k h;
    delete = λ table there k h. wrote-kept table there None tt k h;
    call = λ name n args h at i. tt;
    spawn = λ name n args h at i. tt;
    await = λ id h at i. tt;
  }

  none-well : RunsWell (run_of None)
  none-well = record { outcome = unknown-any; looks = tt; puts = tt }

  end-well : (d : Ends Never Log (Unit {0})) → Stays IsLogWithin NoAsk Anything d → RunsWell (run_of (txn_end d))
  end-well (Goes a at) h = record { outcome = null_val; looks = h.1.1.looks; puts = h.1.1.writes }
  end-well (Returns v at) h = record { outcome = h.0; looks = h.1.looks; puts = h.1.writes }
  end-well (Failed word at) h = record { outcome = any-text word h.0; looks = h.1.1.looks; puts = tt }
  end-well (Asks q at next) h = none-well
  end-well Stuck h = none-well

  well-if : (b : Bool) (x y : Option (Counted TxnRun)) → RunsWell (run_of x) → RunsWell (run_of y) → RunsWell (run_of (if b then x else y))
  well-if true x y h g = h
  well-if false x y h g = g

  module _ (holds : HoldsValues items) where
    run-well : (params : List (List ℕ)) (body : List Stmt) → body_is_sound items OfTxn params body ≡ true → body_fits body ≡ true → (args : List Val) → AreVals args → RunsWell (run_of (txn_run base (calls_of items) params body args))
    run-well params body e f args h =
        end-well (txn_begun base (calls_of items) params body args)
        (body_kept (on_versions base) (calls_of items) items OfTxn IsLogWithin NoAsk versions-within (calls_within items holds) params body e f _ (bound_within params args h, record { looks = tt; writes = tt }))

    pub among-well : (before rest : List Item) → items_are_sound before items rest ≡ true → each_passes item_fits rest ≡ true → (name : List ℕ) (args : List Val) → AreVals args → RunsWell (run_of (run_among base (calls_of items) rest name args))
    among-well before [] e f name args h = none-well
    among-well before (item.Txn serial x params body ∷ rest) e f name args h =
        well-if (bytes_eq x name && nat_eq (length params) (length args)) (txn_run base (calls_of items) params body args) (run_among base (calls_of items) rest name args)
        (run-well params body (item_part before items (item.Txn serial x params body) rest e) (and_second (is_text x) (body_fits body) (and_first (item_fits (item.Txn serial x params body)) (each_passes item_fits rest) f)) args h)
        (among-well (before ++ item.Txn serial x params body ∷ []) rest (rest_part before items (item.Txn serial x params body) rest e) (and_second (item_fits (item.Txn serial x params body)) (each_passes item_fits rest) f) name args h)
    among-well before (item.Table x ∷ rest) e f name args h = among-well (before ++ item.Table x ∷ []) rest (rest_part before items (item.Table x) rest e) (and_second (item_fits (item.Table x)) (each_passes item_fits rest) f) name args h
    among-well before (item.Queue x n ∷ rest) e f name args h = among-well (before ++ item.Queue x n ∷ []) rest (rest_part before items (item.Queue x n) rest e) (and_second (item_fits (item.Queue x n)) (each_passes item_fits rest) f) name args h
    among-well before (item.Outside x params ∷ rest) e f name args h = among-well (before ++ item.Outside x params ∷ []) rest (rest_part before items (item.Outside x params) rest e) (and_second (item_fits (item.Outside x params)) (each_passes item_fits rest) f) name args h
    among-well before (item.Helper x params body ∷ rest) e f name args h = among-well (before ++ item.Helper x params body ∷ []) rest (rest_part before items (item.Helper x params body) rest e) (and_second (item_fits (item.Helper x params body)) (each_passes item_fits rest) f) name args h
    among-well before (item.Flow x params body ∷ rest) e f name args h = among-well (before ++ item.Flow x params body ∷ []) rest (rest_part before items (item.Flow x params body) rest e) (and_second (item_fits (item.Flow x params body)) (each_passes item_fits rest) f) name args h

-- the arguments of a run
pub args-vals : (v : Val) → IsArgs v → AreVals (unwrap_or (list_of v) [])
args-vals (ListOf vs) h = list_items vs h.0
args-vals Null h = absurd h
args-vals (Truth b) h = absurd h
args-vals (Int z) h = absurd h
args-vals (TextOf t) h = absurd h
