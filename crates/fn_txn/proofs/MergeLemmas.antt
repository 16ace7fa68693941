-- One pass over the keys of a range and the writes gives the rows with the writes over them.
use Rattle.std.proofs.Common.{◌≡◌, ℕ, Bool, true, false, not, ◌&&◌, cond, List, [], ◌∷◌, ◌++◌, map, filter, Option, Some, None, refl, ap, sym, subst, ◌∙◌}
use Rattle.std.specs.Prelude.{if◌then◌else◌}
use Rattle.std.proofs.lemmas.Cmp.{nat_list_cmp_total}
use Rattle.std.proofs.lemmas.List.{append_assoc, append-nil}
use Rattle.std.proofs.lemmas.Map.Keys.{sorted_head, sorted_tail}
use Rattle.std.specs.BTreeMap.Range.{range_contains, entries_between}
use Rattle.std.specs.List.{AllByRecursion}
use Rattle.std.specs.List.Sorted.{IsStrictlySortedBy}
use Rattle.std.specs.Map.{keys_of}
use Rattle.std.specs.Ordering.{nat_cmp, ordering_then, ordering_reverse, is_lt, is_le, is_gt, is_eq}
use Rattle.std.specs.Cmp.Lexicographic.{slice_cmp}
use Rattle.std.specs.Str.{bytes_eq}
use Rattle.std.specs.declared.cmp.Ordering.{Ordering}
use Rattle.std.specs.declared.cmp.Ordering.TheVariants.{Less, Equal, Greater}
use Rattle.std.specs.declared.ops.Bound.TheVariants.{Included, Excluded}
use Rattle.r3_value.specs.declared.value.Val.{Val}
use Rattle.fn_tree.specs.Comparison.{bytes_lt}
use Rattle.fn_tree.specs.Writes.{Row, Versions, Write, row_left, rows_under}
use Rattle.fn_txn.specs.declared.row_key.RowKey.{RowKey}
use Rattle.fn_txn.specs.RowKeys.{row_cmp, write_of}
use Rattle.fn_txn.specs.Rows.{AreAbove, Passes, all_left, key_row}
use Rattle.fn_txn.proofs.OrderLemmas.{lt_is, eq_is}

abbrev bytes_cmp : List ℕ → List ℕ → Ordering
bytes_cmp = slice_cmp nat_cmp

abbrev Entries : Type 0
Entries = List (RowKey × Option Val)

turned : (s t : List ℕ) → bytes_cmp s t ≡ ordering_reverse (bytes_cmp t s)
turned = nat_list_cmp_total.antisymm

-- ---- rows before a key stay

less_from : (o : Ordering) → is_eq o ≡ false → is_lt (ordering_reverse o) ≡ false → o ≡ Less
less_from Less h k = refl
less_from Equal h k = absurd cc
less_from Greater h k = absurd cc

before : (s t : List ℕ) → bytes_eq s t ≡ false → bytes_lt t s ≡ false → bytes_cmp s t ≡ Less
before s t h k = less_from (bytes_cmp s t) (sym (eq_is s t) ∙ h) (ap is_lt (sym (turned t s)) ∙ sym (lt_is t s) ∙ k)

row_stays : (key : List ℕ) (left : Option Val) (r : Row) (rows : List Row) → bytes_cmp r.0 key ≡ Less → row_left key left (r ∷ rows) ≡ r ∷ row_left key left rows
row_stays key left r rows h =
    let apart : bytes_eq r.0 key ≡ false = eq_is r.0 key ∙ ap is_eq h in
    let after : bytes_lt key r.0 ≡ false = lt_is key r.0 ∙ ap is_lt (turned key r.0 ∙ ap ordering_reverse h) in
    rw (apart, after) refl

all_stay : (r : Row) (es : Entries) (rows : List Row) → AreAbove r.0 es → all_left es (r ∷ rows) ≡ r ∷ all_left es rows
all_stay r [] rows h = refl
all_stay r (e ∷ es) rows h = ap (all_left es) (row_stays e.0.key e.1 r rows h.0) ∙ all_stay r es (row_left e.0.key e.1 rows) h.1

above_less : (s t : List ℕ) → bytes_cmp s t ≡ Less → (es : Entries) → AreAbove t es → AreAbove s es
above_less s t h [] k = tt
above_less s t h (e ∷ es) k = (nat_list_cmp_total.trans s t e.0.key h k.0, above_less s t h es k.1)

-- the row that is left at a key stays too
left_stays : (key : List ℕ) (left : Option Val) (es : Entries) (rows : List Row) → AreAbove key es → all_left es (row_left key left [] ++ rows) ≡ row_left key left [] ++ all_left es rows
left_stays key None es rows h = refl
left_stays key (Some v) es rows h = all_stay (key, v) es rows h

-- ---- the pass up to a key

module _ (base : Versions) (table key : List ℕ) (keys : List (List ℕ × ℕ)) (old : List Row) where
  abbrev pub IsPassing : List (List ℕ × ℕ) → List Row → Type 0
  IsPassing rest new =
      (left : Option Val) (es : Entries) → AreAbove key es →
      new ++ all_left es (row_left key left (map (key_row base table) rest)) ≡ old ++ all_left es (row_left key left (map (key_row base table) keys))

pub pass_none : (base : Versions) (table key : List ℕ) (keys : List (List ℕ × ℕ)) (old : List Row) → IsPassing base table key keys old keys old
pass_none base table key keys old left es h = refl

module _ (base : Versions) (table key : List ℕ) (keys : List (List ℕ × ℕ)) (old new : List Row) (rest : List (List ℕ × ℕ)) (passing : IsPassing base table key keys old rest new) where
  -- what is left, from what the rest's rows are
  passed : (later : List (List ℕ × ℕ)) → ((left : Option Val) → row_left key left (map (key_row base table) rest) ≡ row_left key left [] ++ map (key_row base table) later) → Passes base table key keys later old new
  passed later is left es h =
      ap (λ l. new ++ l) (sym (left_stays key left es (map (key_row base table) later) h) ∙ ap (all_left es) (sym (is left)))
      ∙ passing left es h

  pub pass_more : (k : List ℕ × ℕ) (later : List (List ℕ × ℕ)) → rest ≡ k ∷ later → bytes_eq k.0 key ≡ false → bytes_lt key k.0 ≡ false → IsPassing base table key keys old later (new ++ key_row base table k ∷ [])
  pass_more k later is apart after left es h =
      let less = before k.0 key apart after in
      let r = key_row base table k in
      let rows = row_left key left (map (key_row base table) later) in
      append_assoc new (r ∷ []) (all_left es rows)
      ∙ ap (λ l. new ++ l) (sym (all_stay r es rows (above_less k.0 key less es h)))
      ∙ ap (λ l. new ++ all_left es l) (sym (row_stays key left r (map (key_row base table) later) less))
      ∙ ap (λ ks. new ++ all_left es (row_left key left (map (key_row base table) ks))) (sym is)
      ∙ passing left es h

  pub pass_found : (k : List ℕ × ℕ) (later : List (List ℕ × ℕ)) → rest ≡ k ∷ later → bytes_eq k.0 key ≡ true → Passes base table key keys later old new
  pass_found k later is here =
      let rows = map (key_row base table) later in
      let cut : (left : Option Val) → row_left key left (key_row base table k ∷ rows) ≡ row_left key left [] ++ rows = λ left. rw here refl in
      passed later (λ left. ap (λ ks. row_left key left (map (key_row base table) ks)) is ∙ cut left)

  pub pass_stops : (k : List ℕ × ℕ) (later : List (List ℕ × ℕ)) → rest ≡ k ∷ later → bytes_eq k.0 key ≡ false → bytes_lt key k.0 ≡ true → Passes base table key keys rest old new
  pass_stops k later is apart after =
      let rows = map (key_row base table) later in
      let r = key_row base table k in
      let cut : (left : Option Val) → row_left key left (r ∷ rows) ≡ row_left key left [] ++ (r ∷ rows) = λ left. rw (apart, after) refl in
      passed rest (λ left. ap (λ ks. row_left key left (map (key_row base table) ks)) is ∙ cut left ∙ ap (λ ks. row_left key left [] ++ map (key_row base table) ks) (sym is))

  pub pass_end : rest ≡ [] → Passes base table key keys rest old new
  pass_end is =
      passed rest (λ left.
      ap (λ ks. row_left key left (map (key_row base table) ks)) is
      ∙ sym (append-nil (row_left key left []))
      ∙ ap (λ ks. row_left key left [] ++ map (key_row base table) ks) (sym is))

-- ---- the whole pass

-- each key stands before the later ones
abbrev pub AreRising : Entries → Type 0
AreRising [] = Unit {0}
AreRising (e ∷ es) = AreAbove e.0.key es × AreRising es

-- the rows so far, with the entries over the rows of the rest, are all
pub record IsMerging (base : Versions) (table : List ℕ) (all : List Row) (rest : List (List ℕ × ℕ)) (es : Entries) (rows : List Row) : Type 0 where
  pub rising : AreRising es
  pub same : rows ++ all_left es (map (key_row base table) rest) ≡ all

pub merge_more : (base : Versions) (table : List ℕ) (all : List Row) (rest later : List (List ℕ × ℕ)) (es es' : Entries) (e : RowKey × Option Val) (rows mid new : List Row) → IsMerging base table all rest es rows → es ≡ e ∷ es' → Passes base table e.0.key rest later rows mid → new ≡ mid ++ row_left e.0.key e.1 [] → IsMerging base table all later es' new
merge_more base table all rest later es es' e rows mid new m is p n =
    let m' : IsMerging base table all rest (e ∷ es') rows = subst (λ l. IsMerging base table all rest l rows) is m in
    record {
      rising = m'.rising.1;
      same =
          ap (λ l. l ++ all_left es' (map (key_row base table) later)) n
          ∙ append_assoc mid (row_left e.0.key e.1 []) (all_left es' (map (key_row base table) later))
          ∙ p e.1 es' m'.rising.0
          ∙ m'.same;
    }

equal_from : (o : Ordering) (b c : Bool) → (is_eq o && b && c) ≡ true → o ≡ Equal
equal_from Less b c h = absurd cc
equal_from Equal b c h = refl
equal_from Greater b c h = absurd cc

gt_tie : (o p : Ordering) → o ≡ ordering_reverse o → is_lt p ≡ true → is_gt (ordering_then o p) ≡ false
gt_tie Less p h k = refl
gt_tie Equal Less h k = refl
gt_tie Equal Equal h k = refl
gt_tie Equal Greater h k = absurd cc
gt_tie Greater p h k = absurd cc

in_range_high : (high : Ordering) → not (is_le high) ≡ is_lt (ordering_reverse high)
in_range_high Less = refl
in_range_high Equal = refl
in_range_high Greater = refl

module _ (cmp : RowKey → RowKey → Ordering) (order : (a b : RowKey) → cmp a b ≡ row_cmp a b) where
  -- the range of the map has the keys of the table from lo and below hi
  in_range : (o low high : Ordering) → (is_le (ordering_then o low) && not (is_le (ordering_then o high))) ≡ (is_eq (ordering_reverse o) && not (is_lt (ordering_reverse low)) && is_lt (ordering_reverse high))
  in_range Less low high = refl
  in_range Equal Less high = in_range_high high
  in_range Equal Equal high = in_range_high high
  in_range Equal Greater high = refl
  in_range Greater low high = refl

  test_is : (a b : RowKey) (e : RowKey × Option Val) → b.table ≡ a.table → range_contains cmp (Included a) (Excluded b) e.0 ≡ (bytes_eq e.0.table a.table && not (bytes_lt e.0.key a.key) && bytes_lt e.0.key b.key)
  test_is a b e same =
      (λ i. is_le (order a e.0 i) && not (is_le ((order b e.0 ∙ ap (λ t. ordering_then (bytes_cmp t e.0.table) (bytes_cmp b.key e.0.key)) same) i)))
      ∙ in_range (bytes_cmp a.table e.0.table) (bytes_cmp a.key e.0.key) (bytes_cmp b.key e.0.key)
      ∙ (λ i. (ap is_eq (sym (turned e.0.table a.table)) ∙ sym (eq_is e.0.table a.table)) i
      && not ((ap is_lt (sym (turned e.0.key a.key)) ∙ sym (lt_is e.0.key a.key)) i)
      && (ap is_lt (sym (turned e.0.key b.key)) ∙ sym (lt_is e.0.key b.key)) i)

  by_test : (t : Bool) (e : RowKey × Option Val) (es : Entries) (rows : List Row) (x y : List Row) → x ≡ all_left es (row_left e.0.key e.1 rows) → y ≡ all_left es rows → cond t x y ≡ all_left (cond t (e ∷ es) es) rows
  by_test true e es rows x y h k = h
  by_test false e es rows x y h k = k

  -- the writes of the range over the rows
  pub under_is : (a b : RowKey) → b.table ≡ a.table → (es : Entries) (rows : List Row) → rows_under (map write_of es) a.table a.key b.key rows ≡ all_left (entries_between cmp (Included a) (Excluded b) es) rows
  under_is a b same [] rows = refl
  under_is a b same (e ∷ es) rows =
      ap (λ t. cond t (rows_under (map write_of es) a.table a.key b.key (row_left e.0.key e.1 rows)) (rows_under (map write_of es) a.table a.key b.key rows)) (sym (test_is a b e same))
      ∙ by_test (range_contains cmp (Included a) (Excluded b) e.0) e (entries_between cmp (Included a) (Excluded b) es) rows _ _ (under_is a b same es (row_left e.0.key e.1 rows)) (under_is a b same es rows)

  -- the keys of a range rise
  same_table : (a b : RowKey) (e : RowKey × Option Val) → b.table ≡ a.table → range_contains cmp (Included a) (Excluded b) e.0 ≡ true → bytes_cmp e.0.table a.table ≡ Equal
  same_table a b e same h = equal_from (bytes_cmp e.0.table a.table) _ _ (ap (λ t. t && not (bytes_lt e.0.key a.key) && bytes_lt e.0.key b.key) (sym (eq_is e.0.table a.table)) ∙ sym (test_is a b e same) ∙ h)

  key_less : (e f : RowKey × Option Val) (t : List ℕ) → bytes_cmp e.0.table t ≡ Equal → bytes_cmp f.0.table t ≡ Equal → cmp e.0 f.0 ≡ Less → bytes_cmp e.0.key f.0.key ≡ Less
  key_less e f t h k less =
      let tie : bytes_cmp e.0.table f.0.table ≡ Equal = nat_list_cmp_total.congr e.0.table t f.0.table h ∙ turned t f.0.table ∙ ap ordering_reverse k in
      ap (λ o. ordering_then o (bytes_cmp e.0.key f.0.key)) (sym tie) ∙ sym (order e.0 f.0) ∙ less

  above_if : (a b : RowKey) (same : b.table ≡ a.table) (e f : RowKey × Option Val) (es : Entries) → bytes_cmp e.0.table a.table ≡ Equal → cmp e.0 f.0 ≡ Less → AreAbove e.0.key es → (t : Bool) → range_contains cmp (Included a) (Excluded b) f.0 ≡ t → AreAbove e.0.key (cond t (f ∷ es) es)
  above_if a b same e f es h less above true is = (key_less e f a.table h (same_table a b f same is) less, above)
  above_if a b same e f es h less above false is = above

  above_between : (a b : RowKey) → b.table ≡ a.table → (e : RowKey × Option Val) → bytes_cmp e.0.table a.table ≡ Equal → (es : Entries) → AllByRecursion (λ k. cmp e.0 k ≡ Less) (keys_of es) → AreAbove e.0.key (entries_between cmp (Included a) (Excluded b) es)
  above_between a b same e h [] k = tt
  above_between a b same e h (f ∷ es) k = above_if a b same e f (entries_between cmp (Included a) (Excluded b) es) h k.0 (above_between a b same e h es k.1) (range_contains cmp (Included a) (Excluded b) f.0) refl

  rising_if : (a b : RowKey) (same : b.table ≡ a.table) (e : RowKey × Option Val) (es : Entries) → AllByRecursion (λ k. cmp e.0 k ≡ Less) (keys_of es) → AreRising (entries_between cmp (Included a) (Excluded b) es) → (t : Bool) → range_contains cmp (Included a) (Excluded b) e.0 ≡ t → AreRising (cond t (e ∷ entries_between cmp (Included a) (Excluded b) es) (entries_between cmp (Included a) (Excluded b) es))
  rising_if a b same e es k rising true is = (above_between a b same e (same_table a b e same is) es k, rising)
  rising_if a b same e es k rising false is = rising

  pub rising_between : (a b : RowKey) → b.table ≡ a.table → (es : Entries) → IsStrictlySortedBy cmp (keys_of es) → AreRising (entries_between cmp (Included a) (Excluded b) es)
  rising_between a b same [] s = tt
  rising_between a b same (e ∷ es) s =
      rising_if a b same e es (sorted_head cmp e.0 (keys_of es) s) (rising_between a b same es (sorted_tail cmp e.0 (keys_of es) s)) (range_contains cmp (Included a) (Excluded b) e.0) refl

  -- the bounds of a range that isn't empty
  pub forward : (a b : RowKey) → b.table ≡ a.table → bytes_lt a.key b.key ≡ true → is_gt (cmp a b) ≡ false
  forward a b same h =
      ap is_gt (order a b ∙ ap (λ t. ordering_then (bytes_cmp a.table t) (bytes_cmp a.key b.key)) same)
      ∙ gt_tie (bytes_cmp a.table a.table) (bytes_cmp a.key b.key) (turned a.table a.table) (sym (lt_is a.key b.key) ∙ h)

  -- the range's entries, before the first
  pub merge_start : (base : Versions) (keys : List (List ℕ × ℕ)) (table lo hi : List ℕ) (a b : RowKey) → a.table ≡ table → a.key ≡ lo → b.table ≡ table → b.key ≡ hi → (es range : Entries) → IsStrictlySortedBy cmp (keys_of es) → range ≡ entries_between cmp (Included a) (Excluded b) es → IsMerging base table (rows_under (map write_of es) table lo hi (map (key_row base table) keys)) keys range []
  merge_start base keys table lo hi a b at al bt bh es range s is =
      let rows = map (key_row base table) keys in
      record {
        rising = subst AreRising (sym is) (rising_between a b (bt ∙ sym at) es s);
        same = ap (λ l. all_left l rows) is ∙ sym (under_is a b (bt ∙ sym at) es rows) ∙ (λ i. rows_under (map write_of es) (at i) (al i) (bh i) rows);
      }

-- ---- an empty range

none_between : (k lo hi : List ℕ) → bytes_lt lo hi ≡ false → (o p : Ordering) → bytes_cmp k lo ≡ o → bytes_cmp k hi ≡ p → (not (is_lt o) && is_lt p) ≡ false
none_between k lo hi h Less p ko kp = refl
none_between k lo hi h Equal p ko kp = ap is_lt (sym kp ∙ nat_list_cmp_total.congr k lo hi ko) ∙ sym (lt_is lo hi) ∙ h
none_between k lo hi h Greater Equal ko kp = refl
none_between k lo hi h Greater Greater ko kp = refl
none_between k lo hi h Greater Less ko kp = ap is_lt (sym (nat_list_cmp_total.trans lo k hi (turned lo k ∙ ap ordering_reverse ko) kp)) ∙ sym (lt_is lo hi) ∙ h

no_test : (t u v : Bool) → (u && v) ≡ false → (t && u && v) ≡ false
no_test true u v h = h
no_test false u v h = refl

-- no write stands in it
pub under_none : (table lo hi : List ℕ) → bytes_lt lo hi ≡ false → (ws : List Write) (rows : List Row) → rows_under ws table lo hi rows ≡ rows
under_none table lo hi h [] rows = refl
under_none table lo hi h (w ∷ ws) rows =
    ap (λ t. cond t (rows_under ws table lo hi (row_left w.1 w.2 rows)) (rows_under ws table lo hi rows))
    (no_test (bytes_eq w.0 table) (not (bytes_lt w.1 lo)) (bytes_lt w.1 hi)
    ((λ i. not (lt_is w.1 lo i) && lt_is w.1 hi i) ∙ none_between w.1 lo hi h (bytes_cmp w.1 lo) (bytes_cmp w.1 hi) refl refl))
    ∙ under_none table lo hi h ws rows
