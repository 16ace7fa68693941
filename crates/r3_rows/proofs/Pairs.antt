-- Where a key stands in a sorted list, or where it goes.
use Rattle.std.proofs.Common.{◌≡◌, ℕ, zero, suc, ◌+◌, ◌-◌, ◌<◌, ◌≤◌, [], ◌∷◌, ◌++◌, length, take, drop, get_or, Option, refl, ap, subst, sym, ◌∙◌, append_assoc, add-one, arith, Bool, true, false}
use Rattle.std.specs.Prelude.{insert, slice_set, IsTrue, OnOk, OnErr, Result, Ok, Err, Some, None, T, ◌&&◌}
use Rattle.std.specs.Ordering.{is_lt, ordering_reverse}
use Rattle.std.specs.FinMap.Entries.{put, find, below_all, is_sorted, is_sorted-put}
use Rattle.std.proofs.lemmas.List.{drop_more, take_more, drop_all, take-append-drop, take-set, drop-set}
use Rattle.std.specs.declared.cmp.Ordering.{Ordering}
use Rattle.std.specs.declared.cmp.Ordering.TheVariants.{Less, Equal, Greater}
use Rattle.r3_value.specs.declared.fault.Memory.{Memory}
use Rattle.r3_rows.specs.declared.rows.Key.{Key}
use Rattle.r3_rows.specs.declared.rows.Cell.{Cell}
use Rattle.r3_rows.specs.Keys.{key_cmp}
use Rattle.r3_rows.specs.KeyOrder.{key_cmp-total, key_cmp-same}
use Rattle.r3_rows.specs.Pairs.{Pairs, StandsAt, GoesAt}

-- within the list the default doesn't matter
read_any : (es : Pairs) (i : ℕ) (d e : Key × Option Cell) → i < length es → get_or es i d ≡ get_or es i e
read_any [] i d e lt = absurd (omega arith)
read_any (f ∷ fs) zero d e lt = refl
read_any (f ∷ fs) (suc i) d e lt = read_any fs i d e (omega arith)

slice_set-split : (xs : Pairs) (i : ℕ) (y : Key × Option Cell) → i < length xs → slice_set xs i y ≡ take i xs ++ y ∷ drop (i + 1) xs
slice_set-split xs i y lt =
    sym (take-append-drop i (slice_set xs i y)) ∙ rw (take-set, drop-set xs i y lt) refl

pub put_equal : (k : Key) (v : Option Cell) (es : Pairs) (i : ℕ) (e old : Key × Option Cell) → i < length es → e ≡ get_or es i e → old.0 ≡ e.0 → key_cmp k e.0 ≡ Equal
    → put key_cmp k v es ≡ take i es ++ put key_cmp k v (drop i es) → slice_set es i (old.0, v) ≡ put key_cmp k v es
put_equal k v es i e old lt is same equal passed =
    let split : drop i es ≡ e ∷ drop (i + 1) es = rw is (drop_more es i e lt) in
    let here : put key_cmp k v (drop i es) ≡ (e.0, v) ∷ drop (i + 1) es = rw (split, equal) refl in
    slice_set-split es i (old.0, v) lt ∙ rw same refl ∙ sym (passed ∙ ap (λ (x : Pairs). take i es ++ x) here)

-- every key up to i comes before k
pub record HasPassed (k : Key) (es : Pairs) (i : ℕ) : Type 0 where
  pub puts : (v : Option Cell) → put key_cmp k v es ≡ take i es ++ put key_cmp k v (drop i es)
  pub finds : find key_cmp k es ≡ find key_cmp k (drop i es)

-- every key from i on comes after k
abbrev pub IsAhead : Key → Pairs → ℕ → Type 0
IsAhead k es i = T (below_all key_cmp k (drop i es))

first : (a b : Bool) → T (a && b) → T a
first true b p = tt
first false b p = p

second : (a b : Bool) → T (a && b) → T b
second true b p = p
second false b p = absurd p

both : (a b : Bool) → T a → T b → T (a && b)
both true b p q = q
both false b p q = p

less : (o : Ordering) → T (is_lt o) → o ≡ Less
less Less p = refl
less Equal p = absurd p
less Greater p = absurd p

is_less : (o : Ordering) → o ≡ Less → T (is_lt o)
is_less o e = rw e tt

-- ---- what the order of the list says of its places

below_at : (x : Key) (es : Pairs) (i : ℕ) (e : Key × Option Cell) → T (below_all key_cmp x es) → i < length es → e ≡ get_or es i e → key_cmp x e.0 ≡ Less
below_at x [] i e h lt is = absurd (omega arith)
below_at x (f ∷ fs) zero e h lt is = rw is (less (key_cmp x f.0) (first _ _ h))
below_at x (f ∷ fs) (suc i) e h lt is = below_at x fs i e (second _ _ h) (omega arith) is

above : (x k e : Key) → key_cmp x e ≡ Less → key_cmp k e ≡ Greater → key_cmp k x ≡ Greater
above x k e less_e greater =
    let e_k : key_cmp e k ≡ Less = key_cmp-total.antisymm e k ∙ ap ordering_reverse greater in
    let x_k : key_cmp x k ≡ Less = key_cmp-total.trans x e k less_e e_k in
    key_cmp-total.antisymm k x ∙ ap ordering_reverse x_k

-- the key at i doesn't come after k
pub record IsUpto (k e : Key) : Type 0 where
  pub above_lower : (x : Key) → key_cmp x e ≡ Less → key_cmp k x ≡ Greater

pub upto_greater : (k e : Key) → key_cmp k e ≡ Greater → IsUpto k e
upto_greater k e g = record { above_lower = λ x l. above x k e l g }

pub upto_equal : (k e : Key) → key_cmp k e ≡ Equal → IsUpto k e
upto_equal k e q =
    let same : k ≡ e = key_cmp-same k e q in
    record { above_lower = λ x l. let x_k : key_cmp x k ≡ Less = rw same l in key_cmp-total.antisymm k x ∙ ap ordering_reverse x_k }

pub passed_before : (k : Key) (es : Pairs) (i : ℕ) (e : Key × Option Cell) → T (is_sorted key_cmp es) → i < length es → e ≡ get_or es i e → IsUpto k e.0 → HasPassed k es i
passed_before k [] i e s lt is up = absurd (omega arith)
passed_before k (f ∷ fs) zero e s lt is up = record { puts = λ v. refl; finds = refl }
passed_before k (f ∷ fs) (suc i) e s lt is up =
    let greater : key_cmp k f.0 ≡ Greater = up.above_lower f.0 (below_at f.0 fs i e (first _ _ s) (omega arith) is) in
    let others : HasPassed k fs i = passed_before k fs i e (second _ _ s) (omega arith) is up in
    record {
      puts = λ v. rw greater (ap (λ (x : Pairs). f ∷ x) (others.puts v));
      finds = rw greater others.finds;
    }

below_past : (es : Pairs) (i : ℕ) (e : Key × Option Cell) → T (is_sorted key_cmp es) → i < length es → e ≡ get_or es i e → T (below_all key_cmp e.0 (drop (suc i) es))
below_past [] i e s lt is = absurd (omega arith)
below_past (f ∷ fs) zero e s lt is = rw is (first _ _ s)
below_past (f ∷ fs) (suc i) e s lt is = below_past fs i e (second _ _ s) (omega arith) is

below_less : (x y : Key) (es : Pairs) → key_cmp x y ≡ Less → T (below_all key_cmp y es) → T (below_all key_cmp x es)
below_less x y [] p h = tt
below_less x y (e ∷ es) p h =
    both _ _ (is_less _ (key_cmp-total.trans x y e.0 p (less _ (first _ _ h)))) (below_less x y es p (second _ _ h))

pub ahead : (k : Key) (es : Pairs) (i : ℕ) (e : Key × Option Cell) → T (is_sorted key_cmp es) → i < length es → e ≡ get_or es i e → key_cmp k e.0 ≡ Less → IsAhead k es i
ahead k es i e s lt is l =
    let split : drop i es ≡ e ∷ drop (i + 1) es = rw is (drop_more es i e lt) in
    let past : T (below_all key_cmp e.0 (drop (i + 1) es)) = rw add-one (below_past es i e s lt is) in
    rw split (both _ _ (is_less _ l) (below_less k e.0 (drop (i + 1) es) l past))

put_ahead : (k : Key) (v : Option Cell) (es : Pairs) → T (below_all key_cmp k es) → put key_cmp k v es ≡ (k, v) ∷ es
put_ahead k v [] h = refl
put_ahead k v (e ∷ es) h = rw (less (key_cmp k e.0) (first _ _ h)) refl

find_ahead : (k : Key) (es : Pairs) → T (below_all key_cmp k es) → find key_cmp k es ≡ None
find_ahead k [] h = refl
find_ahead k (e ∷ es) h = rw (less (key_cmp k e.0) (first _ _ h)) (find_ahead k es (second _ _ h))

-- ---- the search

pub passed_none : (k : Key) (es : Pairs) → HasPassed k es 0
passed_none k es = record { puts = λ v. refl; finds = refl }

pub ahead_none : (k : Key) (es : Pairs) (i : ℕ) → length es ≤ i → IsAhead k es i
ahead_none k es i le = rw (drop_all i es le) tt

pub goes_on : (k : Key) (es : Pairs) (i : ℕ) (e : Key × Option Cell) → T (is_sorted key_cmp es) → i < length es → e ≡ get_or es i e → key_cmp k e.0 ≡ Greater → HasPassed k es (i + 1)
goes_on k es i e s lt is greater =
    let passed = passed_before k es i e s lt is (upto_greater k e.0 greater) in
    let split : drop i es ≡ e ∷ drop (i + 1) es = rw is (drop_more es i e lt) in
    let more : take (i + 1) es ≡ take i es ++ e ∷ [] = rw is (take_more es i e lt) in
    record {
      puts = λ v.
          let here : put key_cmp k v (drop i es) ≡ e ∷ put key_cmp k v (drop (i + 1) es) = rw (split, greater) refl in
          passed.puts v ∙ rw (here, more) (sym (append_assoc (take i es) (e ∷ []) (put key_cmp k v (drop (i + 1) es))));
      finds = passed.finds ∙ rw (split, greater) refl;
    }

pub stands_at : (k : Key) (es : Pairs) (i : ℕ) (e : Key × Option Cell) → T (is_sorted key_cmp es) → i < length es → e ≡ get_or es i e → key_cmp k e.0 ≡ Equal → StandsAt k es i
stands_at k es i e s lt is equal =
    let passed = passed_before k es i e s lt is (upto_equal k e.0 equal) in
    let split : drop i es ≡ e ∷ drop (i + 1) es = rw is (drop_more es i e lt) in
    record {
      within = lt;
      replaced = λ v. sym (put_equal k v es i e (k, v) lt is (key_cmp-same k e.0 equal) equal (passed.puts v));
      found = λ f is_f. passed.finds ∙ rw (split, equal) (ap (λ (p : Key × Option Cell). Some p.1) (is ∙ sym (is_f ∙ read_any es i f e lt)));
    }

pub goes_at : (k : Key) (es : Pairs) (i : ℕ) → i ≤ length es → HasPassed k es i → IsAhead k es i → GoesAt k es i
goes_at k es i le passed h = record {
  within = le;
  inserted = λ v. passed.puts v ∙ ap (λ (x : Pairs). take i es ++ x) (put_ahead k v (drop i es) h);
  absent = passed.finds ∙ find_ahead k (drop i es) h;
}

-- what a comparison with the pair at i says of the pair
pub compared : (k : Key) (es : Pairs) (i : ℕ) (e : Key × Option Cell) (o : Ordering) → e ≡ get_or es i e → key_cmp k (get_or es i e).0 ≡ o → key_cmp k e.0 ≡ o
compared k es i e o is h = ap (λ (x : Key × Option Cell). key_cmp k x.0) is ∙ h

-- past the last key
pub goes_last : (k : Key) (es : Pairs) (e : Key × Option Cell) → T (is_sorted key_cmp es) → 0 < length es → e ≡ get_or es (length es - 1) e → key_cmp k e.0 ≡ Greater → GoesAt k es (length es)
goes_last k es e s some is greater =
    let n : length es - 1 + 1 ≡ length es = omega arith in
    let passed : HasPassed k es (length es) = subst (λ (i : ℕ). HasPassed k es i) n (goes_on k es (length es - 1) e s (omega arith) is greater) in
    goes_at k es (length es) (omega arith) passed (ahead_none k es (length es) (omega arith))

pub in_order : (es : Pairs) → IsTrue (is_sorted key_cmp es) → T (is_sorted key_cmp es)
in_order es h = rw h tt

true_from : (b : Bool) → T b → b ≡ true
true_from true h = refl
true_from false h = absurd h

sorted-put : (k : Key) (v : Option Cell) (es : Pairs) → IsTrue (is_sorted key_cmp es) → IsTrue (is_sorted key_cmp (put key_cmp k v es))
sorted-put k v es h = true_from (is_sorted key_cmp (put key_cmp k v es)) (is_sorted-put key_cmp key_cmp-total k v es (rw h tt))

pub put_sorted : (k : Key) (v : Option Cell) (old new : Pairs) (r : Result (Unit {0}) Memory) → OnOk r (new ≡ put key_cmp k v old) → OnErr r (new ≡ old) → IsTrue (is_sorted key_cmp old) → IsTrue (is_sorted key_cmp new)
put_sorted k v old new (Ok u) ok err h = rw ok (sorted-put k v old h)
put_sorted k v old new (Err m) ok err h = rw err h
