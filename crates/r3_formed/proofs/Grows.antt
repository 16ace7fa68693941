-- Versions that stand for a history stand for it with one more entry once its writes are installed.
use Rattle.std.proofs.Common.{◌≡◌, ℕ, ◌+◌, ◌≤◌, List, [], ◌∷◌, ◌++◌, length, take, fold, Option, Some, None, refl, sym, ap, subst, ◌∙◌, arith, cond, true, false, Bool, length-append, nat_lt, unwrap_or, suc}
use Rattle.std.specs.Prelude.{T, ◌||◌, ◌&&◌, nat_le}
use Rattle.std.specs.List.{AllByRecursion, list_any, enumerate_from}
use Rattle.std.proofs.lemmas.List.{take-append-le, take_all}
use Rattle.std.proofs.lemmas.List.Sums.{fold_push}
use Rattle.std.proofs.lemmas.Bool.Decides.{nat_tests}
use Rattle.std.specs.Ordering.{eq_by_cmp}
use Rattle.std.specs.FinMap.Entries.{put, is_sorted}
use Rattle.r3_rows.specs.declared.rows.Key.{Key}
use Rattle.r3_rows.specs.declared.rows.Cell.{Cell}
use Rattle.r3_entry.specs.declared.entry.Entry.{Entry}
use Rattle.r3_rows.specs.Keys.{key_cmp}
use Rattle.r3_entry.specs.History.{map_at, writes_key, after_entry, Map}
use Rattle.r3_chain.specs.Versions.{Versions, Version, versions_of, installed, as_of, first_past, AreFalling, trimmed_all}
use Rattle.r3_chain.specs.VersionLaws.{as_of-installed, sorted_installed, versions_of-installed, sorted_trimmed, as_of-trimmed, first_past-trimmed, versions_of-trimmed, all_trimmed, falling_trimmed}
use Rattle.r3_rows.specs.KeyOrder.{key_cmp-total, key_cmp-same}
use Rattle.r3_formed.specs.Past.{StandFor, all_installed, first_from, first_write}
use Rattle.r3_formed.proofs.Capacity.{kept_all, kept_trimmed, writes_push}

abbrev Writes : Type 0
Writes = List (Key × Option Cell)

abbrev VS : Type 0
VS = Versions Key Cell

-- the writes of entry j, put into a map
abbrev put_all : ℕ → Map → Writes → Map
put_all j m ws = fold (λ m w. put key_cmp w.0 (j, w.1) m) m ws

sorted_all : (j : ℕ) (ws : Writes) (es : VS) → T (is_sorted key_cmp es) → T (is_sorted key_cmp (all_installed j ws es))
sorted_all j [] es h = h
sorted_all j (w ∷ ws) es h = sorted_all j ws (installed key_cmp j w.0 w.1 es) (sorted_installed key_cmp key_cmp-total j w.0 w.1 es h)

as_of_within : (k j : ℕ) (ws : Writes) (es : VS) → nat_le j k ≡ true → T (is_sorted key_cmp es) → as_of k (all_installed j ws es) ≡ put_all j (as_of k es) ws
as_of_within k j [] es le h = refl
as_of_within k j (w ∷ ws) es le h =
    as_of_within k j ws (installed key_cmp j w.0 w.1 es) le (sorted_installed key_cmp key_cmp-total j w.0 w.1 es h)
    ∙ ap (λ (m : Map). put_all j m ws) (as_of-installed key_cmp key_cmp-total key_cmp-same k j w.0 w.1 es h ∙ ap (λ b. cond b (put key_cmp w.0 (j, w.1) (as_of k es)) (as_of k es)) le)

as_of_before : (k j : ℕ) (ws : Writes) (es : VS) → nat_le j k ≡ false → T (is_sorted key_cmp es) → as_of k (all_installed j ws es) ≡ as_of k es
as_of_before k j [] es le h = refl
as_of_before k j (w ∷ ws) es le h =
    as_of_before k j ws (installed key_cmp j w.0 w.1 es) le (sorted_installed key_cmp key_cmp-total j w.0 w.1 es h)
    ∙ as_of-installed key_cmp key_cmp-total key_cmp-same k j w.0 w.1 es h ∙ ap (λ b. cond b (put key_cmp w.0 (j, w.1) (as_of k es)) (as_of k es)) le

enumerate_push : (j : ℕ) (h : List Entry) (e : Entry) → enumerate_from j (h ++ e ∷ []) ≡ enumerate_from j h ++ (j + length h, e) ∷ []
enumerate_push j [] e = ap (λ (n : ℕ). (n, e) ∷ []) (let z : j ≡ j + 0 = omega arith in z)
enumerate_push j (x ∷ xs) e =
    ap (λ (r : List (ℕ × Entry)). (j, x) ∷ r) (enumerate_push (j + 1) xs e
    ∙ ap (λ (n : ℕ). enumerate_from (j + 1) xs ++ (n, e) ∷ []) (let z : j + 1 + length xs ≡ j + suc (length xs) = omega arith in z))

map_push : (h : List Entry) (e : Entry) → fold after_entry [] (enumerate_from 1 (h ++ e ∷ [])) ≡ put_all (length h + 1) (fold after_entry [] (enumerate_from 1 h)) e.writes
map_push h e =
    ap (fold after_entry []) (enumerate_push 1 h e) ∙ fold_push after_entry [] (enumerate_from 1 h) (1 + length h, e)
    ∙ ap (λ (n : ℕ). put_all n (fold after_entry [] (enumerate_from 1 h)) e.writes) (let z : 1 + length h ≡ length h + 1 = omega arith in z)

grown_map : (k : ℕ) (h : List Entry) (e : Entry) (es : VS) → T (is_sorted key_cmp es) → as_of k es ≡ map_at h k → as_of k (all_installed (length h + 1) e.writes es) ≡ map_at (h ++ e ∷ []) k
grown_map k h e es sorted same =
    elim (nat_le (length h + 1) k) as (λ b. nat_le (length h + 1) k ≡ b → as_of k (all_installed (length h + 1) e.writes es) ≡ map_at (h ++ e ∷ []) k) [
      | true ↦ λ le.
          let long : length h + 1 ≤ k = grind (arith, nat_tests) in
          let whole : take k (h ++ e ∷ []) ≡ h ++ e ∷ [] = take_all k (h ++ e ∷ []) (omega (arith, length-append h (e ∷ []))) in
          let old : take k h ≡ h = take_all k h (omega arith) in
          as_of_within k (length h + 1) e.writes es le sorted
          ∙ ap (λ (m : Map). put_all (length h + 1) m e.writes) (same ∙ ap (λ (x : List Entry). fold after_entry [] (enumerate_from 1 x)) old)
          ∙ sym (map_push h e) ∙ ap (λ (x : List Entry). fold after_entry [] (enumerate_from 1 x)) (sym whole)
      | false ↦ λ le.
          let short : k ≤ length h = grind (arith, nat_tests) in
          as_of_before k (length h + 1) e.writes es le sorted ∙ same
          ∙ ap (λ (x : List Entry). fold after_entry [] (enumerate_from 1 x)) (sym (take-append-le k h (e ∷ []) short))
    ] refl

-- one more version of a key, past the snapshot or not
abbrev one_more : ℕ → ℕ → Option ℕ → Option ℕ
one_more j snap f = cond (nat_le j snap) f (Some (unwrap_or f j))

twice : (j snap : ℕ) (f : Option ℕ) → one_more j snap (one_more j snap f) ≡ one_more j snap f
twice j snap f = elim (nat_le j snap) as (λ b. cond b (cond b f (Some (unwrap_or f j))) (Some (unwrap_or (cond b f (Some (unwrap_or f j))) j)) ≡ cond b f (Some (unwrap_or f j))) [ true ↦ refl | false ↦ refl ]

grown_past : (j snap : ℕ) (q : Key) (ws : Writes) (es : VS)
    → first_past snap (versions_of key_cmp q (all_installed j ws es)) ≡ cond (list_any (λ w. eq_by_cmp key_cmp q w.0) ws) (one_more j snap (first_past snap (versions_of key_cmp q es))) (first_past snap (versions_of key_cmp q es))
grown_past j snap q [] es = refl
grown_past j snap q (w ∷ ws) es =
    let f : Option ℕ = first_past snap (versions_of key_cmp q es) in
    grown_past j snap q ws (installed key_cmp j w.0 w.1 es)
    ∙ ap (λ (vs : List (Version Cell)). cond (list_any (λ w. eq_by_cmp key_cmp q w.0) ws) (one_more j snap (first_past snap vs)) (first_past snap vs)) (versions_of-installed key_cmp key_cmp-total q w.0 j w.1 es)
    ∙ elim (eq_by_cmp key_cmp q w.0) as (λ b. cond (list_any (λ w. eq_by_cmp key_cmp q w.0) ws) (one_more j snap (first_past snap (cond b ((j, w.1) ∷ versions_of key_cmp q es) (versions_of key_cmp q es)))) (first_past snap (cond b ((j, w.1) ∷ versions_of key_cmp q es) (versions_of key_cmp q es)))
    ≡ cond (b || list_any (λ w. eq_by_cmp key_cmp q w.0) ws) (one_more j snap f) f) [
      | true ↦ elim (list_any (λ w. eq_by_cmp key_cmp q w.0) ws) as (λ a. cond a (one_more j snap (one_more j snap f)) (one_more j snap f) ≡ one_more j snap f) [ true ↦ twice j snap f | false ↦ refl ]
      | false ↦ refl
    ]

abbrev or_else : Option ℕ → Option ℕ → Option ℕ
or_else None b = b
or_else (Some i) b = Some i

first_push : (j snap : ℕ) (q : Key) (h : List Entry) (e : Entry)
    → first_from j snap q (h ++ e ∷ []) ≡ or_else (first_from j snap q h) (cond (nat_lt snap (j + length h) && writes_key e q) (Some (j + length h)) None)
first_push j snap q [] e = ap (λ (n : ℕ). cond (nat_lt snap n && writes_key e q) (Some n) None) (let z : j ≡ j + 0 = omega arith in z)
first_push j snap q (x ∷ xs) e =
    elim (nat_lt snap j && writes_key x q) as (λ b. cond b (Some j) (first_from (j + 1) snap q (xs ++ e ∷ [])) ≡ or_else (cond b (Some j) (first_from (j + 1) snap q xs)) (cond (nat_lt snap (j + suc (length xs)) && writes_key e q) (Some (j + suc (length xs))) None)) [
      | true ↦ refl
      | false ↦ first_push (j + 1) snap q xs e
          ∙ ap (λ (n : ℕ). or_else (first_from (j + 1) snap q xs) (cond (nat_lt snap n && writes_key e q) (Some n) None)) (let z : j + 1 + length xs ≡ j + suc (length xs) = omega arith in z)
    ]

or_none : (f : Option ℕ) → f ≡ or_else f None
or_none None = refl
or_none (Some i) = refl

or_some : (f : Option ℕ) (j : ℕ) → Some (unwrap_or f j) ≡ or_else f (Some j)
or_some None j = refl
or_some (Some i) j = refl

joined : (j snap : ℕ) (f : Option ℕ) (w : Bool) → cond w (one_more j snap f) f ≡ or_else f (cond (nat_lt snap j && w) (Some j) None)
joined j snap f false = or_none f ∙ elim (nat_lt snap j) as (λ b. or_else f None ≡ or_else f (cond (b && false) (Some j) None)) [ true ↦ refl | false ↦ refl ]
joined j snap f true =
    elim (nat_le j snap) as (λ b. nat_le j snap ≡ b → cond b f (Some (unwrap_or f j)) ≡ or_else f (cond (nat_lt snap j && true) (Some j) None)) [
      | true ↦ λ le. let lt : nat_lt snap j ≡ false = grind (arith, nat_tests) in or_none f ∙ ap (λ b. or_else f (cond (b && true) (Some j) None)) (sym lt)
      | false ↦ λ le. let lt : nat_lt snap j ≡ true = grind (arith, nat_tests) in or_some f j ∙ ap (λ b. or_else f (cond (b && true) (Some j) None)) (sym lt)
    ] refl

grown_first : (h : List Entry) (e : Entry) (es : VS) (snap : ℕ) (q : Key) → first_past snap (versions_of key_cmp q es) ≡ first_write h snap q
    → first_past snap (versions_of key_cmp q (all_installed (length h + 1) e.writes es)) ≡ first_write (h ++ e ∷ []) snap q
grown_first h e es snap q same =
    grown_past (length h + 1) snap q e.writes es
    ∙ joined (length h + 1) snap (first_past snap (versions_of key_cmp q es)) (writes_key e q)
    ∙ ap (λ (f : Option ℕ). or_else f (cond (nat_lt snap (length h + 1) && writes_key e q) (Some (length h + 1)) None)) same
    ∙ ap (λ (n : ℕ). or_else (first_write h snap q) (cond (nat_lt snap n && writes_key e q) (Some n) None)) (let z : length h + 1 ≡ 1 + length h = omega arith in z)
    ∙ sym (first_push 1 snap q h e)

weaken_all : (n m : ℕ) (vs : List (Version Cell)) → n ≤ m → AllByRecursion (λ v. v.0 ≤ n) vs → AllByRecursion (λ v. v.0 ≤ m) vs
weaken_all n m [] le h = tt
weaken_all n m (v ∷ vs) le h = (let first : v.0 ≤ n = h.0 in omega arith, weaken_all n m vs le h.1)

grown_numbers : (m j : ℕ) (ws : Writes) (es : VS) → j ≤ m → ((q : Key) → AllByRecursion (λ v. v.0 ≤ m) (versions_of key_cmp q es)) → (q : Key) → AllByRecursion (λ v. v.0 ≤ m) (versions_of key_cmp q (all_installed j ws es))
grown_numbers m j [] es le h q = h q
grown_numbers m j (w ∷ ws) es le h q =
    grown_numbers m j ws (installed key_cmp j w.0 w.1 es) le
    (λ p. subst (AllByRecursion (λ v. v.0 ≤ m)) (sym (versions_of-installed key_cmp key_cmp-total p w.0 j w.1 es))
    (elim (eq_by_cmp key_cmp p w.0) as (λ b. AllByRecursion (λ v. v.0 ≤ m) (cond b ((j, w.1) ∷ versions_of key_cmp p es) (versions_of key_cmp p es))) [ true ↦ (le, h p) | false ↦ h p ])) q

grown_falling : (j : ℕ) (ws : Writes) (es : VS) → ((q : Key) → AllByRecursion (λ v. v.0 ≤ j) (versions_of key_cmp q es)) → ((q : Key) → AreFalling (versions_of key_cmp q es)) → (q : Key) → AreFalling (versions_of key_cmp q (all_installed j ws es))
grown_falling j [] es small h q = h q
grown_falling j (w ∷ ws) es small h q =
    grown_falling j ws (installed key_cmp j w.0 w.1 es) (grown_numbers j j (w ∷ []) es (omega arith) small)
    (λ p. subst AreFalling (sym (versions_of-installed key_cmp key_cmp-total p w.0 j w.1 es))
    (elim (eq_by_cmp key_cmp p w.0) as (λ b. AreFalling (cond b ((j, w.1) ∷ versions_of key_cmp p es) (versions_of key_cmp p es))) [ true ↦ (small p, h p) | false ↦ h p ])) q

-- versions that are trimmed stand for the same history, from a later index on
pub trimmed_stands : (es : VS) (h : List Entry) (oldest later : ℕ) → oldest ≤ later → StandFor es h oldest → StandFor (trimmed_all later es) h later
trimmed_stands es h oldest later le stand = record {
  sorted = sorted_trimmed key_cmp later es stand.sorted;
  maps = λ k from. as_of-trimmed later k es from ∙ stand.maps k (omega arith);
  past = λ snap q from. ap (first_past snap) (versions_of-trimmed key_cmp later q es)
      ∙ first_past-trimmed later snap (versions_of key_cmp q es) from (stand.falling q) ∙ stand.past snap q (omega arith);
  numbers = λ q. subst (AllByRecursion (λ v. v.0 ≤ length h)) (sym (versions_of-trimmed key_cmp later q es)) (all_trimmed (length h) later (versions_of key_cmp q es) (stand.numbers q));
  falling = λ q. subst AreFalling (sym (versions_of-trimmed key_cmp later q es)) (falling_trimmed later (versions_of key_cmp q es) (stand.falling q));
  kept = omega (arith, stand.kept, kept_trimmed later es);
}

pub grown : (es : VS) (h : List Entry) (e : Entry) (oldest : ℕ) → StandFor es h oldest → StandFor (all_installed (length h + 1) e.writes es) (h ++ e ∷ []) oldest
grown es h e oldest stand = record {
  sorted = sorted_all (length h + 1) e.writes es stand.sorted;
  maps = λ k le. grown_map k h e es stand.sorted (stand.maps k le);
  past = λ snap q le. grown_first h e es snap q (stand.past snap q le);
  numbers = λ q. grown_numbers (length (h ++ e ∷ [])) (length h + 1) e.writes es (omega (arith, length-append h (e ∷ [])))
      (λ p. weaken_all (length h) (length (h ++ e ∷ [])) (versions_of key_cmp p es) (omega (arith, length-append h (e ∷ []))) (stand.numbers p)) q;
  falling = grown_falling (length h + 1) e.writes es (λ p. weaken_all (length h) (length h + 1) (versions_of key_cmp p es) (omega arith) (stand.numbers p)) stand.falling;
  kept = omega (arith, stand.kept, kept_all (length h + 1) e.writes es stand.sorted, writes_push h e);
}
