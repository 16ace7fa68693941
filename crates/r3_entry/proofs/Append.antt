-- What one more entry changes.
use Rattle.std.proofs.Common.{◌≡◌, ℕ, suc, ◌+◌, ◌≤◌, ◌<◌, zero, inl, inr, ◌↔◌, add-one, Bool, true, false, cond, ◌||◌, List, [], ◌∷◌, ◌++◌, length, take, Option, Some, refl, ap, ◌∙◌, arith, length-append}
use Rattle.std.specs.Prelude.{fold}
use Rattle.std.specs.Option.{option_map_or}
use Rattle.std.specs.List.{enumerate_from, list_any}
use Rattle.std.specs.Ordering.{eq_by_cmp}
use Rattle.std.specs.FinMap.{find}
use Rattle.std.specs.FinMap.Entries.{put, find-put}
use Rattle.std.specs.Prelude.{slice_get}
use Rattle.std.proofs.lemmas.Option.{get_or_from_slice_get, slice_get_within, slice_get_cases}
use Rattle.std.proofs.lemmas.List.{take_all, take-append-le, take_more, length-take}
use Rattle.std.proofs.lemmas.List.Sums.{fold_push}
use Rattle.r3_rows.specs.declared.rows.Key.{Key}
use Rattle.std.proofs.lemmas.Bool.{cases_lt}
use Rattle.r3_rows.specs.declared.rows.Cell.{Cell}
use Rattle.r3_entry.specs.declared.entry.Entry.{Entry}
use Rattle.r3_rows.specs.Keys.{key_cmp}
use Rattle.r3_entry.specs.History.{Write, Map, after_entry, map_at, version_at, writes_key}
use Rattle.r3_rows.specs.KeyOrder.{key_cmp-total}

enumerate_from-push : (n : ℕ) (h : List Entry) (e : Entry) → enumerate_from n (h ++ e ∷ []) ≡ enumerate_from n h ++ (n + length h, e) ∷ []
enumerate_from-push n [] e = let z : n ≡ n + 0 = omega arith in ap (λ (k : ℕ). (k, e) ∷ []) z
enumerate_from-push n (x ∷ xs) e =
    let z : (n + 1) + length xs ≡ n + suc (length xs) = omega arith in
    rw (enumerate_from-push (n + 1) xs e, z) refl

pub map_at-push : (h : List Entry) (e : Entry) → map_at (h ++ e ∷ []) (length h + 1) ≡ after_entry (map_at h (length h)) (1 + length h, e)
map_at-push h e =
    let all : take (length h + 1) (h ++ e ∷ []) ≡ h ++ e ∷ [] = take_all (length h + 1) (h ++ e ∷ []) (omega (arith, length-append h (e ∷ []))) in
    let old : take (length h) h ≡ h = take_all (length h) h (omega arith) in
    rw (all, old, enumerate_from-push 1 h e) (fold_push after_entry [] (enumerate_from 1 h) (1 + length h, e))

-- what stood before stays
pub map_at-before : (h : List Entry) (e : Entry) (k : ℕ) → k ≤ length h → map_at (h ++ e ∷ []) k ≡ map_at h k
map_at-before h e k le = ap (λ (x : List Entry). fold after_entry [] (enumerate_from 1 x)) (take-append-le k h (e ∷ []) le)

abbrev version_of : Option Write → ℕ
version_of o = option_map_or (λ w. w.0) o 0

by_cases : (a b : Bool) (j : ℕ) (c : Option Cell) (o : Option Write) → cond b j (version_of (cond a (Some (j, c)) o)) ≡ cond (a || b) j (version_of o)
by_cases true true j c o = refl
by_cases true false j c o = refl
by_cases false b j c o = refl

version_of-writes : (ws : List (Key × Option Cell)) (m : Map) (j : ℕ) (q : Key)
    → version_of (find key_cmp q (fold (λ m w. put key_cmp w.0 (j, w.1) m) m ws)) ≡ cond (list_any (λ w. eq_by_cmp key_cmp q w.0) ws) j (version_of (find key_cmp q m))
version_of-writes [] m j q = refl
version_of-writes (w ∷ ws) m j q =
    version_of-writes ws (put key_cmp w.0 (j, w.1) m) j q
    ∙ ap (λ (o : Option Write). cond (list_any (λ w. eq_by_cmp key_cmp q w.0) ws) j (version_of o)) (find-put key_cmp key_cmp-total q w.0 (j, w.1) m)
    ∙ by_cases (eq_by_cmp key_cmp q w.0) (list_any (λ w. eq_by_cmp key_cmp q w.0) ws) j w.1 (find key_cmp q m)

-- the version of a key after one more entry
pub version_at-push : (h : List Entry) (e : Entry) (q : Key) → version_at (h ++ e ∷ []) (length h + 1) q ≡ cond (writes_key e q) (1 + length h) (version_at h (length h) q)
version_at-push h e q =
    ap (λ (m : Map). version_of (find key_cmp q m)) (map_at-push h e) ∙ version_of-writes e.writes (map_at h (length h)) (1 + length h) q

-- ---- in the middle of a history

take_next : (h : List Entry) (k : ℕ) (e : Entry) → slice_get h k ≡ Some e → take (k + 1) h ≡ take k h ++ e ∷ []
take_next h k e is =
    take_more h k e (slice_get_within h k e is) ∙ ap (λ (x : Entry). take k h ++ x ∷ []) (get_or_from_slice_get h k e e is)

pub map_at-next : (h : List Entry) (k : ℕ) (e : Entry) → slice_get h k ≡ Some e → map_at h (k + 1) ≡ after_entry (map_at h k) (1 + k, e)
map_at-next h k e is =
    let n : length (take k h) ≡ k = omega (arith, length-take k h, slice_get_within h k e is) in
    rw (take_next h k e is, enumerate_from-push 1 (take k h) e, n) (fold_push after_entry [] (enumerate_from 1 (take k h)) (1 + k, e))

pub version_at-next : (h : List Entry) (k : ℕ) (e : Entry) (q : Key) → slice_get h k ≡ Some e → version_at h (k + 1) q ≡ cond (writes_key e q) (1 + k) (version_at h k q)
version_at-next h k e q is =
    ap (λ (m : Map). version_of (find key_cmp q m)) (map_at-next h k e is) ∙ version_of-writes e.writes (map_at h k) (1 + k) q

-- ---- a version up to s says that no entry past s wrote the key

cond_le : (b : Bool) (k v s : ℕ) → s ≤ k → cond b (1 + k) v ≤ s → (b ≡ false) × (v ≤ s)
cond_le true k v s le h = absurd (omega arith)
cond_le false k v s le h = (refl, h)

version_unwritten : (h : List Entry) (q : Key) (s k : ℕ) → k ≤ length h → version_at h k q ≤ s → (i : ℕ) (e : Entry) → s ≤ i → i < k → slice_get h i ≡ Some e → writes_key e q ≡ false
version_unwritten h q s zero le v i e si ik is = absurd (omega arith)
version_unwritten h q s (suc k) le v i e si ik is =
    elim (slice_get_cases h k).1 [
      | inr past ↦ absurd (omega (arith, past.0))
      | inl at ↦
          let next : version_at h (suc k) q ≡ cond (writes_key at.0 q) (1 + k) (version_at h k q) = rw (← add-one k) (version_at-next h k at.0 q at.2) in
          elim (cases_lt i k) [
            | inl lt ↦ version_unwritten h q s k (omega arith) (cond_le (writes_key at.0 q) k (version_at h k q) s (omega arith) (rw (← next) v)).1 i e si lt is
            | inr ge ↦
                let here : i ≡ k = omega arith in
                let one : e ≡ at.0 = cc in
                rw one (cond_le (writes_key at.0 q) k (version_at h k q) s (omega arith) (rw (← next) v)).0
          ]
    ]

cond_most : (b : Bool) (k v : ℕ) → v ≤ k → cond b (1 + k) v ≤ suc k
cond_most true k v h = omega arith
cond_most false k v h = omega arith

-- a version is the number of an entry so far
pub version_at_le : (h : List Entry) (q : Key) (k : ℕ) → k ≤ length h → version_at h k q ≤ k
version_at_le h q zero le = omega arith
version_at_le h q (suc k) le =
    elim (slice_get_cases h k).1 [
      | inr past ↦ absurd (omega (arith, past.0))
      | inl at ↦
          let next : version_at h (suc k) q ≡ cond (writes_key at.0 q) (1 + k) (version_at h k q) = rw (← add-one k) (version_at-next h k at.0 q at.2) in
          rw next (cond_most (writes_key at.0 q) k (version_at h k q) (version_at_le h q k (omega arith)))
    ]

version_quiet : (h : List Entry) (q : Key) (s k : ℕ) → k ≤ length h → ((i : ℕ) (e : Entry) → s ≤ i → i < k → slice_get h i ≡ Some e → writes_key e q ≡ false) → version_at h k q ≤ s
version_quiet h q s zero le none = omega arith
version_quiet h q s (suc k) le none =
    elim (slice_get_cases h k).1 [
      | inr past ↦ absurd (omega (arith, past.0))
      | inl at ↦
          elim (cases_lt k s) [
            | inl lt ↦ omega (arith, version_at_le h q (suc k) le)
            | inr ge ↦
                let next : version_at h (suc k) q ≡ cond (writes_key at.0 q) (1 + k) (version_at h k q) = rw (← add-one k) (version_at-next h k at.0 q at.2) in
                let unwritten = none k at.0 ge (omega arith) at.2 in
                let inner = version_quiet h q s k (omega arith) (λ i e si ik is. none i e si (omega arith) is) in
                rw (next, unwritten) inner
          ]
    ]

-- No entry past s wrote the key, exactly where its version is at most s.
pub version_at_le-unwritten : (h : List Entry) (q : Key) (s : ℕ) → (version_at h (length h) q ≤ s) ↔ ((i : ℕ) (e : Entry) → s ≤ i → slice_get h i ≡ Some e → writes_key e q ≡ false)
version_at_le-unwritten h q s = (
  λ v i e si is. version_unwritten h q s (length h) (omega arith) v i e si (slice_get_within h i e is) is,
  λ none. version_quiet h q s (length h) (omega arith) (λ i e si ik is. none i e si is),
)
