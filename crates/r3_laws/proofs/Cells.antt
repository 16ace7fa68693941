-- What holds of each write of a history holds of what stands in it, and a key that no later entry wrote has an early version.
use Rattle.std.proofs.Common.{◌≡◌, ℕ, suc, zero, ◌+◌, ◌-◌, ◌≤◌, Bool, true, false, cond, List, [], ◌∷◌, drop, take, length, Option, Some, None, refl, sym, subst, ap, ◌∙◌, arith}
use Rattle.std.specs.Prelude.{find, fold, slice_get, option_and_then}
use Rattle.std.specs.List.{AllByRecursion, enumerate_from, list_any}
use Rattle.std.specs.Ordering.{eq_by_cmp}
use Rattle.std.specs.FinMap.Entries.{put, find-put}
use Rattle.std.specs.FinMap.Entries as sorted_list
use Rattle.r3_rows.specs.declared.rows.Key.{Key}
use Rattle.r3_rows.specs.declared.rows.Cell.{Cell}
use Rattle.r3_entry.specs.declared.entry.Entry.{Entry}
use Rattle.r3_rows.specs.Keys.{key_cmp}
use Rattle.r3_entry.specs.History.{Write, Map, after_entry, map_at, cell_at, version_at}
use Rattle.r3_entry.proofs.Append.{version_at_le-unwritten}
use Rattle.r3_rows.specs.KeyOrder.{key_cmp-total, key_cmp-same}
use Rattle.r3_model.specs.Turns.{writer_past}
use Rattle.r3_laws.proofs.After.{tied}
use Rattle.r3_laws.proofs.Frame.{untouched}
use Rattle.r3_laws.proofs.OpenNow.{quiet, later}
use Rattle.r3_laws.proofs.Opens.{writes, mapped}
use Rattle.r3_laws.proofs.Overlap.{all-at, drop-at}

-- ---- a version

pub unwritten-since : (h : List Entry) (s : ℕ) (p : Key → Bool) (q : Key) → writer_past h s p ≡ None → p q ≡ true → version_at h (length h) q ≤ s
unwritten-since h s p q none passes =
    let all = quiet s p (1 + s) (drop s h) (omega arith) (later s p 1 s h (mapped (find (writes s p) (enumerate_from 1 h)) none)) in
    (version_at_le-unwritten h q s).1 (λ i e le at.
    let z : i ≡ (i - s) + s = omega arith in
    untouched p q e.writes passes (all-at (λ (x : Entry). list_any (λ (w : Key × Option Cell). p w.0) x.writes ≡ false) (drop s h) (i - s) e all (drop-at s (i - s) h ∙ ap (λ (j : ℕ). slice_get h j) (sym z) ∙ at)))

some-same : (a b : Write) → Some a ≡ Some b → a ≡ b
some-same a b is = cc

-- ---- what stands

module _ (A : Key × Option Cell → Type 0) where
  abbrev pub AllWrites : List Entry → Type 0
  AllWrites h = AllByRecursion (λ (e : Entry). AllByRecursion A e.writes) h

  abbrev pub Holds : Map → Type 0
  Holds m = (q : Key) (w : Write) → sorted_list.find key_cmp q m ≡ Some w → A (q, w.1)

  by_tie : (m : Map) (q : Key) (j : ℕ) (v : Key × Option Cell) (w : Write) (b : Bool) → eq_by_cmp key_cmp q v.0 ≡ b → Holds m → A v → cond b (Some (j, v.1)) (sorted_list.find key_cmp q m) ≡ Some w → A (q, w.1)
  by_tie m q j v w true is holds a found =
      let same : q ≡ v.0 = key_cmp-same q v.0 (tied (key_cmp q v.0) is) in
      let cell : v.1 ≡ w.1 = ap (λ (x : Write). x.1) (some-same (j, v.1) w found) in
      let Of : Key → Type 0 = λ k. A (k, w.1) in
      let On : Option Cell → Type 0 = λ c. A (v.0, c) in
      subst Of (sym same) (subst On cell a)
  by_tie m q j v w false is holds a found = holds q w found

  after-write : (m : Map) (j : ℕ) (v : Key × Option Cell) → Holds m → A v → Holds (put key_cmp v.0 (j, v.1) m)
  after-write m j v holds a q w found = by_tie m q j v w (eq_by_cmp key_cmp q v.0) refl holds a (sym (find-put key_cmp key_cmp-total q v.0 (j, v.1) m) ∙ found)

  after-writes : (m : Map) (j : ℕ) (ws : List (Key × Option Cell)) → Holds m → AllByRecursion A ws → Holds (fold (λ (m : Map) (w : Key × Option Cell). put key_cmp w.0 (j, w.1) m) m ws)
  after-writes m j [] holds all = holds
  after-writes m j (w ∷ ws) holds all = after-writes (put key_cmp w.0 (j, w.1) m) j ws (after-write m j w holds all.0) all.1

  after-all : (m : Map) (n : ℕ) (es : List Entry) → Holds m → AllWrites es → Holds (fold after_entry m (enumerate_from n es))
  after-all m n [] holds all = holds
  after-all m n (e ∷ es) holds all = after-all (after_entry m (n, e)) (n + 1) es (after-writes m n e.writes holds all.0) all.1

  pub take-all : (k : ℕ) (es : List Entry) → AllWrites es → AllWrites (take k es)
  take-all zero es all = tt
  take-all (suc k) [] all = tt
  take-all (suc k) (e ∷ es) all = (all.0, take-all k es all.1)

  some_cell : (q : Key) (o : Option Write) (c : Cell) → option_and_then (λ (w : Write). w.1) o ≡ Some c → ((w : Write) → o ≡ Some w → A (q, w.1)) → A (q, Some c)
  some_cell q None c is holds = absurd (let z : None ≡ Some c = is in cc)
  some_cell q (Some w) c is holds = let Of : Option Cell → Type 0 = λ x. A (q, x) in subst Of is (holds w refl)

  pub map-holds : (h : List Entry) (k : ℕ) → AllWrites h → Holds (map_at h k)
  map-holds h k all = after-all [] 1 (take k h) (λ q w found. absurd (let z : None ≡ Some w = found in cc)) (take-all k h all)

  pub cell-holds : (h : List Entry) (k : ℕ) (q : Key) (c : Cell) → AllWrites h → cell_at h k q ≡ Some c → A (q, Some c)
  cell-holds h k q c all there =
      let holds : Holds (map_at h k) = after-all [] 1 (take k h) (λ q w found. absurd (let z : None ≡ Some w = found in cc)) (take-all k h all) in
      some_cell q (sorted_list.find key_cmp q (map_at h k)) c there (λ w found. holds q w found)
