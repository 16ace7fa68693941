-- The places of the running workflows rise.
use Rattle.std.proofs.Common.{◌≡◌, ℕ, ◌<◌, ◌≤◌, Bool, true, false, cond, List, [], ◌∷◌, map, filter, refl, arith}
use Rattle.std.specs.Prelude.{if◌then◌else◌, nat_le}
use Rattle.std.specs.List.{AllByRecursion}
use Rattle.std.specs.List.Sorted.{IsStrictlySortedBy}
use Rattle.std.specs.Ordering.{nat_cmp, ordering_then, is_lt, MatchOrdering}
use Rattle.std.specs.Cmp.{ranks}
use Rattle.std.specs.FinMap.Entries.{is_sorted, below_all}
use Rattle.std.specs.declared.cmp.Ordering.{Ordering}
use Rattle.std.specs.declared.cmp.Ordering.TheVariants.{Less, Equal, Greater}
use Rattle.sys_queue.specs.Lines.{Text, Place, bytes_cmp, place_cmp}
use Rattle.sys_queue.specs.Rows.{Rows, is_pending}
use Rattle.sys_pending.specs.Running.{Flow, placed, by_start, running}
use Rattle.sys_pending.specs.Index.{place_of}
use Rattle.sys_pending.specs.Moves.{AreRising}
use Rattle.sys_pending.proofs.Places.{places_total, parts, both, less, places}

below-placed : (id : Text) (f : Flow) (gs : Rows) → is_lt (bytes_cmp id f.0) ≡ true → below_all bytes_cmp id gs ≡ true → below_all bytes_cmp id (placed f gs) ≡ true
below-placed id f [] lt below = both (is_lt (bytes_cmp id f.0)) true lt refl
below-placed id f (g ∷ gs) lt below =
    let p = parts (is_lt (bytes_cmp id g.0)) (below_all bytes_cmp id gs) below in
    by_le (nat_le f.1.started g.1.started) p.0 (below-placed id f gs lt p.1) where
      by_le : (b : Bool) → is_lt (bytes_cmp id g.0) ≡ true → below_all bytes_cmp id (placed f gs) ≡ true → below_all bytes_cmp id (if b then f ∷ g ∷ gs else g ∷ placed f gs) ≡ true
      by_le true first more = both (is_lt (bytes_cmp id f.0)) (below_all bytes_cmp id (g ∷ gs)) lt below
      by_le false first more = both (is_lt (bytes_cmp id g.0)) (below_all bytes_cmp id (placed f gs)) first more

below-running : (id : Text) (rows : Rows) → below_all bytes_cmp id rows ≡ true → below_all bytes_cmp id (running rows) ≡ true
below-running id [] below = refl
below-running id (e ∷ es) below =
    let p = parts (is_lt (bytes_cmp id e.0)) (below_all bytes_cmp id es) below in
    by_status (is_pending e.1.status) p.0 (below-running id es p.1) where
      by_status : (b : Bool) → is_lt (bytes_cmp id e.0) ≡ true → below_all bytes_cmp id (running es) ≡ true
          → below_all bytes_cmp id (by_start (cond b (e ∷ filter (λ (f : Flow). is_pending f.1.status) es) (filter (λ (f : Flow). is_pending f.1.status) es))) ≡ true
      by_status true lt more = below-placed id e (running es) lt more
      by_status false lt more = more

module _ (A : Place → Type 0) where
  abbrev AllAt : Rows → Type 0
  AllAt gs = AllByRecursion A (map place_of gs)

  all-placed : (f : Flow) (gs : Rows) → A (place_of f) → AllAt gs → AllAt (placed f gs)
  all-placed f [] one all = (one, tt)
  all-placed f (g ∷ gs) one all = by_le (nat_le f.1.started g.1.started) (all-placed f gs one all.1) where
    by_le : (b : Bool) → AllAt (placed f gs) → AllAt (if b then f ∷ g ∷ gs else g ∷ placed f gs)
    by_le true more = (one, all)
    by_le false more = (all.0, more)

all-behind : (p q : Place) (ps : List Place) → place_cmp p q ≡ Less → AllByRecursion (λ (x : Place). place_cmp q x ≡ Less) ps → AllByRecursion (λ (x : Place). place_cmp p x ≡ Less) ps
all-behind p q [] lt all = tt
all-behind p q (x ∷ xs) lt all = (places_total.trans p q x lt all.0, all-behind p q xs lt all.1)

-- by the entries first, then by the IDs
by_number : (m n : ℕ) (c o : Ordering) → MatchOrdering c (m < n) (m ≡ n) (n < m) → m ≤ n → o ≡ Less → ordering_then c o ≡ Less
by_number m n Less o is le lt = refl
by_number m n Equal o is le lt = lt
by_number m n Greater o is le lt = absurd (omega (arith, is, le))

by_earlier : (m n : ℕ) (c o : Ordering) → MatchOrdering c (m < n) (m ≡ n) (n < m) → m < n → ordering_then c o ≡ Less
by_earlier m n Less o is lt = refl
by_earlier m n Equal o is lt = absurd (omega (arith, is, lt))
by_earlier m n Greater o is lt = absurd (omega (arith, is, lt))

le-of : (m n : ℕ) → nat_le m n ≡ true → m ≤ n
le-of m n is = grind arith

lt-of : (m n : ℕ) → nat_le m n ≡ false → n < m
lt-of m n is = grind arith

rising-placed : (f : Flow) (gs : Rows) → below_all bytes_cmp f.0 gs ≡ true → AreRising (map place_of gs) → AreRising (map place_of (placed f gs))
unfolding IsStrictlySortedBy
rising-placed f [] below rise = (tt, tt)
rising-placed f (g ∷ gs) below rise =
    let p = parts (is_lt (bytes_cmp f.0 g.0)) (below_all bytes_cmp f.0 gs) below in
    by_le (nat_le f.1.started g.1.started) refl p.0 (rising-placed f gs p.1 rise.1) where
      by_le : (b : Bool) → nat_le f.1.started g.1.started ≡ b → is_lt (bytes_cmp f.0 g.0) ≡ true → AreRising (map place_of (placed f gs)) → AreRising (map place_of (if b then f ∷ g ∷ gs else g ∷ placed f gs))
      by_le true le lt more =
          let first : place_cmp (place_of f) (place_of g) ≡ Less = by_number f.1.started g.1.started (nat_cmp f.1.started g.1.started) (bytes_cmp f.0 g.0) (ranks f.1.started g.1.started) (le-of f.1.started g.1.started le) (less (bytes_cmp f.0 g.0) lt) in
          ((first, all-behind (place_of f) (place_of g) (map place_of gs) first rise.0), rise)
      by_le false le lt more =
          let first : place_cmp (place_of g) (place_of f) ≡ Less = by_earlier g.1.started f.1.started (nat_cmp g.1.started f.1.started) (bytes_cmp g.0 f.0) (ranks g.1.started f.1.started) (lt-of f.1.started g.1.started le) in
          (all-placed (λ (x : Place). place_cmp (place_of g) x ≡ Less) f gs first rise.0, more)

pub rising_rows : (rows : Rows) → is_sorted bytes_cmp rows ≡ true → AreRising (places rows)
unfolding IsStrictlySortedBy
rising_rows [] sorted = tt
rising_rows (e ∷ es) sorted =
    let p = parts (below_all bytes_cmp e.0 es) (is_sorted bytes_cmp es) sorted in
    by_status (is_pending e.1.status) p.0 (rising_rows es p.1) where
      by_status : (b : Bool) → below_all bytes_cmp e.0 es ≡ true → AreRising (places es) → AreRising (map place_of (by_start (cond b (e ∷ filter (λ (f : Flow). is_pending f.1.status) es) (filter (λ (f : Flow). is_pending f.1.status) es))))
      by_status true below more = rising-placed e (running es) (below-running e.0 es below) more
      by_status false below more = more
