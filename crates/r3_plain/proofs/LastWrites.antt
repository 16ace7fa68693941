-- The last write of a key is found from the last entry on.
use Rattle.std.proofs.Common.{◌≡◌, ℕ, suc, zero, ◌+◌, Bool, true, false, cond, ◌&&◌, List, [], ◌∷◌, Option, Some, None, refl, sym, ap, ◌∙◌, subst, arith}
use Rattle.std.specs.Prelude.{fold, slice_get}
use Rattle.std.specs.List.{AllByRecursion}
use Rattle.std.specs.Ordering.{eq_by_cmp, is_eq, is_lt}
use Rattle.std.specs.FinMap.{find}
use Rattle.std.specs.FinMap.Entries.{put, find-put, is_sorted, below_all}
use Rattle.std.specs.declared.cmp.Ordering.{Ordering}
use Rattle.std.specs.declared.cmp.Ordering.TheVariants.{Less, Equal, Greater}
use Rattle.r3_rows.specs.declared.rows.Key.{Key}
use Rattle.r3_rows.specs.declared.rows.Cell.{Cell}
use Rattle.r3_rows.specs.Keys.{key_cmp}
use Rattle.r3_rows.specs.KeyOrder.{key_cmp-total}
use Rattle.r3_entry.specs.declared.entry.Entry.{Entry}
use Rattle.r3_entry.specs.Formed.{IsFormed}
use Rattle.r3_entry.specs.History.{Write, Map, map_at}
use Rattle.r3_entry.specs.Limits.{IsEntry}
use Rattle.r3_entry.proofs.Append.{map_at-next}

abbrev Writes : Type 0
Writes = List (Key × Option Cell)

-- what an entry wrote goes over what stood there
abbrev pub over : Option (Option Cell) → ℕ → Option Write → Option Write
over None j o = o
over (Some c) j o = Some (j, c)

and_parts : (a b : Bool) → (a && b) ≡ true → (a ≡ true) × (b ≡ true)
and_parts true b e = (refl, e)
and_parts false b e = absurd cc

tie_of : (o : Ordering) → is_eq o ≡ true → o ≡ Equal
tie_of Less e = absurd cc
tie_of Equal e = refl
tie_of Greater e = absurd cc

no_tie : (o : Ordering) → is_lt o ≡ true → is_eq o ≡ false
no_tie Less e = refl
no_tie Equal e = absurd cc
no_tie Greater e = absurd cc

-- a key that ties with one before all of them isn't found
none_behind : (q k : Key) (ws : Writes) → key_cmp q k ≡ Equal → below_all key_cmp k ws ≡ true → find key_cmp q ws ≡ None
none_behind q k [] tie below = refl
none_behind q k (w ∷ ws) tie below =
    let p = and_parts (is_lt (key_cmp k w.0)) (below_all key_cmp k ws) below in
    let apart : eq_by_cmp key_cmp q w.0 ≡ false = ap is_eq (key_cmp-total.congr q k w.0 tie) ∙ no_tie (key_cmp k w.0) p.0 in
    ap (λ (b : Bool). cond b (Some w.1) (find key_cmp q ws)) apart ∙ none_behind q k ws tie p.1

by_tie : (b : Bool) (j : ℕ) (c : Option Cell) (f : Option (Option Cell)) (o : Option Write) → (b ≡ true → f ≡ None)
    → over f j (cond b (Some (j, c)) o) ≡ over (cond b (Some c) f) j o
by_tie true j c f o none = ap (λ (g : Option (Option Cell)). over g j (Some (j, c))) (none refl)
by_tie false j c f o none = refl

find_over : (ws : Writes) (m : Map) (j : ℕ) (q : Key) → is_sorted key_cmp ws ≡ true
    → find key_cmp q (fold (λ (m : Map) (w : Key × Option Cell). put key_cmp w.0 (j, w.1) m) m ws) ≡ over (find key_cmp q ws) j (find key_cmp q m)
find_over [] m j q sorted = refl
find_over (w ∷ ws) m j q sorted =
    let p = and_parts (below_all key_cmp w.0 ws) (is_sorted key_cmp ws) sorted in
    find_over ws (put key_cmp w.0 (j, w.1) m) j q p.1
    ∙ ap (λ (o : Option Write). over (find key_cmp q ws) j o) (find-put key_cmp key_cmp-total q w.0 (j, w.1) m)
    ∙ by_tie (eq_by_cmp key_cmp q w.0) j w.1 (find key_cmp q ws) (find key_cmp q m) (λ tie. none_behind q w.0 ws (tie_of (key_cmp q w.0) tie) p.0)

-- after one more entry, by what it wrote
pub last_here : (h : List Entry) (k : ℕ) (e : Entry) (q : Key) → slice_get h k ≡ Some e → is_sorted key_cmp e.writes ≡ true
    → find key_cmp q (map_at h (k + 1)) ≡ over (find key_cmp q e.writes) (1 + k) (find key_cmp q (map_at h k))
last_here h k e q at sorted = ap (λ (m : Map). find key_cmp q m) (map_at-next h k e at) ∙ find_over e.writes (map_at h k) (1 + k) q sorted

-- ---- at the last of so many entries

rising_at : (h : List Entry) (k : ℕ) (e : Entry) → AllByRecursion IsEntry h → slice_get h k ≡ Some e → is_sorted key_cmp e.writes ≡ true
rising_at [] k e all at = absurd cc
rising_at (x ∷ xs) zero e all at = let same : x ≡ e = cc in subst (λ (y : Entry). is_sorted key_cmp y.writes ≡ true) same all.0.rising
rising_at (x ∷ xs) (suc k) e all at = rising_at xs k e all.1 at

module _ (h : List Entry) (formed : IsFormed h) (j k : ℕ) (next : j ≡ k + 1) (e : Entry) (at : slice_get h k ≡ Some e) (q : Key) where
  here : find key_cmp q (map_at h j) ≡ over (find key_cmp q e.writes) j (find key_cmp q (map_at h k))
  here =
      let same : j ≡ 1 + k = omega (arith, next) in
      subst (λ (i : ℕ). find key_cmp q (map_at h i) ≡ over (find key_cmp q e.writes) j (find key_cmp q (map_at h k))) (sym next)
      (subst (λ (i : ℕ). find key_cmp q (map_at h (k + 1)) ≡ over (find key_cmp q e.writes) i (find key_cmp q (map_at h k))) (sym same)
      (last_here h k e q at (rising_at h k e formed.limits at)))

  pub found_here : (c : Option Cell) → find key_cmp q e.writes ≡ Some c → find key_cmp q (map_at h j) ≡ Some (j, c)
  found_here c found = here ∙ ap (λ (o : Option (Option Cell)). over o j (find key_cmp q (map_at h k))) found

  pub passed_over : find key_cmp q e.writes ≡ None → find key_cmp q (map_at h j) ≡ find key_cmp q (map_at h k)
  passed_over none = here ∙ ap (λ (o : Option (Option Cell)). over o j (find key_cmp q (map_at h k))) none
