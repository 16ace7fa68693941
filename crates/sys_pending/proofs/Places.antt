-- The places of the running workflows tell which of them run.
use Rattle.std.proofs.Common.{◌≡◌, Bool, true, false, cond, ◌&&◌, ◌||◌, List, [], ◌∷◌, map, filter, Option, Some, None, refl, sym, ap, ◌∙◌}
use Rattle.std.specs.Prelude.{if◌then◌else◌, nat_le}
use Rattle.std.specs.Ordering.{nat_cmp, ordering_then, ordering_reverse, is_eq, is_lt, eq_by_cmp}
use Rattle.std.specs.Cmp.{IsTotalOrder}
use Rattle.std.specs.FinMap.{IsAntisymmetric, nat_cmp-IsAntisymmetric, slice_cmp-IsAntisymmetric}
use Rattle.std.specs.FinMap.Entries.{find, is_sorted, below_all}
use Rattle.std.proofs.lemmas.Cmp.{nat_cmp_total, nat_list_cmp_total, then_total, on_total}
use Rattle.std.specs.declared.cmp.Ordering.{Ordering}
use Rattle.std.specs.declared.cmp.Ordering.TheVariants.{Less, Equal, Greater}
use Rattle.r3_rows.specs.declared.rows.FlowRow.{FlowRow}
use Rattle.sys_queue.specs.Lines.{Text, Place, bytes_cmp, place_cmp}
use Rattle.sys_queue.specs.Rows.{Rows, is_pending}
use Rattle.sys_pending.specs.Running.{Flow, placed, by_start, running}
use Rattle.sys_pending.specs.Index.{place_of}
use Rattle.sys_pending.specs.Moves.{place_at, is_at, has_place}

pub ids_total : IsTotalOrder bytes_cmp
ids_total = nat_list_cmp_total

pub ids_exact : IsAntisymmetric bytes_cmp
ids_exact = slice_cmp-IsAntisymmetric nat_cmp-IsAntisymmetric

pub places_total : IsTotalOrder place_cmp
places_total = then_total (on_total (λ (p : Place). p.0) nat_cmp_total) (on_total (λ (p : Place). p.1) nat_list_cmp_total)

both_equal : (a b : Ordering) → ordering_then a b ≡ Equal → (a ≡ Equal) × (b ≡ Equal)
both_equal Less b e = absurd cc
both_equal Equal b e = (refl, e)
both_equal Greater b e = absurd cc

pub places_exact : IsAntisymmetric place_cmp
places_exact p q e =
    let parts = both_equal (nat_cmp p.0 q.0) (bytes_cmp p.1 q.1) e in
    let started : p.0 ≡ q.0 = nat_cmp-IsAntisymmetric p.0 q.0 parts.0 in
    let id : p.1 ≡ q.1 = ids_exact p.1 q.1 parts.1 in
    λ i. (started i, id i)

equal : (o : Ordering) → is_eq o ≡ true → o ≡ Equal
equal Less e = absurd cc
equal Equal e = refl
equal Greater e = absurd cc

pub less : (o : Ordering) → is_lt o ≡ true → o ≡ Less
less Less e = refl
less Equal e = absurd cc
less Greater e = absurd cc

pub parts : (a b : Bool) → (a && b) ≡ true → (a ≡ true) × (b ≡ true)
parts true b e = (refl, e)
parts false b e = absurd cc

pub both : (a b : Bool) → a ≡ true → b ≡ true → (a && b) ≡ true
both true b p q = q
both false b p q = absurd cc

-- tied texts and places are the same
pub same_id : (a b : Text) → eq_by_cmp bytes_cmp a b ≡ true → a ≡ b
same_id a b e = ids_exact a b (equal (bytes_cmp a b) e)

pub same_place : (p q : Place) → eq_by_cmp place_cmp p q ≡ true → p ≡ q
same_place p q e = places_exact p q (equal (place_cmp p q) e)

-- at another ID is another place
pub untied : (p q : Place) (b : Bool) → eq_by_cmp place_cmp p q ≡ b → (p.1 ≡ q.1 → ⊥) → b ≡ false
untied p q true t apart = absurd (apart (ap (λ (x : Place). x.1) (same_place p q t)))
untied p q false t apart = refl

reversed : (o : Ordering) → is_eq (ordering_reverse o) ≡ is_eq o
reversed Less = refl
reversed Equal = refl
reversed Greater = refl

pub turned : (p q : Place) → eq_by_cmp place_cmp p q ≡ eq_by_cmp place_cmp q p
turned p q = ap is_eq (places_total.antisymm p q) ∙ reversed (place_cmp q p)

-- ---- which places there are

abbrev pub places : Rows → List Place
places rows = map place_of (running rows)

swapped : (a b c : Bool) → (a || (b || c)) ≡ (b || (a || c))
swapped true true c = refl
swapped true false c = refl
swapped false b c = refl

has-placed : (q : Place) (f : Flow) (gs : Rows) → has_place q (map place_of (placed f gs)) ≡ (eq_by_cmp place_cmp q (place_of f) || has_place q (map place_of gs))
has-placed q f [] = refl
has-placed q f (g ∷ gs) = by_le (nat_le f.1.started g.1.started) (has-placed q f gs) where
  by_le : (b : Bool) → has_place q (map place_of (placed f gs)) ≡ (eq_by_cmp place_cmp q (place_of f) || has_place q (map place_of gs))
      → has_place q (map place_of (if b then f ∷ g ∷ gs else g ∷ placed f gs)) ≡ (eq_by_cmp place_cmp q (place_of f) || (eq_by_cmp place_cmp q (place_of g) || has_place q (map place_of gs)))
  by_le true more = refl
  by_le false more =
      ap (λ (b : Bool). eq_by_cmp place_cmp q (place_of g) || b) more
      ∙ swapped (eq_by_cmp place_cmp q (place_of g)) (eq_by_cmp place_cmp q (place_of f)) (has_place q (map place_of gs))

-- one that runs stands in its place
has-more : (q : Place) (e : Flow) (es : Rows) (b : Bool) → has_place q (map place_of (by_start (cond b (e ∷ es) es))) ≡ cond b (eq_by_cmp place_cmp q (place_of e) || has_place q (map place_of (by_start es))) (has_place q (map place_of (by_start es)))
has-more q e es true = has-placed q e (by_start es)
has-more q e es false = refl

not_found : (id : Text) (es : Rows) → below_all bytes_cmp id es ≡ true → find bytes_cmp id es ≡ None
not_found id [] below = refl
not_found id (e ∷ es) below =
    let p = parts (is_lt (bytes_cmp id e.0)) (below_all bytes_cmp id es) below in
    ap (λ (o : Ordering). cond (is_eq o) (Some e.1) (find bytes_cmp id es)) (less (bytes_cmp id e.0) p.0) ∙ not_found id es p.1

or_false : (a b : Bool) → b ≡ false → (a || b) ≡ a
or_false true b e = refl
or_false false b e = e

-- the workflow of that ID is the first row
here : (q : Place) (e : Flow) (h : Bool) (b : Bool) → is_pending e.1.status ≡ b → q.1 ≡ e.0 → h ≡ false → cond b (eq_by_cmp place_cmp q (place_of e) || h) h ≡ is_at (if b then Some (e.1.started, q.1) else None) q
here q e h true runs same none =
    or_false (eq_by_cmp place_cmp q (place_of e)) h none ∙ turned q (place_of e) ∙ ap (λ (id : Text). eq_by_cmp place_cmp (e.1.started, id) q) (sym same)
here q e h false runs same none = none

-- it is a later one
later : (a h : Bool) (b : Bool) → a ≡ false → cond b (a || h) h ≡ h
later true h b e = absurd cc
later false h true e = refl
later false h false e = refl

pub apart : (a b : Text) → eq_by_cmp bytes_cmp a b ≡ false → a ≡ b → ⊥
apart a b miss same =
    let hit : eq_by_cmp bytes_cmp a b ≡ true = ap (λ (x : Text). eq_by_cmp bytes_cmp a x) (sym same) ∙ itself in
    let no : true ≡ false = sym hit ∙ miss in
    absurd cc
  where
    own : (o : Ordering) → o ≡ ordering_reverse o → is_eq o ≡ true
    own Less e = absurd cc
    own Equal e = refl
    own Greater e = absurd cc

    itself : eq_by_cmp bytes_cmp a a ≡ true
    itself = own (bytes_cmp a a) (ids_total.antisymm a a)

has-first : (q : Place) (e : Flow) (es : Rows) (t : Bool) → eq_by_cmp bytes_cmp q.1 e.0 ≡ t → below_all bytes_cmp e.0 es ≡ true → has_place q (places es) ≡ is_at (place_at q.1 (find bytes_cmp q.1 es)) q
    → cond (is_pending e.1.status) (eq_by_cmp place_cmp q (place_of e) || has_place q (places es)) (has_place q (places es)) ≡ is_at (place_at q.1 (cond t (Some e.1) (find bytes_cmp q.1 es))) q
has-first q e es true tie below more =
    let same : q.1 ≡ e.0 = same_id q.1 e.0 tie in
    let absent : find bytes_cmp q.1 es ≡ None = ap (λ (id : Text). find bytes_cmp id es) same ∙ not_found e.0 es below in
    here q e (has_place q (places es)) (is_pending e.1.status) refl same (more ∙ ap (λ (o : Option FlowRow). is_at (place_at q.1 o) q) absent)
has-first q e es false tie below more =
    later (eq_by_cmp place_cmp q (place_of e)) (has_place q (places es)) (is_pending e.1.status) (untied q (place_of e) _ refl (apart q.1 e.0 tie)) ∙ more

-- somebody stands at a place where the row of its ID says so
pub has_row : (q : Place) (rows : Rows) → is_sorted bytes_cmp rows ≡ true → has_place q (places rows) ≡ is_at (place_at q.1 (find bytes_cmp q.1 rows)) q
has_row q [] sorted = refl
has_row q (e ∷ es) sorted =
    let p = parts (below_all bytes_cmp e.0 es) (is_sorted bytes_cmp es) sorted in
    has-more q e (filter (λ (f : Flow). is_pending f.1.status) es) (is_pending e.1.status)
    ∙ has-first q e es (eq_by_cmp bytes_cmp q.1 e.0) refl p.0 (has_row q es p.1)
