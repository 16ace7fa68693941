-- Workflows are placed one by one, from the last to the first.
use Rattle.std.proofs.Common.{◌≡◌, ℕ, suc, zero, add-one, ◌+◌, Bool, true, false, nat_le, List, [], ◌∷◌, ◌++◌, map, take, drop, Some, refl, sym, ap, subst}
use Rattle.std.specs.Prelude.{if◌then◌else◌, slice_get}
use Rattle.std.specs.List.{insert}
use Rattle.r3_model.specs.Rows.{Flow, placed, by_start}
use Rattle.r3_plain.specs.Flows.{flow_of}
use Rattle.r3_plain.specs.declared.flows.Flow.{Flow as F}

-- these before those that are sorted
abbrev pub placed_all : List Flow → List Flow → List Flow
placed_all [] sorted = sorted
placed_all (f ∷ fs) sorted = placed f (placed_all fs sorted)

pub all_placed : (fs : List Flow) → by_start fs ≡ placed_all fs []
all_placed [] = refl
all_placed (f ∷ fs) = ap (placed f) (all_placed fs)

pub one_placed : (fs sorted : List Flow) (f : Flow) → placed_all (fs ++ f ∷ []) sorted ≡ placed_all fs (placed f sorted)
one_placed [] sorted f = refl
one_placed (g ∷ fs) sorted f = ap (placed g) (one_placed fs sorted f)

pub map_last : (xs : List F) (x : F) → map flow_of (xs ++ x ∷ []) ≡ map flow_of xs ++ flow_of x ∷ []
map_last [] x = refl
map_last (y ∷ ys) x = ap (λ (zs : List Flow). flow_of y ∷ zs) (map_last ys x)

-- before one that started then or later
pub placed_here : (f g : Flow) (gs : List Flow) → nat_le f.row.started g.row.started ≡ true → placed f (g ∷ gs) ≡ f ∷ g ∷ gs
placed_here f g gs is = ap (λ (b : Bool). if b then f ∷ g ∷ gs else g ∷ placed f gs) is

pub placed_later : (f g : Flow) (gs : List Flow) → nat_le f.row.started g.row.started ≡ false → placed f (g ∷ gs) ≡ g ∷ placed f gs
placed_later f g gs is = ap (λ (b : Bool). if b then f ∷ g ∷ gs else g ∷ placed f gs) is

pub map_insert : (xs : List F) (i : ℕ) (x : F) → map flow_of (insert xs i x) ≡ insert (map flow_of xs) i (flow_of x)
map_insert [] zero x = refl
map_insert [] (suc i) x = refl
map_insert (y ∷ ys) zero x = refl
map_insert (y ∷ ys) (suc i) x = ap (λ (zs : List Flow). flow_of y ∷ zs) (map_insert ys i x)

-- at the place of the first that started then or later
pub insert_here : (f : Flow) (xs : List F) (i : ℕ) (x : F) → slice_get xs i ≡ Some x → nat_le f.row.started x.row.started ≡ true
    → take i (map flow_of xs) ++ placed f (drop i (map flow_of xs)) ≡ insert (map flow_of xs) i f
insert_here f [] i x at is = absurd cc
insert_here f (y ∷ ys) zero x at is =
    let same : y ≡ x = cc in
    placed_here f (flow_of y) (map flow_of ys) (subst (λ (z : F). nat_le f.row.started z.row.started ≡ true) (sym same) is)
insert_here f (y ∷ ys) (suc i) x at is = ap (λ (zs : List Flow). flow_of y ∷ zs) (insert_here f ys i x at is)

insert_past : (f : Flow) (xs : List F) (i : ℕ) (x : F) → slice_get xs i ≡ Some x → nat_le f.row.started x.row.started ≡ false
    → take i (map flow_of xs) ++ placed f (drop i (map flow_of xs)) ≡ take (suc i) (map flow_of xs) ++ placed f (drop (suc i) (map flow_of xs))
insert_past f [] i x at is = absurd cc
insert_past f (y ∷ ys) zero x at is =
    let same : y ≡ x = cc in
    placed_later f (flow_of y) (map flow_of ys) (subst (λ (z : F). nat_le f.row.started z.row.started ≡ false) (sym same) is)
insert_past f (y ∷ ys) (suc i) x at is = ap (λ (zs : List Flow). flow_of y ∷ zs) (insert_past f ys i x at is)

pub insert_later : (f : Flow) (xs : List F) (i : ℕ) (x : F) → slice_get xs i ≡ Some x → nat_le f.row.started x.row.started ≡ false
    → take i (map flow_of xs) ++ placed f (drop i (map flow_of xs)) ≡ take (i + 1) (map flow_of xs) ++ placed f (drop (i + 1) (map flow_of xs))
insert_later f xs i x at is =
    subst (λ (j : ℕ). take i (map flow_of xs) ++ placed f (drop i (map flow_of xs)) ≡ take j (map flow_of xs) ++ placed f (drop j (map flow_of xs))) (sym (add-one i))
    (insert_past f xs i x at is)
