-- The places of looks, without what was found there.
use Rattle.std.specs.Prelude.{◌≡◌, Bool, false, ◌&&◌, ◌||◌, List, [], ◌∷◌}
use Rattle.std.specs.Ordering.{nat_cmp, ordering_then}
use Rattle.std.specs.Cmp.Lexicographic.{slice_cmp}
use Rattle.std.specs.Str.{bytes_eq}
use Rattle.std.specs.declared.cmp.Ordering.{Ordering}
use Rattle.std.specs.declared.cmp.Ordering.TheVariants.{Less, Greater}
use Rattle.fn_tree.specs.declared.look.Look.{Look}
use Rattle.fn_tree.specs.declared.look.Look.TheVariants as look
use Rattle.fn_tree.specs.Looks.{contains_look}
use Rattle.fn_txn.specs.declared.look_place.LookPlace.{LookPlace}
use Rattle.fn_txn.specs.declared.look_place.LookPlace.TheVariants as at

abbrev pub place_of : Look → LookPlace
place_of (look.At table key version) = at.At table key
place_of (look.Range table lo hi keys) = at.Range table lo hi

-- keys before ranges, each by its texts
abbrev pub place_cmp : LookPlace → LookPlace → Ordering
place_cmp (at.At t k) (at.At u l) = ordering_then (slice_cmp nat_cmp t u) (slice_cmp nat_cmp k l)
place_cmp (at.Range t lo hi) (at.Range u low high) = ordering_then (slice_cmp nat_cmp t u) (ordering_then (slice_cmp nat_cmp lo low) (slice_cmp nat_cmp hi high))
place_cmp (at.At t k) (at.Range u low high) = Less
place_cmp (at.Range t lo hi) (at.At u l) = Greater

abbrev pub is_place_of : LookPlace → Look → Bool
is_place_of (at.At t k) (look.At table key version) = bytes_eq table t && bytes_eq key k
is_place_of (at.Range t l h) (look.Range table lo hi keys) = bytes_eq table t && bytes_eq lo l && bytes_eq hi h
is_place_of _ _ = false

abbrev pub has_place : List LookPlace → Look → Bool
has_place [] l = false
has_place (p ∷ ps) l = is_place_of p l || has_place ps l

-- the places are those of the looks
abbrev pub IsIndex : List Look → List LookPlace → Type 0
IsIndex looks places = (l : Look) → contains_look looks l ≡ has_place places l
