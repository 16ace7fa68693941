-- Where the items of a program are declared, in a map beside their list.
use Rattle.std.specs.Prelude.{◌≡◌, ℕ, zero, suc, List, [], ◌∷◌, ◌++◌, length, Option, Some, None, if◌then◌else◌}
use Rattle.std.specs.Str.{bytes_eq}
use Rattle.std.specs.Ordering.{nat_cmp}
use Rattle.std.specs.Cmp.Lexicographic.{slice_cmp}
use Rattle.std.specs.BTreeMap.{BTreeMap}
use Rattle.std.specs.BTreeMap as tree
use Rattle.fn_tree.specs.declared.program.Item.{Item}
use Rattle.fn_tree.specs.Soundness.{name_of}

abbrev pub one_later : Option ℕ → Option ℕ
one_later None = None
one_later (Some p) = Some (suc p)

-- the place of the first item of the name, from 0
abbrev pub place_of : List Item → List ℕ → Option ℕ
place_of [] name = None
place_of (i ∷ items) name = if bytes_eq (name_of i) name then Some zero else one_later (place_of items name)

-- the map has the place of each name
abbrev pub Indexes : BTreeMap (List ℕ) ℕ → List Item → Type 0
Indexes places items = (q : List ℕ) → tree.get (slice_cmp nat_cmp) places q ≡ place_of items q

-- the new map has one item more, of this name, at this place
abbrev pub Adds : BTreeMap (List ℕ) ℕ → BTreeMap (List ℕ) ℕ → List ℕ → ℕ → Type 0
Adds old new name at = (items more : List Item) (i : Item) → more ≡ items ++ i ∷ [] → name_of i ≡ name → at ≡ length items → Indexes old items → Indexes new more
