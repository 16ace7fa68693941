-- Lists of names in which no two are the same.
use Rattle.std.proofs.Common.{◌≡◌, ℕ, Bool, true, false, List, [], ◌∷◌, ◌++◌, Option, Some, None, refl, ap, sym, ◌∙◌}
use Rattle.std.specs.Prelude.{◌&&◌, ◌||◌, not, map, if◌then◌else◌}
use Rattle.std.specs.Str.{bytes_eq}
use Rattle.std.proofs.lemmas.Slice.Eq.{bytes_eq-Decides}
use Rattle.fn_tree.specs.declared.program.Item.{Item}
use Rattle.fn_tree.specs.Soundness.{contains, is_distinct, name_of, is_some}
use Rattle.fn_meaning.proofs.SoundExpression.{and_first, and_second}
use Rattle.fn_check.specs.Uses.{declared}
use Rattle.fn_check.proofs.BoolLemmas.{or_false, or_assoc, first_false, second_false, neither, both_true, not_false, not_true}

pub same_bytes : (a b : List ℕ) → bytes_eq a b ≡ true → a ≡ b
same_bytes a b e = (bytes_eq-Decides a b).0 e

other_by : (a b : List ℕ) (c : Bool) → bytes_eq b a ≡ c → bytes_eq a b ≡ false → c ≡ false
other_by a b true t miss =
    let here : bytes_eq a b ≡ true = (bytes_eq-Decides a b).1 (sym (same_bytes b a t)) in
    sym here ∙ miss
other_by a b false t miss = refl

pub other : (a b : List ℕ) → bytes_eq a b ≡ false → bytes_eq b a ≡ false
other a b miss = other_by a b (bytes_eq b a) refl miss

pub contains_last : (xs : List (List ℕ)) (y z : List ℕ) → contains (xs ++ y ∷ []) z ≡ (contains xs z || bytes_eq y z)
contains_last [] y z = or_false (bytes_eq y z)
contains_last (x ∷ xs) y z = ap (λ (b : Bool). bytes_eq x z || b) (contains_last xs y z) ∙ or_assoc (bytes_eq x z) (contains xs z) (bytes_eq y z)

-- one name more, which isn't among them
pub distinct_last : (xs : List (List ℕ)) (y : List ℕ) → is_distinct xs ≡ true → contains xs y ≡ false → is_distinct (xs ++ y ∷ []) ≡ true
distinct_last [] y d c = refl
distinct_last (x ∷ xs) y d c =
    both_true (not (contains (xs ++ y ∷ []) x)) (is_distinct (xs ++ y ∷ []))
    (not_true (contains (xs ++ y ∷ []) x) (contains_last xs y x ∙ neither (contains xs x) (bytes_eq y x) (not_false (contains xs x) (and_first (not (contains xs x)) (is_distinct xs) d)) (other x y (first_false (bytes_eq x y) (contains xs y) c))))
    (distinct_last xs y (and_second (not (contains xs x)) (is_distinct xs) d) (second_false (bytes_eq x y) (contains xs y) c))

middle_false : (xs ys : List (List ℕ)) (y z : List ℕ) → contains (xs ++ y ∷ ys) z ≡ false → bytes_eq y z ≡ false
middle_false [] ys y z e = first_false (bytes_eq y z) (contains ys z) e
middle_false (x ∷ xs) ys y z e = middle_false xs ys y z (second_false (bytes_eq x z) (contains (xs ++ y ∷ ys) z) e)

-- a name isn't among those before it
pub distinct_middle : (xs ys : List (List ℕ)) (y : List ℕ) → is_distinct (xs ++ y ∷ ys) ≡ true → contains xs y ≡ false
distinct_middle [] ys y d = refl
distinct_middle (x ∷ xs) ys y d =
    neither (bytes_eq x y) (contains xs y)
    (other y x (middle_false xs ys y x (not_false (contains (xs ++ y ∷ ys) x) (and_first (not (contains (xs ++ y ∷ ys) x)) (is_distinct (xs ++ y ∷ ys)) d))))
    (distinct_middle xs ys y (and_second (not (contains (xs ++ y ∷ ys) x)) (is_distinct (xs ++ y ∷ ys)) d))

front_false : (xs ys : List (List ℕ)) (z : List ℕ) → contains (xs ++ ys) z ≡ false → contains xs z ≡ false
front_false [] ys z e = refl
front_false (x ∷ xs) ys z e = neither (bytes_eq x z) (contains xs z) (first_false (bytes_eq x z) (contains (xs ++ ys) z) e) (front_false xs ys z (second_false (bytes_eq x z) (contains (xs ++ ys) z) e))

pub distinct_front : (xs ys : List (List ℕ)) → is_distinct (xs ++ ys) ≡ true → is_distinct xs ≡ true
distinct_front [] ys d = refl
distinct_front (x ∷ xs) ys d =
    both_true (not (contains xs x)) (is_distinct xs)
    (not_true (contains xs x) (front_false xs ys x (not_false (contains (xs ++ ys) x) (and_first (not (contains (xs ++ ys) x)) (is_distinct (xs ++ ys)) d))))
    (distinct_front xs ys (and_second (not (contains (xs ++ ys) x)) (is_distinct (xs ++ ys)) d))

pub names_append : (xs ys : List Item) → map name_of (xs ++ ys) ≡ map name_of xs ++ map name_of ys
names_append [] ys = refl
names_append (x ∷ xs) ys = ap (λ (ns : List (List ℕ)). name_of x ∷ ns) (names_append xs ys)

here_or : (b : Bool) (i : Item) (o : Option Item) (c : Bool) → is_some o ≡ c → is_some (if b then Some i else o) ≡ (b || c)
here_or true i o c e = refl
here_or false i o c e = e

-- an item of the name is declared exactly where the name is one of theirs
pub declared_is : (items : List Item) (name : List ℕ) → is_some (declared items name) ≡ contains (map name_of items) name
declared_is [] name = refl
declared_is (i ∷ items) name = here_or (bytes_eq (name_of i) name) i (declared items name) (contains (map name_of items) name) (declared_is items name)
