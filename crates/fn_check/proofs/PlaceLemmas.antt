-- The places of items, and what they say of their names.
use Rattle.std.proofs.Common.{◌≡◌, ℕ, zero, suc, Bool, true, false, cond, List, [], ◌∷◌, ◌++◌, Option, Some, None, refl, ap, sym, subst, ◌∙◌, length, take, arith}
use Rattle.std.specs.Prelude.{if◌then◌else◌, nat_lt}
use Rattle.std.specs.Str.{bytes_eq}
use Rattle.std.specs.List.{slice_get}
use Rattle.std.specs.Ordering.{nat_cmp}
use Rattle.std.specs.Cmp.Lexicographic.{slice_cmp}
use Rattle.std.specs.BTreeMap.{BTreeMap, is_at}
use Rattle.std.specs.Map.{lookup}
use Rattle.std.specs.BTreeMap as tree
use Rattle.std.proofs.lemmas.Grind.{common_steps}
use Rattle.std.proofs.lemmas.Map.Text.{is_eq-slice_cmp}
use Rattle.fn_tree.specs.declared.program.Item.{Item}
use Rattle.fn_tree.specs.Soundness.{name_of, is_some}
use Rattle.fn_check.specs.Uses.{declared}
use Rattle.fn_check.specs.Places.{one_later, place_of, Indexes, Adds}
use Rattle.fn_check.proofs.NameLemmas.{same_bytes}

-- ---- what is found

abbrev pub item_at : List Item → Option ℕ → Option Item
item_at items None = None
item_at items (Some p) = slice_get items p

later_at : (i : Item) (items : List Item) (o : Option ℕ) → item_at items o ≡ item_at (i ∷ items) (one_later o)
later_at i items None = refl
later_at i items (Some p) = refl

here_at : (b : Bool) (i : Item) (items : List Item) (o : Option ℕ) (found : Option Item) → found ≡ item_at items o → (if b then Some i else found) ≡ item_at (i ∷ items) (if b then Some zero else one_later o)
here_at true i items o found e = refl
here_at false i items o found e = e ∙ later_at i items o

pub declared_at : (items : List Item) (name : List ℕ) → declared items name ≡ item_at items (place_of items name)
declared_at [] name = refl
declared_at (i ∷ items) name = here_at (bytes_eq (name_of i) name) i items (place_of items name) (declared items name) (declared_at items name)

abbrev pub is_below : Option ℕ → ℕ → Bool
is_below None n = false
is_below (Some p) n = nat_lt p n

below_none : (o : Option ℕ) → false ≡ is_below o zero
below_none None = refl
below_none (Some p) = grind (arith, common_steps)

below_later : (o : Option ℕ) (n : ℕ) → is_below o n ≡ is_below (one_later o) (suc n)
below_later None n = refl
below_later (Some p) n = grind (arith, common_steps)

below_first : (n : ℕ) → true ≡ nat_lt zero (suc n)
below_first n = grind (arith, common_steps)

here_below : (b : Bool) (i : Item) (n : ℕ) (o : Option ℕ) (found : Option Item) → is_some found ≡ is_below o n → is_some (if b then Some i else found) ≡ is_below (if b then Some zero else one_later o) (suc n)
here_below true i n o found e = below_first n
here_below false i n o found e = e ∙ below_later o n

pub early_at : (items : List Item) (name : List ℕ) (n : ℕ) → is_some (declared (take n items) name) ≡ is_below (place_of items name) n
early_at [] name zero = refl
early_at [] name (suc n) = refl
early_at (i ∷ items) name zero = below_none (place_of (i ∷ items) name)
early_at (i ∷ items) name (suc n) = here_below (bytes_eq (name_of i) name) i n (place_of items name) (declared (take n items) name) (early_at items name n)

-- ---- one item more

abbrev or_place : Option ℕ → Option ℕ → Option ℕ
or_place None o = o
or_place (Some p) o = Some p

later_or : (o : Option ℕ) (c : Bool) (n : ℕ) → one_later (or_place o (if c then Some n else None)) ≡ or_place (one_later o) (if c then Some (suc n) else None)
later_or None true n = refl
later_or None false n = refl
later_or (Some p) c n = refl

here_last : (b c : Bool) (o whole : Option ℕ) (n : ℕ) → whole ≡ or_place o (if c then Some n else None) → (if b then Some zero else one_later whole) ≡ or_place (if b then Some zero else one_later o) (if c then Some (suc n) else None)
here_last true c o whole n e = refl
here_last false c o whole n e = ap one_later e ∙ later_or o c n

only : (b : Bool) → (if b then Some zero else None) ≡ (if b then Some zero else None)
only b = refl

place_last : (xs : List Item) (i : Item) (q : List ℕ) → place_of (xs ++ i ∷ []) q ≡ or_place (place_of xs q) (if bytes_eq (name_of i) q then Some (length xs) else None)
place_last [] i q = only (bytes_eq (name_of i) q)
place_last (x ∷ xs) i q = here_last (bytes_eq (name_of x) q) (bytes_eq (name_of i) q) (place_of xs q) (place_of (xs ++ i ∷ []) q) (length xs) (place_last xs i q)

abbrev Map : Type 0
Map = BTreeMap (List ℕ) ℕ

new_by : (b : Bool) (o : Option ℕ) (at n : ℕ) → at ≡ n → (b ≡ true → o ≡ None) → cond b (Some at) o ≡ or_place o (if b then Some n else None)
new_by true o at n same gone = ap (λ (m : ℕ). Some m) same ∙ ap (λ (p : Option ℕ). or_place p (Some n)) (sym (gone refl))
new_by false None at n same gone = refl
new_by false (Some p) at n same gone = refl

pub adds_new : (old new : Map) (name : List ℕ) (at : ℕ) → tree.get (slice_cmp nat_cmp) old name ≡ None → tree.Updates (slice_cmp nat_cmp) old new name (Some at) → Adds old new name at
adds_new old new name at none u items more i made named placed indexes q =
    u.0 q
    ∙ ap (λ (b : Bool). cond b (Some at) (tree.get (slice_cmp nat_cmp) old q)) (is_eq-slice_cmp name q)
    ∙ ap (λ (o : Option ℕ). cond (bytes_eq name q) (Some at) o) (indexes q)
    ∙ new_by (bytes_eq name q) (place_of items q) at (length items) placed (λ e. subst (λ (x : List ℕ). place_of items x ≡ None) (same_bytes name q e) (sym (indexes name) ∙ none))
    ∙ ap (λ (n : List ℕ). or_place (place_of items q) (if bytes_eq n q then Some (length items) else None)) (sym named)
    ∙ sym (place_last items i q)
    ∙ ap (λ (xs : List Item). place_of xs q) (sym made)

nothing : false ≡ true → ⊥
nothing e = cc

old_by : (b : Bool) (o : Option ℕ) (n : ℕ) → (b ≡ true → is_some o ≡ true) → o ≡ or_place o (if b then Some n else None)
old_by true None n has = absurd (nothing (has refl))
old_by true (Some p) n has = refl
old_by false None n has = refl
old_by false (Some p) n has = refl

pub adds_old : (old : Map) (name : List ℕ) (at : ℕ) → is_some (tree.get (slice_cmp nat_cmp) old name) ≡ true → Adds old old name at
adds_old old name at has items more i made named placed indexes q =
    indexes q
    ∙ old_by (bytes_eq name q) (place_of items q) (length items) (λ e. subst (λ (x : List ℕ). is_some (place_of items x) ≡ true) (same_bytes name q e) (sym (ap (λ (o : Option ℕ). is_some o) (indexes name)) ∙ has))
    ∙ ap (λ (n : List ℕ). or_place (place_of items q) (if bytes_eq n q then Some (length items) else None)) (sym named)
    ∙ sym (place_last items i q)
    ∙ ap (λ (xs : List Item). place_of xs q) (sym made)

-- ---- what a look-up in the map says

pub declared_none : (places : Map) (items : List Item) (name : List ℕ) → Indexes places items → tree.get (slice_cmp nat_cmp) places name ≡ None → declared items name ≡ None
declared_none places items name indexes e = declared_at items name ∙ ap (λ (o : Option ℕ). item_at items o) (sym (indexes name) ∙ e)

pub declared_some : (places : Map) (items : List Item) (name : List ℕ) (p : ℕ) → Indexes places items → tree.get (slice_cmp nat_cmp) places name ≡ Some p → declared items name ≡ slice_get items p
declared_some places items name p indexes e = declared_at items name ∙ ap (λ (o : Option ℕ). item_at items o) (sym (indexes name) ∙ e)

pub found_some : (places : Map) (items view : List Item) (name : List ℕ) (p : ℕ) (o : Option Item) → Indexes places items → tree.get (slice_cmp nat_cmp) places name ≡ Some p → view ≡ items → o ≡ slice_get items p → o ≡ declared view name
found_some places items view name p o indexes e same found = found ∙ sym (declared_some places items name p indexes e) ∙ ap (λ (xs : List Item). declared xs name) (sym same)

pub early_none : (places : Map) (items : List Item) (name : List ℕ) (n : ℕ) → Indexes places items → tree.get (slice_cmp nat_cmp) places name ≡ None → is_some (declared (take n items) name) ≡ false
early_none places items name n indexes e = early_at items name n ∙ ap (λ (o : Option ℕ). is_below o n) (sym (indexes name) ∙ e)

pub early_some : (places : Map) (items : List Item) (name : List ℕ) (n p : ℕ) → Indexes places items → tree.get (slice_cmp nat_cmp) places name ≡ Some p → is_some (declared (take n items) name) ≡ nat_lt p n
early_some places items name n p indexes e = early_at items name n ∙ ap (λ (o : Option ℕ). is_below o n) (sym (indexes name) ∙ e)

pub indexes_none : (places : Map) → tree.IsEmpty places → Indexes places []
indexes_none places e q = ap (λ (es : List (List ℕ × ℕ)). lookup (is_at (slice_cmp nat_cmp q)) es) e
