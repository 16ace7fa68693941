-- The places of looks, as a set finds them.
use Rattle.std.proofs.Common.{◌≡◌, ℕ, ◌+◌, ◌≤◌, Bool, true, false, ◌&&◌, ◌||◌, cond, List, [], ◌∷◌, ◌++◌, Option, Some, None, refl, ap, sym, subst, ◌∙◌, arith}
use Rattle.std.specs.Prelude.{nat_lt, if◌then◌else◌}
use Rattle.std.proofs.lemmas.Bool.{ltb-false}
use Rattle.std.specs.List.{list_any}
use Rattle.std.specs.Option.{unwrap_or}
use Rattle.std.specs.Ordering.{nat_cmp, ordering_then, is_eq}
use Rattle.std.specs.Cmp.Lexicographic.{slice_cmp}
use Rattle.std.specs.declared.cmp.Ordering.{Ordering}
use Rattle.std.specs.declared.cmp.Ordering.TheVariants.{Less, Equal, Greater}
use Rattle.r3_value.specs.declared.value.Val.{Val}
use Rattle.fn_tree.specs.declared.look.Look.{Look}
use Rattle.fn_tree.specs.declared.look.Look.TheVariants as look
use Rattle.fn_tree.specs.Looks.{contains_look, same_place, read_items, items_of_look}
use Rattle.fn_tree.specs.Writes.{Log, Write}
use Rattle.fn_txn.specs.declared.look_place.LookPlace.{LookPlace}
use Rattle.fn_txn.specs.declared.look_place.LookPlace.TheVariants as at
use Rattle.fn_txn.specs.declared.row_key.RowKey.{RowKey}
use Rattle.fn_txn.specs.Journals.{IsKept, looked, total_with}
use Rattle.fn_txn.specs.LookPlaces.{place_of, place_cmp, is_place_of, has_place, IsIndex}
use Rattle.fn_txn.proofs.OrderLemmas.{eq_is, then_eq}

-- the length of all looks' items, with one more
read_items_last : (ls : List Look) (l : Look) → read_items (ls ++ l ∷ []) ≡ read_items ls + items_of_look l
read_items_last [] l = omega arith
read_items_last (m ∷ ls) l = omega (arith, read_items_last ls l)

own : (l m : Look) → is_place_of (place_of m) l ≡ same_place l m
own (look.At t k v) (look.At t' k' v') = refl
own (look.At t k v) (look.Range t' lo hi ks) = refl
own (look.Range t lo hi ks) (look.At t' k' v') = refl
own (look.Range t lo hi ks) (look.Range t' lo' hi' ks') = refl

or_first : (a b : Bool) → (a || b) ≡ cond a true b
or_first true b = refl
or_first false b = refl

or_swap : (a b c : Bool) → (a || (b || c)) ≡ (b || (a || c))
or_swap true true c = refl
or_swap true false c = refl
or_swap false true c = refl
or_swap false false c = refl

contains_last : (looks : List Look) (l m : Look) → contains_look (looks ++ l ∷ []) m ≡ (same_place l m || contains_look looks m)
contains_last [] l m = refl
contains_last (k ∷ looks) l m =
    ap (λ b. same_place k m || b) (contains_last looks l m)
    ∙ or_swap (same_place k m) (same_place l m) (contains_look looks m)

then_both : (a b c : Ordering) → is_eq (ordering_then a (ordering_then b c)) ≡ (is_eq a && is_eq b && is_eq c)
then_both Less b c = refl
then_both Equal b c = sym (then_eq b c)
then_both Greater b c = refl

-- places tie where they are the same
tie_is : (l : Look) (p : LookPlace) → is_eq (place_cmp (place_of l) p) ≡ is_place_of p l
tie_is (look.At t k v) (at.At u m) = sym (then_eq (slice_cmp nat_cmp t u) (slice_cmp nat_cmp k m)) ∙ (λ i. sym (eq_is t u) i && sym (eq_is k m) i)
tie_is (look.At t k v) (at.Range u low high) = refl
tie_is (look.Range t lo hi ks) (at.At u m) = refl
tie_is (look.Range t lo hi ks) (at.Range u low high) =
    then_both (slice_cmp nat_cmp t u) (slice_cmp nat_cmp lo low) (slice_cmp nat_cmp hi high)
    ∙ (λ i. sym (eq_is t u) i && sym (eq_is lo low) i && sym (eq_is hi high) i)

total_is : (b : Bool) (n m : ℕ) → nat_lt 4096 n ≡ b → (if b then None else Some n) ≡ Some m → (m ≡ n) × (n ≤ 4096)
total_is true n m is e = absurd cc
total_is false n m is e = (ap (λ o. unwrap_or o 0) (sym e), ltb-false 4096 n is)

module _ (cmp : LookPlace → LookPlace → Ordering) (order : (a b : LookPlace) → cmp a b ≡ place_cmp a b) where
  own_tie : (l : Look) (at p : LookPlace) → at ≡ place_of l → is_eq (cmp at p) ≡ is_place_of p l
  own_tie l at p is = ap is_eq (order at p ∙ ap (λ a. place_cmp a p) is) ∙ tie_is l p

  -- what the set finds
  pub found_is : (l : Look) (at : LookPlace) → at ≡ place_of l → (ps : List LookPlace) → list_any (λ p. is_eq (cmp at p)) ps ≡ has_place ps l
  found_is l at is [] = refl
  found_is l at is (p ∷ ps) = λ i. own_tie l at p is i || found_is l at is ps i

  -- one look more
  index_more : (looks : List Look) (ps ps' : List LookPlace) (l : Look) (at : LookPlace) → at ≡ place_of l → IsIndex looks ps → ((q : LookPlace) → list_any (λ p. is_eq (cmp q p)) ps' ≡ cond (is_eq (cmp at q)) true (list_any (λ p. is_eq (cmp q p)) ps)) → IsIndex (looks ++ l ∷ []) ps'
  index_more looks ps ps' l at is index more m =
      contains_last looks l m
      ∙ (λ i. (sym (own l m) ∙ sym (own_tie l at (place_of m) is)) i || (index m ∙ sym (found_is m (place_of m) refl ps)) i)
      ∙ or_first (is_eq (cmp at (place_of m))) (list_any (λ p. is_eq (cmp (place_of m) p)) ps)
      ∙ sym (more (place_of m))
      ∙ found_is m (place_of m) refl ps'

  -- what is kept after one look more
  pub kept_more : (looks looks' : List Look) (items items' : ℕ) (ps ps' : List LookPlace) (writes : List (RowKey × Option Val)) (l : Look) (at : LookPlace) → at ≡ place_of l → IsKept looks items ps writes → total_with l items ≡ Some items' → looks' ≡ looks ++ l ∷ [] → ((q : LookPlace) → list_any (λ p. is_eq (cmp q p)) ps' ≡ cond (is_eq (cmp at q)) true (list_any (λ p. is_eq (cmp q p)) ps)) → IsKept looks' items' ps' writes
  kept_more looks looks' items items' ps ps' writes l at is kept total grown more =
      let t = total_is (nat_lt 4096 (items + items_of_look l)) (items + items_of_look l) items' refl total in
      let last = read_items_last looks l in
      let count : items' ≡ read_items (looks ++ l ∷ []) = omega (arith, t.0, last, kept.counted) in
      let few : items' ≤ 4096 = omega (arith, t.0, t.1) in
      record {
        counted = count ∙ ap read_items (sym grown);
        indexed = subst (λ ls. IsIndex ls ps') (sym grown) (index_more looks ps ps' l at is kept.indexed more);
        few = few;
        few_keys = kept.few_keys;
      }

-- ---- a look, by what was found

if_none : {A B : Type 0} (b : Bool) (x : A) (y : B) → (if b then None else Some x) ≡ None → (if b then None else Some y) ≡ None
if_none true x y h = refl
if_none false x y h = absurd cc

if_some : {A B : Type 0} (b : Bool) (x z : A) (y : B) → (if b then None else Some x) ≡ Some z → (if b then None else Some y) ≡ Some y
if_some true x z y h = absurd cc
if_some false x z y h = refl

abbrev log_of : List Look → List Write → Log
log_of looks writes = record { looks = looks; writes = writes }

pub looked_again : (l : Look) (looks : List Look) (writes : List Write) → contains_look looks l ≡ true → looked l (record { looks = looks; writes = writes }) ≡ Some (record { looks = looks; writes = writes })
looked_again l looks writes h = rw h refl

looked_new : (l : Look) (looks : List Look) (writes : List Write) (items : ℕ) → contains_look looks l ≡ false → items ≡ read_items looks → looked l (log_of looks writes) ≡ (if nat_lt 4096 (items + items_of_look l) then None else Some (log_of (looks ++ l ∷ []) writes))
looked_new l looks writes items h n =
    ap (λ b. if b then Some (log_of looks writes) else if nat_lt 4096 (read_items looks + items_of_look l) then None else Some (log_of (looks ++ l ∷ []) writes)) h
    ∙ ap (λ m. if nat_lt 4096 (m + items_of_look l) then None else Some (log_of (looks ++ l ∷ []) writes)) (sym n)

pub looked_too_many : (l : Look) (looks : List Look) (writes : List Write) (items : ℕ) → contains_look looks l ≡ false → items ≡ read_items looks → total_with l items ≡ None → looked l (record { looks = looks; writes = writes }) ≡ None
looked_too_many l looks writes items h n none =
    looked_new l looks writes items h n ∙ if_none (nat_lt 4096 (items + items_of_look l)) (items + items_of_look l) (log_of (looks ++ l ∷ []) writes) none

pub looked_more : (l : Look) (looks looks' : List Look) (writes : List Write) (items items' : ℕ) → contains_look looks l ≡ false → items ≡ read_items looks → total_with l items ≡ Some items' → looks' ≡ looks ++ l ∷ [] → looked l (record { looks = looks; writes = writes }) ≡ Some (record { looks = looks'; writes = writes })
looked_more l looks looks' writes items items' h n some grown =
    looked_new l looks writes items h n
    ∙ if_some (nat_lt 4096 (items + items_of_look l)) (items + items_of_look l) items' (log_of (looks ++ l ∷ []) writes) some
    ∙ ap (λ ls. Some (log_of ls writes)) (sym grown)
