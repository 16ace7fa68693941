-- The set of the names in scope, as names come and go.
use Rattle.std.proofs.Common.{◌≡◌, ℕ, ◌+◌, ◌<◌, zero, suc, Bool, true, false, cond, List, [], ◌∷◌, ◌++◌, Result, Ok, Err, refl, ap, sym, subst, ◌∙◌, length, length-append, take, get_or, arith}
use Rattle.std.specs.Prelude.{◌&&◌, ◌||◌, not}
use Rattle.std.specs.Str.{bytes_eq}
use Rattle.std.specs.List.{list_any}
use Rattle.std.specs.Ordering.{nat_cmp}
use Rattle.std.specs.Cmp.Lexicographic.{slice_cmp}
use Rattle.std.specs.BTreeSet.{BTreeSet}
use Rattle.std.specs.BTreeSet as sorted
use Rattle.std.specs.BTreeMap.{is_at}
use Rattle.std.proofs.lemmas.List.{take-append-le}
use Rattle.std.proofs.lemmas.Map.Text.{is_eq-slice_cmp}
use Rattle.fn_tree.specs.Soundness.{Scope, contains, is_distinct}
use Rattle.fn_meaning.proofs.SoundExpression.{and_first, and_second}
use Rattle.fn_check.specs.declared.fault.CheckKind.{CheckKind}
use Rattle.fn_check.specs.declared.fault.CheckKind.TheVariants.{DuplicateName}
use Rattle.fn_check.specs.Found.{then_, needs}
use Rattle.fn_check.specs.Known.{Keeps}
use Rattle.fn_check.proofs.BoolLemmas.{or_false, first_false, second_false, neither, not_false}
use Rattle.fn_check.proofs.NameLemmas.{same_bytes, other, contains_last, distinct_last, distinct_middle, distinct_front}

abbrev Names : Type 0
Names = BTreeSet (List ℕ)

pub known_none : (s : Names) → sorted.IsEmpty s → Keeps s []
known_none s e = record { distinct = refl; same = λ q. ap (λ (ks : List (List ℕ)). list_any (is_at (slice_cmp nat_cmp q)) ks) e }

pub known_unchanged : (s n : Names) (names : Scope) → Keeps s names → sorted.IsUnchanged s n → Keeps n names
known_unchanged s n names k e = record { distinct = k.distinct; same = λ q. ap (λ (ks : List (List ℕ)). list_any (is_at (slice_cmp nat_cmp q)) ks) e ∙ k.same q }

pub known_is : (s : Names) (names : Scope) (q : List ℕ) → Keeps s names → sorted.contains (slice_cmp nat_cmp) s q ≡ contains names q
known_is s names q k = k.same q

here_or : (b c : Bool) → cond b true c ≡ (c || b)
here_or true true = refl
here_or true false = refl
here_or false c = sym (or_false c)

pub known_more : (s n : Names) (names : Scope) (name : List ℕ) → Keeps s names → contains names name ≡ false → sorted.Updates (slice_cmp nat_cmp) s n name true → Keeps n (names ++ name ∷ [])
known_more s n names name k new u = record {
  distinct = distinct_last names name k.distinct new;
  same = λ q.
      u.0 q
      ∙ ap (λ (b : Bool). cond b true (sorted.contains (slice_cmp nat_cmp) s q)) (is_eq-slice_cmp name q)
      ∙ ap (λ (c : Bool). cond (bytes_eq name q) true c) (k.same q)
      ∙ here_or (bytes_eq name q) (contains names q)
      ∙ sym (contains_last names name q);
}

gone_or : (b c : Bool) → (b ≡ true → c ≡ false) → cond b false (c || b) ≡ c
gone_or true c h = sym (h refl)
gone_or false c h = or_false c

pub known_less : (s n : Names) (names : Scope) (name : List ℕ) → Keeps s (names ++ name ∷ []) → sorted.Updates (slice_cmp nat_cmp) s n name false → Keeps n names
known_less s n names name k u = record {
  distinct = distinct_front names (name ∷ []) k.distinct;
  same = λ q.
      u.0 q
      ∙ ap (λ (b : Bool). cond b false (sorted.contains (slice_cmp nat_cmp) s q)) (is_eq-slice_cmp name q)
      ∙ ap (λ (c : Bool). cond (bytes_eq name q) false c) (k.same q ∙ contains_last names name q)
      ∙ gone_or (bytes_eq name q) (contains names q) (λ e. subst (λ (x : List ℕ). contains names x ≡ false) (same_bytes name q e) (distinct_middle names [] name k.distinct));
}

absent_at : (xs : Scope) (i : ℕ) (d x : List ℕ) → i < length xs → contains xs x ≡ false → bytes_eq (get_or xs i d) x ≡ false
absent_at [] i d x lt e = absurd (omega (arith, lt))
absent_at (y ∷ xs) zero d x lt e = first_false (bytes_eq y x) (contains xs x) e
absent_at (y ∷ xs) (suc i) d x lt e = absent_at xs i d x (omega (arith, lt)) (second_false (bytes_eq y x) (contains xs x) e)

-- a parameter isn't among those before it
pub distinct_at : (xs : Scope) (i : ℕ) (d : List ℕ) → i < length xs → is_distinct xs ≡ true → contains (take i xs) (get_or xs i d) ≡ false
distinct_at [] i d lt e = absurd (omega (arith, lt))
distinct_at (x ∷ xs) zero d lt e = refl
distinct_at (x ∷ xs) (suc i) d lt e =
    neither (bytes_eq x (get_or xs i d)) (contains (take i xs) (get_or xs i d))
    (other (get_or xs i d) x (absent_at xs i d x (omega (arith, lt)) (not_false (contains xs x) (and_first (not (contains xs x)) (is_distinct xs) e))))
    (distinct_at xs i d (omega (arith, lt)) (and_second (not (contains xs x)) (is_distinct xs) e))

-- what passed as a new name isn't in scope
pub new_is : (c : Bool) → needs (not c) DuplicateName ≡ Ok tt → c ≡ false
new_is true e = absurd cc
new_is false e = refl

pub new_then : (c : Bool) (r : Result (Unit {0}) CheckKind) → then_ (needs (not c) DuplicateName) (λ u. r) ≡ Ok tt → c ≡ false
new_then true r e = absurd cc
new_then false r e = refl

-- a name is pushed to the list and added to the set
pub known_pushed : (s n : Names) (old view pushed : Scope) (name key value : List ℕ) → Keeps s old → contains view name ≡ false → sorted.Updates (slice_cmp nat_cmp) s n key true
    → view ≡ old → key ≡ name → value ≡ name → pushed ≡ old ++ value ∷ [] → Keeps n pushed
known_pushed s n old view pushed name key value k new u seen is_key is_value made =
    let fresh : contains old name ≡ false = subst (λ (xs : Scope). contains xs name ≡ false) seen new in
    let added : sorted.Updates (slice_cmp nat_cmp) s n name true = subst (λ (x : List ℕ). sorted.Updates (slice_cmp nat_cmp) s n x true) is_key u in
    subst (λ (xs : Scope). Keeps n xs) (ap (λ (x : List ℕ). old ++ x ∷ []) (sym is_value) ∙ sym made) (known_more s n old name k fresh added)

-- a name is popped from the list and removed from the set
pub known_popped : (s n : Names) (whole rest : Scope) (name : List ℕ) → Keeps s whole → sorted.Updates (slice_cmp nat_cmp) s n name false → whole ≡ rest ++ name ∷ [] → Keeps n rest
known_popped s n whole rest name k u same = known_less s n rest name (subst (λ (xs : Scope). Keeps s xs) same k) u

pub kept_popped : (len : ℕ) (whole rest first : Scope) (name : List ℕ) → whole ≡ rest ++ name ∷ [] → len < length whole → take len whole ≡ take len first → take len rest ≡ take len first
kept_popped len whole rest first name same lt e =
    let longer : length whole ≡ length rest + 1 = ap (λ (xs : Scope). length xs) same ∙ length-append rest (name ∷ []) in
    sym (take-append-le len rest (name ∷ []) (omega (arith, lt, longer))) ∙ ap (λ (xs : Scope). take len xs) (sym same) ∙ e
