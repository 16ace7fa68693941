-- A thing of several fields is missing where one of them is.
use Rattle.std.proofs.Common.{◌≡◌, ℕ, ◌+◌, ◌<◌, ◌^◌, List, [], ◌∷◌, ◌++◌, length, sym, ◌∙◌, append_assoc, arith, length-append}
use Rattle.std.specs.List.{flat_map, AllByRecursion}
use Rattle.std.proofs.lemmas.List.{append-nil}
use Rattle.r3_bytes.specs.Spelling.{number}
use Rattle.r3_bytes.specs.Field.{BeginsNone}
use Rattle.r3_entry.specs.declared.fields.Miss.{Miss}
use Rattle.r3_entry.specs.declared.fields.Miss.TheVariants as miss
use Rattle.r3_entry.specs.Parse.{Misses, both, Both}
use Rattle.r3_value.specs.declared.value.Val.{Val}
use Rattle.r3_entry.specs.Bytes as spell
use Rattle.r3_entry.specs.Limits.{IsVal, IsArgs, AreSome}
use Rattle.r3_entry.proofs.Codes.{IsUnique, number_unique}
use Rattle.r3_entry.proofs.EntryUnique.{val_unique, args_val}

pub misses : {X Y : Type 0} (s : X → List ℕ) (I : X → Type 0) (b : List ℕ) (t : Y → List ℕ) (J : Y → Type 0) (c : List ℕ) (m : Miss) → (BeginsNone s I b → BeginsNone t J c) → Misses s I b m → Misses t J c m
misses s I b t J c miss.Absent f h = f h
misses s I b t J c miss.Memory f h = tt

-- the first field is there and the second is not
pub second_none : {X Y : Type 0} (s : X → List ℕ) (I : X → Type 0) (t : Y → List ℕ) (J : Y → Type 0) → IsUnique s I → (x : X) (bytes rest : List ℕ) → I x → bytes ≡ s x ++ rest → BeginsNone t J rest → BeginsNone (λ (p : X × Y). s p.0 ++ t p.1) (λ p. I p.0 × J p.1) bytes
second_none s I t J u x bytes rest hx b none p after is e =
    none p.1 after is.1 (u.one x p.0 rest (t p.1 ++ after) hx is.0 (sym b ∙ e ∙ append_assoc (s p.0) (t p.1) after)).1

-- ---- two fields

pub both_misses : {X Y : Type 0} (s : X → List ℕ) (I : X → Type 0) (t : Y → List ℕ) (J : Y → Type 0) → IsUnique s I → (x : X) (bytes rest : List ℕ) (m : Miss) → I x → bytes ≡ s x ++ rest → Misses t J rest m → Misses (both s t) (Both I J) bytes m
both_misses s I t J u x bytes rest m hx b = misses t J rest (both s t) (Both I J) bytes m (second_none s I t J u x bytes rest hx b)

-- a value that stands there and is no list of arguments
pub not_args : (v : Val) (bytes after : List ℕ) → IsVal v → bytes ≡ spell.val v ++ after → ¬ (IsArgs v) → BeginsNone spell.val IsArgs bytes
not_args v bytes after is b bad w tail hw e =
    let one = val_unique.one v w after tail is (args_val w hw) (sym b ∙ e) in
    bad (rw one.0 hw)

-- what is missing among more is missing among fewer
pub fewer_misses : {X : Type 0} (s : X → List ℕ) (I J : X → Type 0) → ((x : X) → J x → I x) → (bytes : List ℕ) (m : Miss) → Misses s I bytes m → Misses s J bytes m
fewer_misses s I J f bytes m = misses s I bytes s J bytes m (λ none x after is e. none x after (f x is) e)

-- a number that stands there and is too large
pub not_number : (J : ℕ → Type 0) (n : ℕ) (bytes after : List ℕ) → ((k : ℕ) → J k → k < 2 ^ 32) → n < 2 ^ 32 → bytes ≡ number n ++ after → ¬ (J n) → BeginsNone number J bytes
not_number J n bytes after fits is b bad k tail hk e =
    let one = number_unique.one n k after tail is (fits k hk) (sym b ∙ e) in
    bad (rw one.0 hk)

-- ---- lists

no_more : {X : Type 0} (s : X → List ℕ) (I : X → Type 0) → IsUnique s I → (front xs : List X) (a b : List ℕ) → AllByRecursion I front → AllByRecursion I xs → length front < length xs → flat_map s front ++ a ≡ flat_map s xs ++ b → BeginsNone s I a → ⊥
no_more s I u [] [] a b hf hx lt e none = omega arith
no_more s I u [] (x ∷ xs) a b hf hx lt e none = none x (flat_map s xs ++ b) hx.0 (e ∙ append_assoc (s x) (flat_map s xs) b)
no_more s I u (f ∷ fs) [] a b hf hx lt e none = omega arith
no_more s I u (f ∷ fs) (x ∷ xs) a b hf hx lt e none =
    let first = u.one f x (flat_map s fs ++ a) (flat_map s xs ++ b) hf.0 hx.0 (sym (append_assoc (s f) (flat_map s fs) a) ∙ e ∙ append_assoc (s x) (flat_map s xs) b) in
    no_more s I u fs xs a b hf.1 hx.1 (omega arith) first.1 none

-- what a loop over a count keeps: the items read so far, from the bytes behind the count
pub record HasRead {X : Type 0} (s : X → List ℕ) (I : X → Type 0) (n : ℕ) (xs : List X) (bytes rest : List ℕ) : Type 0 where
  pub parts : bytes ≡ flat_map s xs ++ rest
  pub all : AllByRecursion I xs
  pub count : length xs ≡ n

pub list_misses : {X : Type 0} (s : X → List ℕ) (I : X → Type 0) → IsUnique s I → (n i : ℕ) (xs : List X) (bytes start rest : List ℕ) (m : Miss) → n < 2 ^ 32 → bytes ≡ number n ++ start → HasRead s I i xs start rest → i < n → Misses s I rest m → Misses (spell.list s) (AreSome I) bytes m
list_misses s I u n i xs bytes start rest m fits b has lt = misses s I rest (spell.list s) (AreSome I) bytes m
    (λ none ys after is e.
    let head = number_unique.one n (length ys) start (flat_map s ys ++ after) fits is.0 (sym b ∙ e ∙ append_assoc (number (length ys)) (flat_map s ys) after) in
    no_more s I u xs ys rest after has.all is.1 (omega (arith, has.count, head.0)) (sym has.parts ∙ head.1) none)

all_push : {X : Type 0} (I : X → Type 0) (xs : List X) (x : X) → AllByRecursion I xs → I x → AllByRecursion I (xs ++ x ∷ [])
all_push I [] x h is = (is, tt)
all_push I (y ∷ ys) x h is = (h.0, all_push I ys x h.1 is)

flat_push : {X : Type 0} (s : X → List ℕ) (xs : List X) (x : X) → flat_map s (xs ++ x ∷ []) ≡ flat_map s xs ++ s x
flat_push s [] x = append-nil (s x)
flat_push s (y ∷ ys) x = rw (flat_push s ys x) (sym (append_assoc (s y) (flat_map s ys) (s x)))

pub HasRead-push : {X : Type 0} (s : X → List ℕ) (I : X → Type 0) (i : ℕ) (xs new : List X) (x : X) (bytes rest after : List ℕ) → new ≡ xs ++ x ∷ [] → HasRead s I i xs bytes rest → I x → rest ≡ s x ++ after → HasRead s I (i + 1) new bytes after
HasRead-push s I i xs new x bytes rest after n has is r = record {
  parts = has.parts ∙ rw (n, flat_push s xs x, r) (sym (append_assoc (flat_map s xs) (s x) after));
  all = rw n (all_push I xs x has.all is);
  count = rw n (omega (arith, length-append xs (x ∷ []), has.count));
}

pub HasRead-all : {X : Type 0} (s : X → List ℕ) (I : X → Type 0) (n : ℕ) (xs : List X) (bytes start rest : List ℕ) → n < 2 ^ 32 → bytes ≡ number n ++ start → HasRead s I n xs start rest → AreSome I xs × (bytes ≡ spell.list s xs ++ rest)
HasRead-all s I n xs bytes start rest fits b has =
    ((omega (arith, has.count, fits), has.all), rw (has.count, b, has.parts) (sym (append_assoc (number n) (flat_map s xs) rest)))
