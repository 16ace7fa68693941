-- Operators on values within the limits give such values, or fail with a text.
use Rattle.std.proofs.Common.{◌≡◌, subst, ℕ, zero, suc, ◌+◌, ◌≤◌, ◌<◌, ◌^◌, ℤ, Bool, true, false, not, List, [], ◌∷◌, ◌++◌, length, Option, Some, None, refl, sym, arith}
use Rattle.std.specs.Prelude.{pos, negsuc, ◌+ℤ◌, ◌-ℤ◌, ◌*ℤ◌, neg_ℤ, int_div, int_rem, int_lt, int_le, nat_lt, codes, if◌then◌else◌, Ok, Err, FitsSigned}
use Rattle.std.specs.Int.{w64}
use Rattle.std.specs.Fmt.{signed_decimal}
use Rattle.std.specs.Str.{is_utf8, chars}
use lib.Utf8.{encode}
use Rattle.std.proofs.lemmas.Bool.{and_from, and_parts, ltb-true, ltb-false, lt-ltb}
use Rattle.std.proofs.lemmas.Fmt.{length_signed_le, IsAscii-signed}
use Rattle.std.proofs.lemmas.Int.{ints, fits_signed_from_abs, rem_below, quot_fits}
use Rattle.std.proofs.lemmas.Str.{IsUtf8-from_is_utf8, is_utf8-from_IsUtf8, IsUtf8-append, IsUtf8-from_ascii}
use Rattle.r3_value.specs.declared.fault.ValFault.TheVariants.{TooLarge, TooDeep}
use Rattle.r3_value.specs.declared.value.Outcome.{Outcome}
use Rattle.r3_value.specs.declared.value.Outcome.TheVariants.{Value, Failure}
use Rattle.r3_value.specs.declared.value.Val.{Val}
use Rattle.r3_value.specs.declared.value.Val.TheVariants.{Null, Bool as Truth, Int, Text, List as ListOf}
use Rattle.r3_value.specs.Value.{Value as Plain, null, boolean, integer, text, list, Items, no_items, item, weight, weights, depth, depths, AreProper, IsValue}
use Rattle.r3_value.specs.View.{value_of, val_of, vals_of, items_of}
use Rattle.r3_value.proofs.ItemsLemmas.{weight-pos}
use Rattle.fn_tree.specs.Arithmetic.{type_failure, fits_i64, int_or_overflow, on_ints, on_int, divided, sum, difference, product, quotient, remainder, negated}
use Rattle.fn_tree.specs.Comparison.{bytes_lt, compared, equal, unequal, less, less_or_equal, greater, greater_or_equal, on_truth, inverted, truth}
use Rattle.fn_tree.specs.Literals.{is_text}
use Rattle.fn_tree.specs.Sequences.{value_or_size, list_or_size, text_or_size, joined, length_of, shown, item_at, indexed_by, indexed}
use Rattle.fn_tree.specs.Values.{int_of, bool_of, text_of, items_of as list_of}
use Rattle.fn_meaning.specs.ValueLimits.{IsVal, AreVals, IsWord, IsOutcome}

-- ---- texts

pub text_utf8 : (t : List ℕ) → is_text t ≡ true → is_utf8 t ≡ true
text_utf8 t h = (and_parts (is_utf8 t) (nat_lt (length t) 4092) h).0

pub text_short : (t : List ℕ) → is_text t ≡ true → length t ≤ 4091
text_short t h = let less_than : length t < 4092 = ltb-true (length t) 4092 (and_parts (is_utf8 t) (nat_lt (length t) 4092) h).1 in omega (arith, less_than)

pub text_is : (t : List ℕ) → is_utf8 t ≡ true → length t ≤ 4091 → is_text t ≡ true
text_is t u short = and_from (is_utf8 t) (nat_lt (length t) 4092) u (lt-ltb (length t) 4092 (omega arith))

pub text_val : (t : List ℕ) → is_text t ≡ true → IsVal (Text t)
text_val t h = record { proper = text_utf8 t h; small = omega (arith, text_short t h); shallow = omega arith }

pub val_text : (t : List ℕ) → IsVal (Text t) → is_text t ≡ true
val_text t h = text_is t h.proper (omega (arith, h.small))

-- ---- the words of failures

pub type_word : IsWord (codes "type")
unfolding is_utf8 chars encode
type_word = refl

pub size_word : IsWord (codes "size")
unfolding is_utf8 chars encode
size_word = refl

pub overflow_word : IsWord (codes "overflow")
unfolding is_utf8 chars encode
overflow_word = refl

pub zero_word : IsWord (codes "zero")
unfolding is_utf8 chars encode
zero_word = refl

pub index_word : IsWord (codes "index")
unfolding is_utf8 chars encode
index_word = refl

pub budget_word : IsWord (codes "budget")
unfolding is_utf8 chars encode
budget_word = refl

pub type_within : IsOutcome type_failure
unfolding type_failure
type_within = type_word

-- ---- plain values

pub null_val : IsVal Null
null_val = record { proper = tt; small = omega arith; shallow = omega arith }

pub truth_val : (b : Bool) → IsVal (Truth b)
truth_val b = record { proper = tt; small = omega arith; shallow = omega arith }

pub fits_signed : (z : ℤ) → fits_i64 z ≡ true → FitsSigned w64 z
fits_signed (pos n) h = let less_than : n < 2 ^ 63 = ltb-true n (2 ^ 63) h in record { sfits = omega (arith, less_than) }
fits_signed (negsuc n) h = let less_than : n < 2 ^ 63 = ltb-true n (2 ^ 63) h in record { sfits = omega (arith, less_than) }

pub int_val : (z : ℤ) → FitsSigned w64 z → IsVal (Int z)
int_val z h = record { proper = h; small = omega arith; shallow = omega arith }

-- ---- lists

pub are_proper : (vs : List Val) → AreVals vs → AreProper (items_of vs)
are_proper [] h = tt
are_proper (v ∷ vs) h = (h.0.proper, are_proper vs h.1)

val_back : (v : Plain) → value_of (val_of v) ≡ v
val_back null = refl
val_back (boolean b) = refl
val_back (integer z) = refl
val_back (text s) = refl
val_back (list vs) = refl

items_within : (vs : Items) → AreProper vs → weights vs ≤ 4096 → depths vs ≤ 16 → AreVals (vals_of vs)
items_within no_items p w d = tt
items_within (item v vs) p w d =
    (subst IsValue (sym (val_back v)) (record { proper = p.0; small = omega arith; shallow = omega arith }), items_within vs p.1 (omega arith) (omega arith))

-- the items of a list are values
pub list_items : (vs : Items) → IsVal (ListOf vs) → AreVals (vals_of vs)
list_items vs h = items_within vs h.proper (omega (arith, h.small)) (omega (arith, h.shallow))

count_le : (vs : Items) → length (vals_of vs) ≤ weights vs
count_le no_items = omega arith
count_le (item v vs) = omega (arith, weight-pos v, count_le vs)

-- the list of these values, or a failure
abbrev pub ListsAs : List Val → Outcome → Type 0
ListsAs vs (Value v) = IsVal v × (v ≡ ListOf (items_of vs))
ListsAs vs (Failure word) = IsWord word

lists_by : (vs : List Val) (a b : Bool) (n : ℕ) → AreProper (items_of vs) → (a ≡ false → weight (list (items_of vs)) ≤ 4096) → (b ≡ false → depth (list (items_of vs)) ≤ 16)
    → ListsAs vs (value_or_size (if a then Err (TooLarge n) else if b then Err TooDeep else Ok (ListOf (items_of vs))))
lists_by vs true b n p f g = size_word
lists_by vs false true n p f g = size_word
lists_by vs false false n p f g = (record { proper = p; small = f refl; shallow = g refl }, refl)

-- a list is made within the limits, whatever its items weigh
pub lists_as : (vs : List Val) → AreProper (items_of vs) → ListsAs vs (list_or_size vs)
unfolding list_or_size
lists_as vs p =
    lists_by vs (nat_lt 4096 (weight (list (items_of vs)))) (nat_lt 16 (depth (list (items_of vs)))) (weight (list (items_of vs))) p
    (λ e. ltb-false 4096 (weight (list (items_of vs))) e) (λ e. ltb-false 16 (depth (list (items_of vs))) e)

listed : (vs : List Val) (o : Outcome) → ListsAs vs o → IsOutcome o
listed vs (Value v) h = h.0
listed vs (Failure word) h = h

pub list_within : (vs : List Val) → AreProper (items_of vs) → IsOutcome (list_or_size vs)
list_within vs p = listed vs (list_or_size vs) (lists_as vs p)

-- ---- the parts of values

abbrev IntFits : Option ℤ → Type 0
IntFits None = Unit {0}
IntFits (Some z) = FitsSigned w64 z

int_fits : (v : Val) → IsVal v → IntFits (int_of v)
int_fits Null h = tt
int_fits (Truth b) h = tt
int_fits (Int z) h = h.proper
int_fits (Text t) h = tt
int_fits (ListOf vs) h = tt

abbrev pub TextFits : Option (List ℕ) → Type 0
TextFits None = Unit {0}
TextFits (Some t) = IsWord t

pub text_fits : (v : Val) → IsVal v → TextFits (text_of v)
text_fits Null h = tt
text_fits (Truth b) h = tt
text_fits (Int z) h = tt
text_fits (Text t) h = val_text t h
text_fits (ListOf vs) h = tt

abbrev pub ListFits : Option (List Val) → Type 0
ListFits None = Unit {0}
ListFits (Some vs) = AreVals vs

pub list_fits : (v : Val) → IsVal v → ListFits (list_of v)
list_fits Null h = tt
list_fits (Truth b) h = tt
list_fits (Int z) h = tt
list_fits (Text t) h = tt
list_fits (ListOf vs) h = list_items vs h

-- ---- operators on Ints

abbrev Fits64 : ℤ → Type 0
Fits64 z = FitsSigned w64 z

on_ints_within : (f : ℤ → ℤ → Outcome) (a b : Option ℤ) → IntFits a → IntFits b → ((x y : ℤ) → Fits64 x → Fits64 y → IsOutcome (f x y)) → IsOutcome (on_ints f a b)
on_ints_within f None b h g k = type_within
on_ints_within f (Some x) None h g k = type_within
on_ints_within f (Some x) (Some y) h g k = k x y h g

overflow_by : (b : Bool) (z : ℤ) → (b ≡ true → Fits64 z) → IsOutcome (if b then Value (Int z) else Failure (codes "overflow"))
overflow_by true z h = int_val z (h refl)
overflow_by false z h = overflow_word

overflow_within : (z : ℤ) → IsOutcome (int_or_overflow z)
overflow_within z = overflow_by (fits_i64 z) z (fits_signed z)

pub sum_within : (a b : Val) → IsVal a → IsVal b → IsOutcome (sum a b)
unfolding sum
sum_within a b h g = on_ints_within (λ x y. int_or_overflow (x +ℤ y)) (int_of a) (int_of b) (int_fits a h) (int_fits b g) (λ x y p q. overflow_within (x +ℤ y))

pub difference_within : (a b : Val) → IsVal a → IsVal b → IsOutcome (difference a b)
unfolding difference
difference_within a b h g = on_ints_within (λ x y. int_or_overflow (x -ℤ y)) (int_of a) (int_of b) (int_fits a h) (int_fits b g) (λ x y p q. overflow_within (x -ℤ y))

pub product_within : (a b : Val) → IsVal a → IsVal b → IsOutcome (product a b)
unfolding product
product_within a b h g = on_ints_within (λ x y. int_or_overflow (x *ℤ y)) (int_of a) (int_of b) (int_fits a h) (int_fits b g) (λ x y p q. overflow_within (x *ℤ y))

divided_within : (f : ℤ → ℤ → ℤ) (x y : ℤ) → Fits64 y → ((n : ℕ) → Fits64 (pos (suc n)) → Fits64 (f x (pos (suc n)))) → ((n : ℕ) → Fits64 (negsuc n) → fits_i64 (int_div x (negsuc n)) ≡ true → Fits64 (f x (negsuc n))) → IsOutcome (divided f x y)
divided_within f x (pos zero) fits h g = zero_word
divided_within f x (pos (suc n)) fits h g = int_val (f x (pos (suc n))) (h n fits)
divided_within f x (negsuc n) fits h g = overflow_by (fits_i64 (int_div x (negsuc n))) (f x (negsuc n)) (g n fits)

pub quotient_within : (a b : Val) → IsVal a → IsVal b → IsOutcome (quotient a b)
unfolding quotient
quotient_within a b h g = on_ints_within (divided int_div) (int_of a) (int_of b) (int_fits a h) (int_fits b g)
    (λ x y p q. divided_within int_div x y q (λ n r. quot_fits w64 x (pos (suc n)) p (omega (arith, ints))) (λ n r e. fits_signed (int_div x (negsuc n)) e))

rem_pos : (x : ℤ) (n : ℕ) → Fits64 (pos (suc n)) → Fits64 (int_rem x (pos (suc n)))
rem_pos x n h = fits_signed_from_abs w64 (int_rem x (pos (suc n))) (omega (arith, h.sfits, rem_below x (pos (suc n)) (omega arith)))

rem_neg : (x : ℤ) (n : ℕ) → Fits64 (negsuc n) → Fits64 (int_rem x (negsuc n))
rem_neg x n h = fits_signed_from_abs w64 (int_rem x (negsuc n)) (omega (arith, h.sfits, rem_below x (negsuc n) (omega arith)))

pub remainder_within : (a b : Val) → IsVal a → IsVal b → IsOutcome (remainder a b)
unfolding remainder
remainder_within a b h g = on_ints_within (divided int_rem) (int_of a) (int_of b) (int_fits a h) (int_fits b g)
    (λ x y p q. divided_within int_rem x y q (λ n r. rem_pos x n r) (λ n r e. rem_neg x n r))

on_int_within : (f : ℤ → Outcome) (o : Option ℤ) → ((x : ℤ) → IsOutcome (f x)) → IsOutcome (on_int f o)
on_int_within f (Some x) k = k x
on_int_within f None k = type_within

pub negated_within : (a : Val) → IsVal a → IsOutcome (negated a)
unfolding negated
negated_within a h = on_int_within (λ x. int_or_overflow (neg_ℤ x)) (int_of a) (λ x. overflow_within (neg_ℤ x))

-- ---- operators that give a Bool

compared_within : (f : ℤ → ℤ → Bool) (g : List ℕ → List ℕ → Bool) (a b : Val) → IsOutcome (compared f g a b)
compared_within f g Null b = type_within
compared_within f g (Truth x) b = type_within
compared_within f g (ListOf vs) b = type_within
compared_within f g (Int x) Null = type_within
compared_within f g (Int x) (Truth y) = type_within
compared_within f g (Int x) (Int y) = truth_val (f x y)
compared_within f g (Int x) (Text t) = type_within
compared_within f g (Int x) (ListOf ws) = type_within
compared_within f g (Text s) Null = type_within
compared_within f g (Text s) (Truth y) = type_within
compared_within f g (Text s) (Int y) = type_within
compared_within f g (Text s) (Text t) = truth_val (g s t)
compared_within f g (Text s) (ListOf ws) = type_within

pub equal_within : (a b : Val) → IsOutcome (equal a b)
unfolding equal
equal_within a b = truth_val _

pub unequal_within : (a b : Val) → IsOutcome (unequal a b)
unfolding unequal
unequal_within a b = truth_val _

pub less_within : (a b : Val) → IsOutcome (less a b)
unfolding less
less_within a b = compared_within int_lt bytes_lt a b

pub less_or_equal_within : (a b : Val) → IsOutcome (less_or_equal a b)
unfolding less_or_equal
less_or_equal_within a b = compared_within int_le (λ s t. not (bytes_lt t s)) a b

pub greater_within : (a b : Val) → IsOutcome (greater a b)
unfolding greater
greater_within a b = compared_within (λ x y. int_lt y x) (λ s t. bytes_lt t s) a b

pub greater_or_equal_within : (a b : Val) → IsOutcome (greater_or_equal a b)
unfolding greater_or_equal
greater_or_equal_within a b = compared_within (λ x y. int_le y x) (λ s t. not (bytes_lt s t)) a b

on_truth_within : (f : Bool → Outcome) (o : Option Bool) → ((b : Bool) → IsOutcome (f b)) → IsOutcome (on_truth f o)
on_truth_within f (Some b) k = k b
on_truth_within f None k = type_within

pub inverted_within : (a : Val) → IsOutcome (inverted a)
unfolding inverted
inverted_within a = on_truth_within (λ b. Value (Truth (not b))) (bool_of a) (λ b. truth_val (not b))

pub truth_within : (a : Val) → IsOutcome (truth a)
unfolding truth
truth_within a = on_truth_within (λ b. Value (Truth b)) (bool_of a) truth_val

-- ---- operators on texts and lists

text_by : (b : Bool) (t : List ℕ) → (b ≡ false → is_text t ≡ true) → IsOutcome (if b then Failure (codes "size") else Value (Text t))
text_by true t h = size_word
text_by false t h = text_val t (h refl)

text_within : (t : List ℕ) → is_utf8 t ≡ true → IsOutcome (text_or_size t)
unfolding text_or_size
text_within t u = text_by (nat_lt 4091 (length t)) t (λ e. text_is t u (ltb-false 4091 (length t) e))

utf8_append : (s t : List ℕ) → is_utf8 s ≡ true → is_utf8 t ≡ true → is_utf8 (s ++ t) ≡ true
utf8_append s t a b = is_utf8-from_IsUtf8 (s ++ t) (IsUtf8-append s t (IsUtf8-from_is_utf8 s a) (IsUtf8-from_is_utf8 t b))

proper_append : (vs ws : List Val) → AreProper (items_of vs) → AreProper (items_of ws) → AreProper (items_of (vs ++ ws))
proper_append [] ws h g = g
proper_append (v ∷ vs) ws h g = (h.0, proper_append vs ws h.1 g)

pub joined_within : (a b : Val) → IsVal a → IsVal b → IsOutcome (joined a b)
unfolding joined
joined_within Null b h g = type_within
joined_within (Truth x) b h g = type_within
joined_within (Int x) b h g = type_within
joined_within (Text s) Null h g = type_within
joined_within (Text s) (Truth y) h g = type_within
joined_within (Text s) (Int y) h g = type_within
joined_within (Text s) (Text t) h g = text_within (s ++ t) (utf8_append s t h.proper g.proper)
joined_within (Text s) (ListOf ws) h g = type_within
joined_within (ListOf vs) Null h g = type_within
joined_within (ListOf vs) (Truth y) h g = type_within
joined_within (ListOf vs) (Int y) h g = type_within
joined_within (ListOf vs) (Text t) h g = type_within
joined_within (ListOf vs) (ListOf ws) h g =
    list_within (vals_of vs ++ vals_of ws) (proper_append (vals_of vs) (vals_of ws) (are_proper (vals_of vs) (list_items vs h)) (are_proper (vals_of ws) (list_items ws g)))

few_fit : (n : ℕ) → n ≤ 4096 → Fits64 (pos n)
few_fit n h = record { sfits = omega arith }

pub length_within : (a : Val) → IsVal a → IsOutcome (length_of a)
unfolding length_of
length_within Null h = type_within
length_within (Truth x) h = type_within
length_within (Int x) h = type_within
length_within (Text t) h = int_val (pos (length t)) (few_fit (length t) (omega (arith, h.small)))
length_within (ListOf vs) h = int_val (pos (length (vals_of vs))) (few_fit (length (vals_of vs)) (omega (arith, h.small, count_le vs)))

decimal_text : (z : ℤ) → Fits64 z → is_text (signed_decimal z) ≡ true
decimal_text z h =
    text_is (signed_decimal z) (is_utf8-from_IsUtf8 (signed_decimal z) (IsUtf8-from_ascii (signed_decimal z) (IsAscii-signed z h.sfits)))
    (omega (arith, length_signed_le 20 z (omega (arith, h.sfits)) h.sfits))

pub shown_within : (a : Val) → IsVal a → IsOutcome (shown a)
unfolding shown
shown_within Null h = type_within
shown_within (Truth x) h = type_within
shown_within (Int z) h = text_val (signed_decimal z) (decimal_text z h.proper)
shown_within (Text t) h = h
shown_within (ListOf vs) h = type_within

item_within : (vs : List Val) → AreVals vs → (n : ℕ) → IsOutcome (item_at vs (pos n))
item_within [] h n = index_word
item_within (v ∷ vs) h zero = h.0
item_within (v ∷ vs) h (suc n) = item_within vs h.1 n

at_within : (vs : List Val) → AreVals vs → (z : ℤ) → IsOutcome (item_at vs z)
at_within vs h (pos n) = item_within vs h n
at_within vs h (negsuc n) = index_word

by_within : (vs : Option (List Val)) (z : Option ℤ) → ListFits vs → IsOutcome (indexed_by vs z)
by_within None z h = type_within
by_within (Some vs) None h = type_within
by_within (Some vs) (Some z) h = at_within vs h z

pub indexed_within : (a i : Val) → IsVal a → IsOutcome (indexed a i)
unfolding indexed
indexed_within a i h = by_within (list_of a) (int_of i) (list_fits a h)
