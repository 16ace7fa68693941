-- Operators that give a Bool.
use Rattle.r3_value.specs.SameLaws.{same_val}
use Rattle.r3_value.specs.declared.value.Outcome.{Outcome}
use Rattle.r3_value.specs.declared.value.Outcome.TheVariants.{Value}
use Rattle.r3_value.specs.declared.value.Val.{Val}
use Rattle.r3_value.specs.declared.value.Val.TheVariants.{Bool as Truth, Int, Text}
use Rattle.std.specs.Prelude.{ℕ, ℤ, Bool, true, false, not, ◌&&◌, ◌||◌, List, [], ◌∷◌, Option, Some, None, nat_lt, nat_eq, int_lt, int_le}
use Rattle.fn_tree.specs.Values.{bool_of}
use Rattle.fn_tree.specs.Arithmetic.{type_failure}

unfoldable pub equal : Val → Val → Outcome
equal a b = Value (Truth (same_val a b))

unfoldable pub unequal : Val → Val → Outcome
unequal a b = Value (Truth (not (same_val a b)))

-- the first text stands before the second in byte order
abbrev pub bytes_lt : List ℕ → List ℕ → Bool
bytes_lt s [] = false
bytes_lt [] (y ∷ t) = true
bytes_lt (x ∷ s) (y ∷ t) = nat_lt x y || (nat_eq x y && bytes_lt s t)

-- compares two Ints, or two texts by bytes
abbrev pub compared : (ℤ → ℤ → Bool) → (List ℕ → List ℕ → Bool) → Val → Val → Outcome
compared f g (Int x) (Int y) = Value (Truth (f x y))
compared f g (Text s) (Text t) = Value (Truth (g s t))
compared f g _ _ = type_failure

unfoldable pub less : Val → Val → Outcome
less a b = compared int_lt bytes_lt a b

unfoldable pub less_or_equal : Val → Val → Outcome
less_or_equal a b = compared int_le (λ s t. not (bytes_lt t s)) a b

unfoldable pub greater : Val → Val → Outcome
greater a b = compared (λ x y. int_lt y x) (λ s t. bytes_lt t s) a b

unfoldable pub greater_or_equal : Val → Val → Outcome
greater_or_equal a b = compared (λ x y. int_le y x) (λ s t. not (bytes_lt s t)) a b

abbrev pub on_truth : (Bool → Outcome) → Option Bool → Outcome
on_truth f (Some b) = f b
on_truth f None = type_failure

unfoldable pub inverted : Val → Outcome
inverted a = on_truth (λ b. Value (Truth (not b))) (bool_of a)

-- a bool, else the failure `type`: the second operand of `&&` and `||`
unfoldable pub truth : Val → Outcome
truth a = on_truth (λ b. Value (Truth b)) (bool_of a)
