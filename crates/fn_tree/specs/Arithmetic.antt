-- Operators on Ints.
use Rattle.r3_value.specs.declared.value.Outcome.{Outcome}
use Rattle.r3_value.specs.declared.value.Outcome.TheVariants.{Value, Failure}
use Rattle.r3_value.specs.declared.value.Val.{Val}
use Rattle.r3_value.specs.declared.value.Val.TheVariants.{Int}
use Rattle.std.specs.Prelude.{zero, suc, ℤ, pos, negsuc, ◌^◌, ◌+ℤ◌, ◌-ℤ◌, ◌*ℤ◌, neg_ℤ, int_div, int_rem, Bool, codes, Option, Some, None, nat_lt, if◌then◌else◌}
use Rattle.fn_tree.specs.Values.{int_of}

unfoldable pub type_failure : Outcome
type_failure = Failure (codes "type")

abbrev pub fits_i64 : ℤ → Bool
fits_i64 (pos n) = nat_lt n (2 ^ 63)
fits_i64 (negsuc n) = nat_lt n (2 ^ 63)

-- an Int, unless it leaves i64
abbrev pub int_or_overflow : ℤ → Outcome
int_or_overflow z = if fits_i64 z then Value (Int z) else Failure (codes "overflow")

-- an operator on two Ints
abbrev pub on_ints : (ℤ → ℤ → Outcome) → Option ℤ → Option ℤ → Outcome
on_ints f (Some x) (Some y) = f x y
on_ints f None b = type_failure
on_ints f (Some x) None = type_failure

abbrev pub on_int : (ℤ → Outcome) → Option ℤ → Outcome
on_int f (Some x) = f x
on_int f None = type_failure

-- A quotient or a remainder: a zero divisor fails with `zero`, and the least number by -1 with `overflow`.
abbrev pub divided : (ℤ → ℤ → ℤ) → ℤ → ℤ → Outcome
divided f x (pos zero) = Failure (codes "zero")
divided f x (pos (suc n)) = Value (Int (f x (pos (suc n))))
divided f x (negsuc n) = if fits_i64 (int_div x (negsuc n)) then Value (Int (f x (negsuc n))) else Failure (codes "overflow")

unfoldable pub sum : Val → Val → Outcome
sum a b = on_ints (λ x y. int_or_overflow (x +ℤ y)) (int_of a) (int_of b)

unfoldable pub difference : Val → Val → Outcome
difference a b = on_ints (λ x y. int_or_overflow (x -ℤ y)) (int_of a) (int_of b)

unfoldable pub product : Val → Val → Outcome
product a b = on_ints (λ x y. int_or_overflow (x *ℤ y)) (int_of a) (int_of b)

unfoldable pub quotient : Val → Val → Outcome
quotient a b = on_ints (divided int_div) (int_of a) (int_of b)

unfoldable pub remainder : Val → Val → Outcome
remainder a b = on_ints (divided int_rem) (int_of a) (int_of b)

unfoldable pub negated : Val → Outcome
negated a = on_int (λ x. int_or_overflow (neg_ℤ x)) (int_of a)
