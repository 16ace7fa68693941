-- The numbers of a command line.
use Rattle.std.specs.Prelude.{ℕ, Bool, true, false, List, [], ◌∷◌, Option, Some, None, ◌&&◌, ◌==◌, not, nat_le, if◌then◌else◌}
use Rattle.std.specs.List.{list_all}
use Rattle.std.specs.Str.Parse.{digits_value}

-- the bytes of a word
abbrev pub Text : Type 0
Text = List ℕ

-- `0` to `9`
abbrev pub is_digit : ℕ → Bool
is_digit byte = nat_le 48 byte && nat_le byte 57

-- a digit that stands alone, or first and isn't 0
abbrev pub starts_well : Text → Bool
starts_well [] = false
starts_well (d ∷ []) = true
starts_well (d ∷ e ∷ ds) = not (d == 48)

-- decimal digits without a leading zero, or `0`
abbrev pub is_decimal : Text → Bool
is_decimal text = list_all is_digit text && starts_well text

-- the number that the word writes, where it is one from `least` to `most`
abbrev pub number_within : ℕ → ℕ → Text → Option ℕ
number_within least most text =
    if is_decimal text && (nat_le least (digits_value 10 text) && nat_le (digits_value 10 text) most)
    then Some (digits_value 10 text) else None
