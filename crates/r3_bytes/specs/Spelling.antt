-- How fields are spelled, and which fields there are: a field has one spelling, and no spelling begins another.
use Rattle.std.specs.Prelude.{◌≡◌, ◌≤◌, ℕ, ◌+◌, ◌<◌, ◌^◌, ℤ, Bool, true, false, List, [], ◌∷◌, ◌++◌, length, IsTrue, FitsSigned}
use Rattle.std.specs.Int.{w32, w64, to_be_bytes, cast_unsigned}
use Rattle.std.specs.Str.{is_utf8}
use Rattle.r3_value.specs.Value.{Value, null, boolean, integer, text, list, Items, no_items, item, weight, depth, IsProper}
use Rattle.r3_value.specs.declared.value.Outcome.{Outcome}
use Rattle.r3_value.specs.declared.value.Outcome.TheVariants as outcomes
use Rattle.r3_value.specs.View.{value_of}

-- one byte
abbrev pub byte : ℕ → List ℕ
byte b = b ∷ []

-- four bytes, the highest first
abbrev pub number : ℕ → List ℕ
number n = to_be_bytes w32 n

-- the length and the bytes
abbrev pub string : List ℕ → List ℕ
string s = number (length s) ++ s

-- eight bytes in two's complement, the highest first
abbrev pub signed : ℤ → List ℕ
signed z = to_be_bytes w64 (cast_unsigned w64 z)

-- the byte of a truth value
abbrev pub flag : Bool → ℕ
flag false = 0
flag true = 1

-- the number of items of a list
abbrev pub count : Items → ℕ
count no_items = 0
count (item v vs) = 1 + count vs

-- a byte for the kind, and what the value holds
abbrev mutual
  pub value : Value → List ℕ
  value null = 0 ∷ []
  value (boolean b) = 1 ∷ flag b ∷ []
  value (integer z) = 2 ∷ signed z
  value (text s) = 3 ∷ string s
  value (list vs) = 4 ∷ (number (count vs) ++ items vs)

  pub items : Items → List ℕ
  items no_items = []
  items (item v vs) = value v ++ items vs

-- a text whose length four bytes hold
pub record IsText (s : List ℕ) : Type 0 where
  pub short : length s < 2 ^ 32
  pub utf8 : IsTrue (is_utf8 s)

-- what one byte holds
abbrev pub IsByte : ℕ → Type 0
IsByte b = b < 2 ^ 8

-- what four bytes hold
abbrev pub IsNumber : ℕ → Type 0
IsNumber n = n < 2 ^ 32

-- what eight bytes hold in two's complement
abbrev pub IsSigned : ℤ → Type 0
IsSigned z = FitsSigned w64 z

-- a value whose lists nest at most d deep
pub record IsValueTo (d : ℕ) (v : Value) : Type 0 where
  pub proper : IsProper v
  pub small : weight v ≤ 4096
  pub shallow : depth v ≤ d

-- items whose lists nest at most d deep
abbrev pub AreValuesTo : ℕ → Items → Type 0
AreValuesTo d no_items = Unit {0}
AreValuesTo d (item v vs) = IsValueTo d v × AreValuesTo d vs

-- n of them
pub record AreItems (n d : ℕ) (vs : Items) : Type 0 where
  pub count : count vs ≡ n
  pub values : AreValuesTo d vs

-- what a `Txt` holds
pub record IsTxt (s : List ℕ) : Type 0 where
  pub short : length s ≤ 4091
  pub utf8 : IsTrue (is_utf8 s)

-- a byte for the kind, and the value or the word
abbrev pub outcome : Outcome → List ℕ
outcome (outcomes.Value v) = 0 ∷ value (value_of v)
outcome (outcomes.Failure word) = 1 ∷ string word

-- an outcome within the limits of values and texts
abbrev pub IsOutcome : Outcome → Type 0
IsOutcome (outcomes.Value v) = IsValueTo 16 (value_of v)
IsOutcome (outcomes.Failure word) = IsTxt word
