-- Numbers of a command line, against what `parse` reads.
use Rattle.std.proofs.Common.{◌≡◌, ℕ, ◌<◌, ◌≤◌, ◌^◌, true, false, Bool, [], ◌∷◌, Some, None, Err, length, rules, arith, refl, ◌&&◌, inl, inr}
use Rattle.std.specs.List.{list_all}
use Rattle.std.specs.Prelude.{nat_le, if◌then◌else◌}
use Rattle.std.specs.Str.Parse.{digits_value, ParsesUnsigned}
use Rattle.std.proofs.lemmas.Bool.{lt-leb, cases_lt}
use Rattle.std.proofs.lemmas.Str.Parse.{IsNumeralModel, numerals_by_value, parse_digits}
use Rattle.clap.proofs.WalkLemmas.{both}
use Rattle.r3_words.specs.Numbers.{Text, is_digit, is_decimal, starts_well, number_within}

own : IsNumeralModel (λ ds. list_all is_digit ds ≡ true) (digits_value 10)
own = numerals_by_value _ (search rules)

not_empty : (text : Text) → starts_well text ≡ true → 0 < length text
not_empty [] h = absurd (cc)
not_empty (d ∷ ds) h = omega arith

-- a decimal word that `parse` refuses writes a number too large for it
refused : {E : Type 0} (text : Text) (e : E) → ParsesUnsigned 64 10 text (Err e)
    → is_decimal text ≡ true → 2 ^ 64 ≤ digits_value 10 text
refused {E} text e h d =
    let p = both _ _ d in
    let o = parse_digits own {E = E} 64 text (Err e) h p.0 in
    elim (cases_lt (digits_value 10 text) (2 ^ 64)) [
      | inl lt ↦ absurd (o (not_empty text p.1, lt))
      | inr ge ↦ ge
    ]

pick : (a b c : Bool) (n : ℕ) → c ≡ false → (if a && (b && c) then Some n else None) ≡ None
pick a b true n h = absurd (cc)
pick true true false n h = refl
pick true false false n h = refl
pick false b false n h = refl

-- such a word is no number up to a `u64`
pub none_past : {E : Type 0} (least most : ℕ) (text : Text) (e : E) → most < 2 ^ 64
    → ParsesUnsigned 64 10 text (Err e) → is_decimal text ≡ true
    → number_within least most text ≡ None
none_past least most text e m h d =
    let g : 2 ^ 64 ≤ digits_value 10 text = refused text e h d in
    pick (is_decimal text) (nat_le least (digits_value 10 text)) _ (digits_value 10 text) (lt-leb _
    _ (omega arith))
