-- What numbers and texts denote once they are written.
use Rattle.std.proofs.Common.{◌≡◌, ℕ, ◌<◌, ◌^◌, List, [], ◌∷◌, ◌++◌, Bool, true, false, refl, sym, ap, ◌∙◌, append_assoc}
use Rattle.std.specs.Prelude.{◌==◌, if◌then◌else◌}
use Rattle.std.specs.Fmt.{decimal}
use Rattle.std.proofs.lemmas.Bool.{eqb-true}
use Rattle.std.proofs.lemmas.Fmt.{digits_value-decimal}
use Rattle.std.specs.Str.Parse.{AllDigits}
use Rattle.std.proofs.lemmas.Str.Parse.{IsNumeralModel, numerals_by_fold, tells_digits}
use Rattle.fn_lex.specs.Lexemes.{value_from, denoted, denoted_from}
use Rattle.fn_spell.specs.Pieces.{escape, escaped, quoted}

numerals : IsNumeralModel (AllDigits 10) (value_from 0)
numerals = numerals_by_fold (AllDigits 10) tells_digits value_from (record { empty = λ n. refl; more = λ n c cs h. refl })

pub value_decimal : (n : ℕ) → n < 2 ^ 64 → value_from 0 (decimal n) ≡ n
value_decimal n h = digits_value-decimal numerals n h

-- a byte as it is written denotes itself
one_byte : (quote slash line : Bool) (b : ℕ) (w : List ℕ) → b == 34 ≡ quote → b == 92 ≡ slash → b == 10 ≡ line
    → denoted_from false ((if quote then 92 ∷ 34 ∷ [] else if slash then 92 ∷ 92 ∷ [] else if line then 92 ∷ 110 ∷ [] else b ∷ []) ++ w) ≡ b ∷ denoted_from false w
one_byte true slash line b w p q r = ap (λ c. c ∷ denoted_from false w) (sym (eqb-true b 34 p))
one_byte false true line b w p q r = ap (λ c. c ∷ denoted_from false w) (sym (eqb-true b 92 q))
one_byte false false true b w p q r = ap (λ c. c ∷ denoted_from false w) (sym (eqb-true b 10 r))
one_byte false false false b w p q r =
    ap (λ t. if t then [] else if b == 92 then denoted_from true w else b ∷ denoted_from false w) p
    ∙ ap (λ t. if t then denoted_from true w else b ∷ denoted_from false w) q

denoted_escaped : (w : List ℕ) → denoted_from false (escaped w ++ 34 ∷ []) ≡ w
denoted_escaped [] = refl
denoted_escaped (b ∷ w) =
    ap (denoted_from false) (append_assoc (escape b) (escaped w) (34 ∷ []))
    ∙ (one_byte (b == 34) (b == 92) (b == 10) b (escaped w ++ 34 ∷ []) refl refl refl ∙ ap (λ t. b ∷ t) (denoted_escaped w))

-- a text as it is written denotes itself
pub denoted_quoted : (w : List ℕ) → denoted (quoted w) ≡ w
denoted_quoted w = denoted_escaped w
