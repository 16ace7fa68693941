-- A number only grows with its digits.
use Rattle.std.proofs.Common.{◌≡◌, ℕ, suc, ◌+◌, ◌-◌, ◌*◌, ◌<◌, ◌≤◌, List, [], ◌∷◌, length, drop, get_or, sym, ap, ◌∙◌, add-one, arith}
use Rattle.std.proofs.Math.Seq.{drop-cons}
use Rattle.fn_lex.specs.Lexemes.{value_from}

value_grows : (n : ℕ) (w : List ℕ) → n ≤ value_from n w
value_grows n [] = omega arith
value_grows n (b ∷ w) = let h = value_grows (n * 10 + (b - 48)) w in omega (arith, h)

-- one digit more
pub value_more : (n i d v : ℕ) (w : List ℕ) → i < length w → d ≡ get_or w i 0 - 48 → v ≡ value_from n (drop i w) → v ≡ value_from (n * 10 + d) (drop (i + 1) w)
value_more n i d v w lt e is = is ∙ (ap (value_from n) (drop-cons w i 0 lt) ∙ (ap (λ d. value_from (n * 10 + d) (drop (suc i) w)) (sym e) ∙ ap (λ j. value_from (n * 10 + d) (drop j w)) (sym (add-one i))))

-- the number so far is at most the whole
pub value_within : (n i d v most : ℕ) (w : List ℕ) → i < length w → d ≡ get_or w i 0 - 48 → v ≡ value_from n (drop i w) → v ≤ most → n * 10 + d ≤ most
value_within n i d v most w lt e is le =
    let h = value_grows (n * 10 + d) (drop (i + 1) w) in
    let s = value_more n i d v w lt e is in
    omega (arith, h, s, le)
