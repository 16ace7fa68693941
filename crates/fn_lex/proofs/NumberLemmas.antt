-- A number only grows with its digits.
use Rattle.std.proofs.Common.{◌≡◌, ℕ, suc, ◌+◌, ◌-◌, ◌*◌, ◌<◌, ◌≤◌, List, [], ◌∷◌, length, drop, get_or, false, sym, ap, ◌∙◌, arith}
use Rattle.std.specs.Prelude.{nat_le}
use Rattle.std.proofs.lemmas.Bool.{lt-leb}
use Rattle.std.proofs.Math.Seq.{drop-cons}
use Rattle.fn_lex.specs.Lexemes.{value_from}

value_grows : (n : ℕ) (w : List ℕ) → n ≤ value_from n w
value_grows n [] = omega arith
value_grows n (b ∷ w) = let h = value_grows (n * 10 + (b - 48)) w in omega (arith, h)

-- one digit more
pub value_more : (n i d v : ℕ) (w : List ℕ) → i < length w → d ≡ get_or w i 0 - 48 → v ≡ value_from n (drop i w) → v ≡ value_from (n * 10 + d) (drop (suc i) w)
value_more n i d v w lt e is = is ∙ (ap (value_from n) (drop-cons w i 0 lt) ∙ ap (λ d. value_from (n * 10 + d) (drop (suc i) w)) (sym e))

pub past : (n i d v most : ℕ) (w : List ℕ) → i < length w → d ≡ get_or w i 0 - 48 → v ≡ value_from n (drop i w) → most < n * 10 + d → false ≡ nat_le v most
past n i d v most w lt e is over =
    let h = value_grows (n * 10 + d) (drop (suc i) w) in
    let s = value_more n i d v w lt e is in
    let big : most < v = omega (arith, h, s, over) in
    sym (lt-leb v most big)
