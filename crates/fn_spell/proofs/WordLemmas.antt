-- What is written of a token is a lexeme of its kind, within its limits.
use Rattle.std.proofs.Common.{◌≡◌, ℕ, zero, suc, ◌+◌, ◌-◌, ◌<◌, ◌^◌, List, [], ◌∷◌, ◌++◌, Bool, true, false, refl, sym, ap, ◌∙◌, subst, append_assoc, length, arith}
use Rattle.std.specs.Prelude.{◌==◌, ◌&&◌, ◌||◌, not, nat_le, nat_lt, slice_index, if◌then◌else◌}
use Rattle.std.specs.List.{list_all}
use Rattle.std.specs.Int.{IsInRange}
use Rattle.std.specs.Fmt.{decimal}
use Rattle.std.proofs.lemmas.Bool.{and_parts, and_from, leb-true, eqb-true, le-leb}
use Rattle.std.proofs.lemmas.Fmt.{decimal_digit, first_decimal}
use Rattle.std.proofs.lemmas.Str.Parse.{IsDigitsTest, IsNumeralModel, numerals_by_fold}
use Rattle.fn_lex.specs.Bytes.{is_digit, is_plain}
use Rattle.fn_lex.specs.Lexemes.{is_digits, is_closed, is_lexeme, is_within, is_number_within, value_from}
use Rattle.fn_grammar.specs.declared.lexeme.Lexeme.{Lexeme}
use Rattle.fn_grammar.specs.declared.lexeme.Lexeme.TheVariants as lex
use Rattle.fn_grammar.specs.Letters.{spelled}
use Rattle.fn_spell.specs.Pieces.{lexeme_kind, escape, escaped}
use Rattle.fn_spell.specs.Limits.{is_textual}
use Rattle.fn_spell.proofs.TokenLemmas.{value_decimal}

-- each word and sign is a lexeme
pub word_is : (l : Lexeme) → is_lexeme (lexeme_kind l) (spelled l) ≡ true
word_is lex.Table = refl
word_is lex.Queue = refl
word_is lex.Outside = refl
word_is lex.Helper = refl
word_is lex.Txn = refl
word_is lex.Flow = refl
word_is lex.Let = refl
word_is lex.Set = refl
word_is lex.If = refl
word_is lex.Else = refl
word_is lex.While = refl
word_is lex.Each = refl
word_is lex.In = refl
word_is lex.Try = refl
word_is lex.Catch = refl
word_is lex.Return = refl
word_is lex.Fail = refl
word_is lex.Put = refl
word_is lex.Delete = refl
word_is lex.Get = refl
word_is lex.Scan = refl
word_is lex.Do = refl
word_is lex.Call = refl
word_is lex.Spawn = refl
word_is lex.Await = refl
word_is lex.Null = refl
word_is lex.True = refl
word_is lex.False = refl
word_is lex.Len = refl
word_is lex.Str = refl
word_is lex.OpenParen = refl
word_is lex.CloseParen = refl
word_is lex.OpenBracket = refl
word_is lex.CloseBracket = refl
word_is lex.OpenBrace = refl
word_is lex.CloseBrace = refl
word_is lex.Comma = refl
word_is lex.Semicolon = refl
word_is lex.Assign = refl
word_is lex.Eq = refl
word_is lex.Ne = refl
word_is lex.Lt = refl
word_is lex.Le = refl
word_is lex.Gt = refl
word_is lex.Ge = refl
word_is lex.Plus = refl
word_is lex.Join = refl
word_is lex.Minus = refl
word_is lex.Times = refl
word_is lex.Over = refl
word_is lex.Percent = refl
word_is lex.And = refl
word_is lex.Or = refl
word_is lex.Not = refl

pub word_within : (l : Lexeme) → is_within (lexeme_kind l) (spelled l) ≡ true
word_within lex.Table = refl
word_within lex.Queue = refl
word_within lex.Outside = refl
word_within lex.Helper = refl
word_within lex.Txn = refl
word_within lex.Flow = refl
word_within lex.Let = refl
word_within lex.Set = refl
word_within lex.If = refl
word_within lex.Else = refl
word_within lex.While = refl
word_within lex.Each = refl
word_within lex.In = refl
word_within lex.Try = refl
word_within lex.Catch = refl
word_within lex.Return = refl
word_within lex.Fail = refl
word_within lex.Put = refl
word_within lex.Delete = refl
word_within lex.Get = refl
word_within lex.Scan = refl
word_within lex.Do = refl
word_within lex.Call = refl
word_within lex.Spawn = refl
word_within lex.Await = refl
word_within lex.Null = refl
word_within lex.True = refl
word_within lex.False = refl
word_within lex.Len = refl
word_within lex.Str = refl
word_within lex.OpenParen = refl
word_within lex.CloseParen = refl
word_within lex.OpenBracket = refl
word_within lex.CloseBracket = refl
word_within lex.OpenBrace = refl
word_within lex.CloseBrace = refl
word_within lex.Comma = refl
word_within lex.Semicolon = refl
word_within lex.Assign = refl
word_within lex.Eq = refl
word_within lex.Ne = refl
word_within lex.Lt = refl
word_within lex.Le = refl
word_within lex.Gt = refl
word_within lex.Ge = refl
word_within lex.Plus = refl
word_within lex.Join = refl
word_within lex.Minus = refl
word_within lex.Times = refl
word_within lex.Over = refl
word_within lex.Percent = refl
word_within lex.And = refl
word_within lex.Or = refl
word_within lex.Not = refl

-- numbers

abbrev pub Digits : List ℕ → Type 0
Digits ds = list_all is_digit ds ≡ true

digit_in : (c : ℕ) → is_digit c ≡ true → IsInRange 48 57 c
digit_in c h = let p = and_parts (nat_le 48 c) (nat_le c 57) h in (leb-true 48 c p.0, leb-true c 57 p.1)

in_digit : (c : ℕ) → IsInRange 48 57 c → is_digit c ≡ true
in_digit c r = and_from (nat_le 48 c) (nat_le c 57) (le-leb 48 c r.0) (le-leb c 57 r.1)

digits_test : IsDigitsTest Digits
digits_test = record {
  empty = refl;
  parts = λ c cs h. (let p = and_parts (is_digit c) (list_all is_digit cs) h in (digit_in c p.0, p.1));
  more = λ c cs r h. and_from (is_digit c) (list_all is_digit cs) (in_digit c r) h;
}

pub numerals : IsNumeralModel Digits (value_from 0)
numerals = numerals_by_fold Digits digits_test value_from (record { empty = λ n. refl; more = λ n c cs h. refl })

pub digits_of_some : (w : List ℕ) → 0 < length w → list_all is_digit w ≡ true → is_digits w ≡ true
digits_of_some [] lt h = absurd (omega (arith, lt))
digits_of_some (b ∷ w) lt h = h

not_eq : (x c : ℕ) (b : Bool) → x == c ≡ b → c < x → x == c ≡ false
not_eq x c true e lt = let same = eqb-true x c e in absurd (omega (arith, same, lt))
not_eq x c false e lt = e

no_zero : (a b : Bool) → b ≡ false → not (a && b) ≡ true
no_zero true true e = absurd (cc)
no_zero true false e = refl
no_zero false b e = refl

within_from : (n : ℕ) → n < 2 ^ 64 → nat_le n 9223372036854775807 ≡ true → (nat_lt 1 (length (decimal n)) && slice_index (decimal n) 0 == 48) ≡ false → is_number_within (decimal n) ≡ true
within_from n lt h e =
    and_from (not (nat_lt 1 (length (decimal n)) && slice_index (decimal n) 0 == 48)) (nat_le (value_from 0 (decimal n)) 9223372036854775807)
    (ap (λ b. not b) e) (ap (λ m. nat_le m 9223372036854775807) (value_decimal n lt) ∙ h)

and_last : (a b : Bool) → b ≡ false → (a && b) ≡ false
and_last true b e = e
and_last false b e = refl

pub number_within : (n : ℕ) (b : Bool) → n == 0 ≡ b → n < 2 ^ 64 → nat_le n 9223372036854775807 ≡ true → is_number_within (decimal n) ≡ true
number_within n true e lt h = subst (λ m. is_number_within (decimal m) ≡ true) (sym (eqb-true n 0 e)) (ap is_number_within (decimal_digit 0 (omega arith)))
number_within n false e lt h =
    let some : 0 < n = positive n e in
    let f = first_decimal n some lt in
    within_from n lt h (and_last (nat_lt 1 (length (decimal n))) (slice_index (decimal n) 0 == 48) (not_eq (slice_index (decimal n) 0) 48 (slice_index (decimal n) 0 == 48) refl f)) where
      positive : (n : ℕ) → n == 0 ≡ false → 0 < n
      positive zero e = absurd (cc)
      positive (suc n) e = omega arith

-- texts

pub closed_here : (w : List ℕ) → list_all is_textual w ≡ true → is_closed false (escaped w ++ 34 ∷ []) ≡ true
closed_here [] h = refl
closed_here (b ∷ w) h =
    let p = and_parts (is_textual b) (list_all is_textual w) h in
    ap (is_closed false) (append_assoc (escape b) (escaped w) (34 ∷ []))
    ∙ one (b == 34) (b == 92) (b == 10) b (escaped w ++ 34 ∷ []) refl refl refl p.0 (closed_here w p.1) where
      one : (quote slash line : Bool) (b : ℕ) (w : List ℕ) → b == 34 ≡ quote → b == 92 ≡ slash → b == 10 ≡ line
          → is_textual b ≡ true → is_closed false w ≡ true
          → is_closed false ((if quote then 92 ∷ 34 ∷ [] else if slash then 92 ∷ 92 ∷ [] else if line then 92 ∷ 110 ∷ [] else b ∷ []) ++ w) ≡ true
      one true slash line b w p q r t h = h
      one false true line b w p q r t h = h
      one false false true b w p q r t h = h
      one false false false b w p q r t h =
          let plain : is_plain b ≡ true = plain_of (is_plain b) (b == 34) (b == 92) (b == 10) p q r t in
          ap (λ t. if t then length w == 0 else if b == 92 then is_closed true w else is_plain b && is_closed false w) p
          ∙ (ap (λ t. if t then is_closed true w else is_plain b && is_closed false w) q
          ∙ and_from (is_plain b) (is_closed false w) plain h) where
            plain_of : (a b c d : Bool) → b ≡ false → c ≡ false → d ≡ false → (a || (b || (c || d))) ≡ true → a ≡ true
            plain_of true b c d p q r h = refl
            plain_of false true c d p q r h = absurd (cc)
            plain_of false false true d p q r h = absurd (cc)
            plain_of false false false true p q r h = absurd (cc)
            plain_of false false false false p q r h = h
