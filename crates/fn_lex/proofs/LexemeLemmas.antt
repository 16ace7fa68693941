-- A lexeme's first byte tells its kind, but for names and words.
use Rattle.std.proofs.Common.{◌≡◌, ◌≢◌, ℕ, zero, suc, ◌+◌, ◌<◌, ◌≤◌, List, [], ◌∷◌, length, take, Bool, true, false, refl, sym, ap, ◌∙◌, subst, arith, inl, inr, ◌⊎◌}
use Rattle.std.specs.Prelude.{◌==◌, ◌&&◌, ◌||◌, not, nat_le, nat_lt, if◌then◌else◌, IsTrue, codes}
use Rattle.std.specs.List.{list_any, list_all}
use Rattle.std.specs.Str.{bytes_eq}
use Rattle.std.proofs.lemmas.Bool.{and_parts, or_cases, and_left, leb-true, eqb-true, lt-leb, not-true, both_ways, or_left, or_right}
use Rattle.std.proofs.lemmas.Slice.Eq.{bytes_eq-Decides}
use Rattle.fn_lex.specs.declared.span.TokenKind.{TokenKind}
use Rattle.fn_lex.specs.declared.span.TokenKind.TheVariants.{Name, Word, Number, Text, Sign}
use Rattle.fn_lex.specs.Bytes.{is_lower, is_digit, is_name_byte}
use Rattle.fn_lex.specs.Words.{used, later, is_reserved}
use Rattle.fn_lex.specs.Lexemes.{is_name_run, is_digits, is_closed, is_quoted, is_single, is_pair, is_sign, is_lexeme}

-- an element that passes has what each has
any_word : (p : List ℕ → Bool) (ws : List (List ℕ)) (w : List ℕ) → list_all p ws ≡ true → list_any (λ v. bytes_eq v w) ws ≡ true → p w ≡ true
any_word p [] w all h = cc
any_word p (v ∷ ws) w all h =
    elim (or_cases (bytes_eq v w) (list_any (λ v. bytes_eq v w) ws) h) [
      | inl e ↦ sym (ap p ((bytes_eq-Decides v w).0 e)) ∙ (and_parts (p v) (list_all p ws) all).0
      | inr r ↦ any_word p ws w (and_parts (p v) (list_all p ws) all).1 r
    ]

any_byte : (p : ℕ → Bool) (ws : List ℕ) (b : ℕ) → list_all p ws ≡ true → list_any (λ s. s == b) ws ≡ true → p b ≡ true
any_byte p [] b all h = cc
any_byte p (v ∷ ws) b all h =
    elim (or_cases (v == b) (list_any (λ s. s == b) ws) h) [
      | inl e ↦ sym (ap p (eqb-true v b e)) ∙ (and_parts (p v) (list_all p ws) all).0
      | inr r ↦ any_byte p ws b (and_parts (p v) (list_all p ws) all).1 r
    ]

-- a reserved word is written like a name
pub reserved_run : (w : List ℕ) → is_reserved w ≡ true → is_name_run w ≡ true
reserved_run w h =
    elim (or_cases (list_any (λ v. bytes_eq v w) used) (list_any (λ v. bytes_eq v w) later) h) [
      | inl u ↦ any_word is_name_run used w refl u
      | inr l ↦ any_word is_name_run later w refl l
    ]

-- 0 for a letter, 1 for a digit, 2 for a quote and 3 for all else
abbrev pub class_of : ℕ → ℕ
class_of b = if is_lower b then 0 else if is_digit b then 1 else if b == 34 then 2 else 3

abbrev pub kind_class : TokenKind → ℕ
kind_class Name = 0
kind_class Word = 0
kind_class Number = 1
kind_class Text = 2
kind_class Sign = 3

digit_not_lower : (b : ℕ) → is_digit b ≡ true → is_lower b ≡ false
digit_not_lower b h =
    let p = and_parts (nat_le 48 b) (nat_le b 57) h in
    let le : b ≤ 57 = leb-true b 57 p.1 in
    let lt : b < 97 = omega arith in
    and_left (nat_le 97 b) (nat_le b 122) (lt-leb 97 b lt)

pub class_lower : (b : ℕ) → is_lower b ≡ true → class_of b ≡ 0
class_lower b h = ap (λ c. if c then 0 else if is_digit b then 1 else if b == 34 then 2 else 3) h

pub class_digit : (b : ℕ) → is_digit b ≡ true → class_of b ≡ 1
class_digit b h = ap (λ c. if c then 0 else if is_digit b then 1 else if b == 34 then 2 else 3) (digit_not_lower b h) ∙ ap (λ c. if c then 1 else if b == 34 then 2 else 3) h

pub class_quote : (b : ℕ) → b == 34 ≡ true → class_of b ≡ 2
class_quote b h = ap class_of (eqb-true b 34 h)

pub class_other : (b : ℕ) → is_lower b ≡ false → is_digit b ≡ false → b == 34 ≡ false → class_of b ≡ 3
class_other b l d q = ap (λ c. if c then 0 else if is_digit b then 1 else if b == 34 then 2 else 3) l ∙ (ap (λ c. if c then 1 else if b == 34 then 2 else 3) d ∙ ap (λ c. if c then 2 else 3) q)

single_class : (b : ℕ) → is_single b ≡ true → class_of b ≡ 3
single_class b h = eqb-true (class_of b) 3 (any_byte (λ s. class_of s == 3) (codes "(){}[],;=<>+-*/%!") b refl h)

pair_class : (b c : ℕ) → is_pair b c ≡ true → class_of b ≡ 3
pair_class b c h =
    elim (or_cases (c == 61 && list_any (λ s. s == b) (codes "=!<>")) (c == b && list_any (λ s. s == b) (codes "+&|")) h) [
      | inl e ↦ eqb-true (class_of b) 3 (any_byte (λ s. class_of s == 3) (codes "=!<>") b refl (and_parts (c == 61) (list_any (λ s. s == b) (codes "=!<>")) e).1)
      | inr e ↦ eqb-true (class_of b) 3 (any_byte (λ s. class_of s == 3) (codes "+&|") b refl (and_parts (c == b) (list_any (λ s. s == b) (codes "+&|")) e).1)
    ]

sign_class : (b : ℕ) (w : List ℕ) → is_sign (b ∷ w) ≡ true → class_of b ≡ 3
sign_class b [] h = single_class b h
sign_class b (c ∷ []) h = pair_class b c h
sign_class b (c ∷ d ∷ w) h = cc

pub lexeme_class : (k : TokenKind) (b : ℕ) (w : List ℕ) → is_lexeme k (b ∷ w) ≡ true → class_of b ≡ kind_class k
lexeme_class Name b w h = class_lower b (and_parts (is_lower b) (list_all is_name_byte w) (and_parts (is_name_run (b ∷ w)) (not (is_reserved (b ∷ w))) h).0).0
lexeme_class Word b w h = class_lower b (and_parts (is_lower b) (list_all is_name_byte w) (reserved_run (b ∷ w) h)).0
lexeme_class Number b w h = class_digit b (and_parts (is_digit b) (list_all is_digit w) h).0
lexeme_class Text b w h = class_quote b (and_parts (b == 34) (is_closed false w) h).0
lexeme_class Sign b w h = sign_class b w h

no_lexeme : (k : TokenKind) → is_lexeme k [] ≡ true → ⊥
no_lexeme Name h = cc
no_lexeme Word h = cc
no_lexeme Number h = cc
no_lexeme Text h = cc
no_lexeme Sign h = cc

-- a lexeme at the front of bytes whose first one has this class is of a kind of this class, and has a byte
pub front_class : (k : TokenKind) (m : ℕ) (b : ℕ) (rest : List ℕ) → is_lexeme k (take m (b ∷ rest)) ≡ true → class_of b ≡ kind_class k
front_class k zero b rest h = absurd (no_lexeme k h)
front_class k (suc m) b rest h = lexeme_class k b (take m rest) h

pub some_bytes : (k : TokenKind) (m : ℕ) (bytes : List ℕ) → is_lexeme k (take m bytes) ≡ true → 0 < m
some_bytes k zero bytes h = absurd (no_lexeme k h)
some_bytes k (suc m) bytes h = omega arith

kinds_of_class : (k j : TokenKind) (w : List ℕ) → kind_class k ≡ kind_class j → is_lexeme k w ≡ true → is_lexeme j w ≡ true → k ≡ j
kinds_of_class Name Name w e p q = refl
kinds_of_class Name Word w e p q = absurd (both_ways (is_reserved w) (not-true (is_reserved w) (and_parts (is_name_run w) (not (is_reserved w)) p).1) q)
kinds_of_class Name Number w e p q = absurd (omega (arith, e))
kinds_of_class Name Text w e p q = absurd (omega (arith, e))
kinds_of_class Name Sign w e p q = absurd (omega (arith, e))
kinds_of_class Word Name w e p q = absurd (both_ways (is_reserved w) (not-true (is_reserved w) (and_parts (is_name_run w) (not (is_reserved w)) q).1) p)
kinds_of_class Word Word w e p q = refl
kinds_of_class Word Number w e p q = absurd (omega (arith, e))
kinds_of_class Word Text w e p q = absurd (omega (arith, e))
kinds_of_class Word Sign w e p q = absurd (omega (arith, e))
kinds_of_class Number Name w e p q = absurd (omega (arith, e))
kinds_of_class Number Word w e p q = absurd (omega (arith, e))
kinds_of_class Number Number w e p q = refl
kinds_of_class Number Text w e p q = absurd (omega (arith, e))
kinds_of_class Number Sign w e p q = absurd (omega (arith, e))
kinds_of_class Text Name w e p q = absurd (omega (arith, e))
kinds_of_class Text Word w e p q = absurd (omega (arith, e))
kinds_of_class Text Number w e p q = absurd (omega (arith, e))
kinds_of_class Text Text w e p q = refl
kinds_of_class Text Sign w e p q = absurd (omega (arith, e))
kinds_of_class Sign Name w e p q = absurd (omega (arith, e))
kinds_of_class Sign Word w e p q = absurd (omega (arith, e))
kinds_of_class Sign Number w e p q = absurd (omega (arith, e))
kinds_of_class Sign Text w e p q = absurd (omega (arith, e))
kinds_of_class Sign Sign w e p q = refl

-- a lexeme has one kind
pub one_kind : (k j : TokenKind) (w : List ℕ) → is_lexeme k w ≡ true → is_lexeme j w ≡ true → k ≡ j
one_kind k j [] p q = absurd (no_lexeme k p)
one_kind k j (b ∷ w) p q = kinds_of_class k j (b ∷ w) (sym (lexeme_class k b w p) ∙ lexeme_class j b w q) p q
