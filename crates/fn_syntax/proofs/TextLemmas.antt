-- The bytes of names and texts.
use Rattle.std.proofs.Common.{◌≡◌, ℕ, ◌+◌, ◌<◌, ◌≤◌, List, [], ◌∷◌, ◌++◌, length, drop, get_or, Bool, true, false, refl, sym, ap, ◌∙◌, arith, append-nil, add-one}
use Rattle.std.specs.Prelude.{nat_le, ◌&&◌, ◌||◌, not, ◌==◌, if◌then◌else◌}
use Rattle.std.specs.List.{list_all}
use Rattle.std.specs.Str.{IsAscii}
use Rattle.std.proofs.Math.Seq.{drop-cons}
use Rattle.std.proofs.lemmas.List.{drop_all}
use Rattle.std.proofs.lemmas.Bool.{leb-true, eqb-true}
use Rattle.std.proofs.lemmas.Str.Ascii.{IsAscii-nil, IsAscii-cons}
use Rattle.fn_lex.specs.Bytes.{is_lower, is_digit, is_name_byte, is_plain, is_escape}
use Rattle.fn_lex.specs.declared.span.TokenKind.{TokenKind}
use Rattle.fn_lex.specs.declared.span.TokenKind.TheVariants as kind
use Rattle.fn_lex.specs.Words.{is_reserved}
use Rattle.fn_grammar.specs.Letters.{is_name}
use Rattle.fn_lex.specs.Lexemes.{is_lexeme, is_within, is_name_run, is_closed, is_quoted, denoted, denoted_from, escaped_byte}
use Rattle.fn_syntax.proofs.DerivationLemmas.{and_left, and_right}

or_cases : (a b : Bool) (A : Type 0) → (a ≡ true → A) → (b ≡ true → A) → (a || b) ≡ true → A
or_cases true b A f g h = f refl
or_cases false b A f g h = g h

lower_low : (b : ℕ) → is_lower b ≡ true → b < 128
lower_low b h = let e = leb-true b 122 (and_right (nat_le 97 b) (nat_le b 122) h) in omega (arith, e)

digit_low : (b : ℕ) → is_digit b ≡ true → b < 128
digit_low b h = let e = leb-true b 57 (and_right (nat_le 48 b) (nat_le b 57) h) in omega (arith, e)

name_byte_low : (b : ℕ) → is_name_byte b ≡ true → b < 128
name_byte_low b h = or_cases (is_lower b || is_digit b) (b == 95) (b < 128) (λ e. or_cases (is_lower b) (is_digit b) (b < 128) (lower_low b) (digit_low b) e) (λ e. let s = eqb-true b 95 e in omega (arith, s)) h

name_bytes : (w : List ℕ) → list_all is_name_byte w ≡ true → IsAscii w
name_bytes [] h = IsAscii-nil
name_bytes (b ∷ w) h = IsAscii-cons b w (name_byte_low b (and_left (is_name_byte b) (list_all is_name_byte w) h)) (name_bytes w (and_right (is_name_byte b) (list_all is_name_byte w) h))

pub name_ascii : (w : List ℕ) → is_name_run w ≡ true → IsAscii w
name_ascii [] h = IsAscii-nil
name_ascii (b ∷ w) h = IsAscii-cons b w (lower_low b (and_left (is_lower b) (list_all is_name_byte w) h)) (name_bytes w (and_right (is_lower b) (list_all is_name_byte w) h))

escape_low : (b : ℕ) → is_escape b ≡ true → b < 128
escape_low b h = or_cases (b == 34 || b == 92) (b == 110) (b < 128) (λ e. or_cases (b == 34) (b == 92) (b < 128) (λ f. let s = eqb-true b 34 f in omega (arith, s)) (λ f. let s = eqb-true b 92 f in omega (arith, s)) e) (λ e. let s = eqb-true b 110 e in omega (arith, s)) h

denotes_low : (c : Bool) (b : ℕ) → b < 128 → (if c then 10 else b) < 128
denotes_low true b h = omega arith
denotes_low false b h = h

plain_low : (b : ℕ) → is_plain b ≡ true → b < 128
plain_low b h =
    let e = leb-true b 126 (and_right (nat_le 32 b) (nat_le b 126) (and_left (nat_le 32 b && nat_le b 126) (not (b == 34)) (and_left ((nat_le 32 b && nat_le b 126) && not (b == 34)) (not (b == 92)) h))) in
    omega (arith, e)

denoted_plain : (c d : Bool) (b : ℕ) (w : List ℕ) → (if c then length w == 0 else if d then is_closed true w else is_plain b && is_closed false w) ≡ true → (is_closed true w ≡ true → IsAscii (denoted_from true w)) → (is_closed false w ≡ true → IsAscii (denoted_from false w)) → IsAscii (if c then [] else if d then denoted_from true w else b ∷ denoted_from false w)
denoted_plain true d b w h k m = IsAscii-nil
denoted_plain false true b w h k m = k h
denoted_plain false false b w h k m = IsAscii-cons b (denoted_from false w) (plain_low b (and_left (is_plain b) (is_closed false w) h)) (m (and_right (is_plain b) (is_closed false w) h))

denoted_ascii : (w : List ℕ) (escaped : Bool) → is_closed escaped w ≡ true → IsAscii (denoted_from escaped w)
denoted_ascii [] escaped h = IsAscii-nil
denoted_ascii (b ∷ w) true h = IsAscii-cons (escaped_byte b) (denoted_from false w) (denotes_low (b == 110) b (escape_low b (and_left (is_escape b) (is_closed false w) h))) (denoted_ascii w false (and_right (is_escape b) (is_closed false w) h))
denoted_ascii (b ∷ w) false h = denoted_plain (b == 34) (b == 92) b w h (denoted_ascii w true) (denoted_ascii w false)

pub denoted_behind : (w : List ℕ) → denoted w ≡ denoted_from false (drop 1 w)
denoted_behind [] = refl
denoted_behind (b ∷ w) = refl

pub text_ascii : (w : List ℕ) → is_quoted w ≡ true → IsAscii (denoted w)
text_ascii [] h = IsAscii-nil
text_ascii (b ∷ w) h = denoted_ascii w false (and_right (b == 34) (is_closed false w) h)

-- one byte more of a text

pub at_place : (e : Bool) (i : ℕ) (w : List ℕ) → i < length w → denoted_from e (drop i w) ≡ denoted_from e (get_or w i 0 ∷ drop (i + 1) w)
at_place e i w lt = ap (denoted_from e) (drop-cons w i 0 lt) ∙ ap (λ j. denoted_from e (get_or w i 0 ∷ drop j w)) (sym (add-one i))

plain_by : (c d : Bool) (b : ℕ) (w : List ℕ) → c ≡ false → d ≡ false → (if c then [] else if d then denoted_from true w else b ∷ denoted_from false w) ≡ b ∷ denoted_from false w
plain_by true d b w e f = absurd (cc)
plain_by false true b w e f = absurd (cc)
plain_by false false b w e f = refl

slash_by : (c d : Bool) (b : ℕ) (w : List ℕ) → c ≡ false → d ≡ true → (if c then [] else if d then denoted_from true w else b ∷ denoted_from false w) ≡ denoted_from true w
slash_by true d b w e f = absurd (cc)
slash_by false true b w e f = refl
slash_by false false b w e f = absurd (cc)

quote_by : (c d : Bool) (b : ℕ) (w : List ℕ) → c ≡ true → (if c then [] else if d then denoted_from true w else b ∷ denoted_from false w) ≡ []
quote_by true d b w e = refl
quote_by false d b w e = absurd (cc)

open_by : (e q : Bool) → (not e && q) ≡ false → e ≡ false → q ≡ false
open_by true q h e = absurd (cc)
open_by false q h e = h

closed_by : (e q : Bool) → (not e && q) ≡ true → (e ≡ false) × (q ≡ true)
closed_by true q h = absurd (cc)
closed_by false q h = (refl, h)

pub plain_next : (b : ℕ) (w : List ℕ) → (not false && (b == 34)) ≡ false → (b == 92) ≡ false → denoted_from false (b ∷ w) ≡ b ∷ denoted_from false w
plain_next b w h d = plain_by (b == 34) (b == 92) b w (open_by false (b == 34) h refl) d

pub slash_next : (b : ℕ) (w : List ℕ) → (not false && (b == 34)) ≡ false → (b == 92) ≡ true → denoted_from false (b ∷ w) ≡ denoted_from true w
slash_next b w h d = slash_by (b == 34) (b == 92) b w (open_by false (b == 34) h refl) d

-- a text that is closed has been read
pub closed_is : (all bs : List ℕ) (e : Bool) (b : ℕ) (w : List ℕ) → (not e && (b == 34)) ≡ true → all ≡ bs ++ denoted_from e (b ∷ w) → all ≡ bs
closed_is all bs true b w h is = absurd (cc)
closed_is all bs false b w h is = is ∙ (ap (λ r. bs ++ r) (quote_by (b == 34) (b == 92) b w h) ∙ append-nil bs)

-- a text that isn't closed has no more
pub ended_is : (all bs : List ℕ) (e : Bool) (n : ℕ) (w : List ℕ) → length w ≤ n → all ≡ bs ++ denoted_from e (drop n w) → all ≡ bs
ended_is all bs e n w le is = is ∙ (ap (λ r. bs ++ denoted_from e r) (drop_all n w le) ∙ append-nil bs)

-- what a text denotes, once it was read up to the quote that closes it, or to its end
pub closed_text : (word rest bs out : List ℕ) (e : Bool) (i : ℕ) (q : Bool) → rest ≡ drop 1 word → i < length rest → q ≡ (not e && (get_or rest i 0 == 34)) → q ≡ true → denoted_from false rest ≡ bs ++ denoted_from e (drop i rest) → out ≡ bs → denoted word ≡ out
closed_text word rest bs out e i q r lt c t is o = denoted_behind word ∙ (ap (denoted_from false) (sym r) ∙ (closed_is (denoted_from false rest) bs e (get_or rest i 0) (drop (i + 1) rest) (sym c ∙ t) (is ∙ ap (λ r. bs ++ r) (at_place e i rest lt)) ∙ sym o))

pub ended_text : (word rest bs out : List ℕ) (e : Bool) (i : ℕ) → rest ≡ drop 1 word → length rest ≤ i → denoted_from false rest ≡ bs ++ denoted_from e (drop i rest) → out ≡ bs → denoted word ≡ out
ended_text word rest bs out e i r le is o = denoted_behind word ∙ (ap (denoted_from false) (sym r) ∙ (ended_is (denoted_from false rest) bs e i rest le is ∙ sym o))

-- a name is short and of ASCII

pub named_ascii : (k : TokenKind) (w : List ℕ) → is_name k ≡ true → is_lexeme k w ≡ true → IsAscii w
named_ascii kind.Name w n h = name_ascii w (and_left (is_name_run w) (not (is_reserved w)) h)
named_ascii _ w n h = absurd (cc)

pub named_short : (k : TokenKind) (w : List ℕ) → is_name k ≡ true → is_within k w ≡ true → length w ≤ 4091
named_short kind.Name w n h = let e = leb-true (length w) 64 h in omega (arith, e)
named_short _ w n h = absurd (cc)
