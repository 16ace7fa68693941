-- The lexemes, each as a whole; and apart from that, their limits.
use Rattle.std.specs.Prelude.{ℕ, ◌+◌, ◌-◌, ◌*◌, ◌==◌, ◌||◌, ◌&&◌, Bool, true, false, not, List, [], ◌∷◌, length, slice_index, if◌then◌else◌, nat_lt, nat_le, codes}
use Rattle.std.specs.List.{list_any, list_all}
use Rattle.fn_lex.specs.declared.span.TokenKind.{TokenKind}
use Rattle.fn_lex.specs.declared.span.TokenKind.TheVariants.{Name, Word, Number, Text, Sign}
use Rattle.fn_lex.specs.Bytes.{is_lower, is_digit, is_name_byte, is_plain, is_escape}
use Rattle.fn_lex.specs.Words.{is_reserved}

-- a lower-case letter and then lower-case letters, digits and `_`
abbrev pub is_name_run : List ℕ → Bool
is_name_run [] = false
is_name_run (b ∷ w) = is_lower b && list_all is_name_byte w

abbrev pub is_digits : List ℕ → Bool
is_digits [] = false
is_digits (b ∷ w) = is_digit b && list_all is_digit w

-- What stands behind an opening quote, and the quote that closes it at the end; `escaped` is right behind a `\`.
abbrev pub is_closed : (escaped : Bool) → List ℕ → Bool
is_closed escaped [] = false
is_closed true (b ∷ w) = is_escape b && is_closed false w
is_closed false (b ∷ w) = if b == 34 then length w == 0 else if b == 92 then is_closed true w else is_plain b && is_closed false w

abbrev pub is_quoted : List ℕ → Bool
is_quoted [] = false
is_quoted (b ∷ w) = b == 34 && is_closed false w

-- a sign of one byte
abbrev pub is_single : ℕ → Bool
is_single b = list_any (λ s. s == b) (codes "(){}[],;=<>+-*/%!")

-- a sign of two: `==`, `!=`, `<=` and `>=`, `++`, `&&` and `||`
abbrev pub is_pair : ℕ → ℕ → Bool
is_pair b c = (c == 61 && list_any (λ s. s == b) (codes "=!<>")) || (c == b && list_any (λ s. s == b) (codes "+&|"))

abbrev pub is_sign : List ℕ → Bool
is_sign [] = false
is_sign (b ∷ []) = is_single b
is_sign (b ∷ c ∷ []) = is_pair b c
is_sign (b ∷ c ∷ d ∷ w) = false

-- these bytes are a lexeme of this kind
abbrev pub is_lexeme : TokenKind → List ℕ → Bool
is_lexeme Name w = is_name_run w && not (is_reserved w)
is_lexeme Word w = is_reserved w
is_lexeme Number w = is_digits w
is_lexeme Text w = is_quoted w
is_lexeme Sign w = is_sign w

-- the number that the digits denote, behind one
abbrev pub value_from : ℕ → List ℕ → ℕ
value_from n [] = n
value_from n (b ∷ w) = value_from (n * 10 + (b - 48)) w

-- no leading zero, and in range
abbrev pub is_number_within : List ℕ → Bool
is_number_within w = not (nat_lt 1 (length w) && slice_index w 0 == 48) && nat_le (value_from 0 w) 9223372036854775807

-- what a byte behind a `\` denotes
abbrev pub escaped_byte : ℕ → ℕ
escaped_byte b = if b == 110 then 10 else b

-- what the bytes behind an opening quote denote, up to the quote that closes them
abbrev pub denoted_from : (escaped : Bool) → List ℕ → List ℕ
denoted_from escaped [] = []
denoted_from true (b ∷ w) = escaped_byte b ∷ denoted_from false w
denoted_from false (b ∷ w) = if b == 34 then [] else if b == 92 then denoted_from true w else b ∷ denoted_from false w

-- what a text denotes
abbrev pub denoted : List ℕ → List ℕ
denoted [] = []
denoted (quote ∷ w) = denoted_from false w

-- the lexeme keeps the limits of its kind
abbrev pub is_within : TokenKind → List ℕ → Bool
is_within Name w = nat_le (length w) 64
is_within Word w = true
is_within Number w = is_number_within w
is_within Text w = nat_le (length (denoted w)) 4091
is_within Sign w = true
