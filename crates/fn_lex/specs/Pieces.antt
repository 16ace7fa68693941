-- How the lexer finds what stands at the front. No public contract cites this but for comments.
use Rattle.std.specs.Prelude.{◌≡◌, ℕ, suc, ◌+◌, ◌<◌, ◌==◌, ◌||◌, ◌&&◌, Bool, true, false, List, [], ◌∷◌, length, take, if◌then◌else◌, nat_lt, nat_le}
use Rattle.fn_lex.specs.declared.classes.Class.{Class}
use Rattle.fn_lex.specs.declared.classes.Class.TheVariants as class
use Rattle.fn_lex.specs.declared.span.TokenKind.TheVariants as kind
use Rattle.fn_lex.specs.declared.front.Piece.{Piece}
use Rattle.fn_lex.specs.declared.front.Piece.TheVariants.{End, Gap, Token, Bad}
use Rattle.fn_lex.specs.Bytes.{is_blank, is_lower, is_digit, is_name_byte, is_plain, is_escape, is_comment_byte, byte_or}
use Rattle.fn_lex.specs.Words.{is_reserved}
use Rattle.fn_lex.specs.Lexemes.{is_number_within, is_single, is_pair}

abbrev pub belongs : Class → ℕ → Bool
belongs class.Name b = is_name_byte b
belongs class.Digit b = is_digit b
belongs class.Comment b = is_comment_byte b

-- how many bytes at the front are of the class
abbrev pub run : Class → List ℕ → ℕ
run c [] = 0
run c (b ∷ bytes) = if belongs c b then suc (run c bytes) else 0

-- What stands behind a `#`: a comment ends before a newline or with the text, and a byte from 0x80 on is bad in it.
abbrev pub comment_of : List ℕ → Piece
comment_of rest = if nat_lt (byte_or rest (run class.Comment rest)) 128 then Gap (run class.Comment rest + 1) else Bad (run class.Comment rest + 1)

abbrev pub word_of : List ℕ → Piece
word_of bytes =
    if is_reserved (take (run class.Name bytes) bytes) then Token kind.Word (run class.Name bytes)
    else if nat_le (run class.Name bytes) 64 then Token kind.Name (run class.Name bytes)
    else Bad 0

abbrev pub number_of : List ℕ → Piece
number_of bytes = if is_number_within (take (run class.Digit bytes) bytes) then Token kind.Number (run class.Digit bytes) else Bad 0

abbrev pub text_of : ℕ → ℕ → Piece
text_of denoted size = if nat_le denoted 4091 then Token kind.Text size else Bad 0

-- so far the text denotes so many bytes, and so many stand behind its quote
abbrev pub closing : (escaped : Bool) → ℕ → ℕ → List ℕ → Piece
closing escaped n i [] = Bad 0
closing true n i (b ∷ rest) = if is_escape b then closing false (n + 1) (i + 1) rest else Bad 0
closing false n i (b ∷ rest) =
    if b == 34 then text_of n (i + 2)
    else if b == 92 then closing true n (i + 1) rest
    else if is_plain b then closing false (n + 1) (i + 1) rest
    else Bad 0

abbrev pub sign_of : ℕ → List ℕ → Piece
sign_of b rest = if is_pair b (byte_or rest 0) then Token kind.Sign 2 else if is_single b then Token kind.Sign 1 else Bad 0

abbrev pub front_of : ℕ → List ℕ → List ℕ → Piece
front_of b rest bytes =
    if (b == 32 || b == 9) || (b == 13 || b == 10) then Gap 1
    else if b == 35 then comment_of rest
    else if is_lower b then word_of bytes
    else if is_digit b then number_of bytes
    else if b == 34 then closing false 0 0 rest
    else sign_of b rest

abbrev pub piece_of : List ℕ → Piece
piece_of [] = End
piece_of (b ∷ rest) = front_of b rest (b ∷ rest)

abbrev pub size_of : Piece → ℕ
size_of End = 0
size_of (Gap n) = n
size_of (Token k n) = n
size_of (Bad n) = n

-- a gap and a token have a byte
abbrev pub HasByte : Piece → Type 0
HasByte End = Unit {0}
HasByte (Gap n) = 0 < n
HasByte (Token k n) = 0 < n
HasByte (Bad n) = Unit {0}
