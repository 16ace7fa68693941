-- What a spelling is made of: tokens, and marks round each expression that stands in no other.
use Rattle.std.specs.Prelude.{ℕ, ℤ, List, [], ◌∷◌, ◌++◌, ◌==◌, if◌then◌else◌}
use Rattle.std.specs.Fmt.{signed_decimal}
use Rattle.fn_lex.specs.declared.span.TokenKind.{TokenKind}
use Rattle.fn_lex.specs.declared.span.TokenKind.TheVariants as kind
use Rattle.fn_grammar.specs.declared.lexeme.Lexeme.{Lexeme}
use Rattle.fn_grammar.specs.declared.lexeme.Lexeme.TheVariants as lex
use Rattle.fn_grammar.specs.Letters.{Letter, letter, spelled}

-- a reserved word or sign, a name, a number, a text that is denoted; or a mark, which has no bytes
pub data Piece : Type 0 where
  a_word : Lexeme → Piece
  a_name : List ℕ → Piece
  a_number : ℤ → Piece
  a_text : List ℕ → Piece
  expr_begins : Piece
  expr_ends : Piece

abbrev pub lexeme_kind : Lexeme → TokenKind
lexeme_kind lex.OpenParen = kind.Sign
lexeme_kind lex.CloseParen = kind.Sign
lexeme_kind lex.OpenBracket = kind.Sign
lexeme_kind lex.CloseBracket = kind.Sign
lexeme_kind lex.OpenBrace = kind.Sign
lexeme_kind lex.CloseBrace = kind.Sign
lexeme_kind lex.Comma = kind.Sign
lexeme_kind lex.Semicolon = kind.Sign
lexeme_kind lex.Assign = kind.Sign
lexeme_kind lex.Eq = kind.Sign
lexeme_kind lex.Ne = kind.Sign
lexeme_kind lex.Lt = kind.Sign
lexeme_kind lex.Le = kind.Sign
lexeme_kind lex.Gt = kind.Sign
lexeme_kind lex.Ge = kind.Sign
lexeme_kind lex.Plus = kind.Sign
lexeme_kind lex.Join = kind.Sign
lexeme_kind lex.Minus = kind.Sign
lexeme_kind lex.Times = kind.Sign
lexeme_kind lex.Over = kind.Sign
lexeme_kind lex.Percent = kind.Sign
lexeme_kind lex.And = kind.Sign
lexeme_kind lex.Or = kind.Sign
lexeme_kind lex.Not = kind.Sign
lexeme_kind _ = kind.Word

-- how a byte of a text is written between quotes
abbrev pub escape : ℕ → List ℕ
escape b =
    if b == 34 then 92 ∷ 34 ∷ []
    else if b == 92 then 92 ∷ 92 ∷ []
    else if b == 10 then 92 ∷ 110 ∷ []
    else b ∷ []

abbrev pub escaped : List ℕ → List ℕ
escaped [] = []
escaped (b ∷ w) = escape b ++ escaped w

-- the token of a text
abbrev pub quoted : List ℕ → List ℕ
quoted w = 34 ∷ (escaped w ++ 34 ∷ [])

-- what a token is written as
abbrev pub word_of : Piece → List ℕ
word_of (a_word l) = spelled l
word_of (a_name w) = w
word_of (a_number z) = signed_decimal z
word_of (a_text w) = quoted w
word_of _ = []

abbrev pub kind_of : Piece → TokenKind
kind_of (a_word l) = lexeme_kind l
kind_of (a_name w) = kind.Name
kind_of (a_number z) = kind.Number
kind_of _ = kind.Text

-- the letters of the grammar: the tokens without the marks
abbrev pub letters_of : List Piece → List Letter
letters_of [] = []
letters_of (expr_begins ∷ xs) = letters_of xs
letters_of (expr_ends ∷ xs) = letters_of xs
letters_of (x ∷ xs) = letter (kind_of x) (word_of x) ∷ letters_of xs

-- the bytes: each token, and a space behind it
abbrev pub spaced : List Piece → List ℕ
spaced [] = []
spaced (expr_begins ∷ xs) = spaced xs
spaced (expr_ends ∷ xs) = spaced xs
spaced (x ∷ xs) = word_of x ++ 32 ∷ spaced xs
