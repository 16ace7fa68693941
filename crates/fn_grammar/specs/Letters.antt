-- The letters of the grammar: tokens with their bytes.
use Rattle.std.specs.Prelude.{ℕ, List, [], ◌∷◌, Bool, true, false, ◌&&◌, nat_le, codes, slice_range}
use Rattle.std.specs.Str.{bytes_eq}
use Rattle.fn_lex.specs.declared.span.TokenKind.{TokenKind}
use Rattle.fn_lex.specs.declared.span.TokenKind.TheVariants as kind
use Rattle.fn_lex.specs.declared.span.Token.{Token}
use Rattle.fn_lex.specs.Lexemes.{value_from}
use Rattle.fn_grammar.specs.declared.lexeme.Lexeme.{Lexeme}
use Rattle.fn_grammar.specs.declared.lexeme.Lexeme.TheVariants as lex
use Rattle.fn_grammar.specs.declared.symbol.Symbol.{Symbol}
use Rattle.fn_grammar.specs.declared.symbol.Symbol.TheVariants.{Fixed, Name, Param, Bound, Number, Text}

-- A token with its bytes. No limit is asked of a free one; a text has none of these.
pub record Letter : Type 0 where
  pub kind : TokenKind
  pub word : List ℕ
  pub free : Bool

-- the letter of a text's token
abbrev pub letter : TokenKind → List ℕ → Letter
letter k w = record { kind = k; word = w; free = false }

-- the letters of a text
abbrev pub letters : List ℕ → List Token → List Letter
letters text [] = []
letters text (t ∷ ts) = letter t.kind (slice_range text t.from t.to) ∷ letters text ts

-- the text of a reserved word or a sign
abbrev pub spelled : Lexeme → List ℕ
spelled lex.Table = codes "table"
spelled lex.Queue = codes "queue"
spelled lex.Outside = codes "outside"
spelled lex.Helper = codes "helper"
spelled lex.Txn = codes "txn"
spelled lex.Flow = codes "flow"
spelled lex.Let = codes "let"
spelled lex.Set = codes "set"
spelled lex.If = codes "if"
spelled lex.Else = codes "else"
spelled lex.While = codes "while"
spelled lex.Each = codes "each"
spelled lex.In = codes "in"
spelled lex.Try = codes "try"
spelled lex.Catch = codes "catch"
spelled lex.Return = codes "return"
spelled lex.Fail = codes "fail"
spelled lex.Put = codes "put"
spelled lex.Delete = codes "delete"
spelled lex.Get = codes "get"
spelled lex.Scan = codes "scan"
spelled lex.Do = codes "do"
spelled lex.Call = codes "call"
spelled lex.Spawn = codes "spawn"
spelled lex.Await = codes "await"
spelled lex.Null = codes "null"
spelled lex.True = codes "true"
spelled lex.False = codes "false"
spelled lex.Len = codes "len"
spelled lex.Str = codes "str"
spelled lex.OpenParen = codes "("
spelled lex.CloseParen = codes ")"
spelled lex.OpenBracket = codes "["
spelled lex.CloseBracket = codes "]"
spelled lex.OpenBrace = codes "{"
spelled lex.CloseBrace = codes "}"
spelled lex.Comma = codes ","
spelled lex.Semicolon = codes ";"
spelled lex.Assign = codes "="
spelled lex.Eq = codes "=="
spelled lex.Ne = codes "!="
spelled lex.Lt = codes "<"
spelled lex.Le = codes "<="
spelled lex.Gt = codes ">"
spelled lex.Ge = codes ">="
spelled lex.Plus = codes "+"
spelled lex.Join = codes "++"
spelled lex.Minus = codes "-"
spelled lex.Times = codes "*"
spelled lex.Over = codes "/"
spelled lex.Percent = codes "%"
spelled lex.And = codes "&&"
spelled lex.Or = codes "||"
spelled lex.Not = codes "!"

abbrev pub is_fixed : TokenKind → Bool
is_fixed kind.Word = true
is_fixed kind.Sign = true
is_fixed _ = false

abbrev pub is_name : TokenKind → Bool
is_name kind.Name = true
is_name _ = false

abbrev pub is_number : TokenKind → Bool
is_number kind.Number = true
is_number _ = false

abbrev pub is_text : TokenKind → Bool
is_text kind.Text = true
is_text _ = false

-- a number from 1 to 1,000
abbrev pub is_bound : List ℕ → Bool
is_bound w = nat_le 1 (value_from 0 w) && nat_le (value_from 0 w) 1000

-- the symbol is written as this letter
abbrev pub fits : Symbol → Letter → Bool
fits (Fixed l) x = is_fixed x.kind && bytes_eq x.word (spelled l)
fits Name x = is_name x.kind
fits Param x = is_name x.kind
fits Bound x = is_number x.kind && is_bound x.word
fits Number x = is_number x.kind
fits Text x = is_text x.kind
fits _ x = false
