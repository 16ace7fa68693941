-- Which spellings are programs: those whose names, numbers and texts are tokens, within the limits of
-- the grammar.
use Rattle.std.specs.Prelude.{◌≡◌, ℕ, ◌≤◌, ◌==◌, ◌||◌, ◌&&◌, Bool, true, false, not, List, [], ◌∷◌, length, Option, Some, None, nat_le, pos, negsuc}
use Rattle.std.specs.List.{list_all}
use Rattle.fn_lex.specs.declared.span.TokenKind.TheVariants as kind
use Rattle.fn_lex.specs.declared.span.Token.{Token}
use Rattle.fn_lex.specs.Bytes.{is_plain}
use Rattle.fn_lex.specs.Lexemes.{is_lexeme, is_within}
use Rattle.fn_lex.specs.Lexed.{Lexed}
use Rattle.fn_tree.specs.declared.program.Item.{Item}
use Rattle.fn_tree.specs.declared.program.Item.TheVariants as item
use Rattle.fn_tree.specs.Declarations.{params_of}
use Rattle.fn_grammar.specs.declared.symbol.Symbol.{Symbol}
use Rattle.fn_grammar.specs.declared.symbol.Symbol.TheVariants.{Fixed, Name, Number, Text, Begin, End}
use Rattle.fn_grammar.specs.Letters.{letters}
use Rattle.fn_grammar.specs.Derivation.{IsProgram, has, deeper, depth_after, one_more}
use Rattle.fn_spell.specs.Pieces.{Piece, a_word, a_name, a_number, a_text, expr_begins, expr_ends}
use Rattle.fn_spell.specs.Spelling.{program_pieces}

-- a text holds bytes 0x20 to 0x7e, and newlines
abbrev pub is_textual : ℕ → Bool
is_textual b = is_plain b || (b == 34 || (b == 92 || b == 10))

-- each name, number and text is that of a token of its kind
abbrev pub is_token : Piece → Bool
is_token (a_name w) = is_lexeme kind.Name w && is_within kind.Name w
is_token (a_number (pos n)) = nat_le n 9223372036854775807
is_token (a_number (negsuc n)) = false
is_token (a_text w) = list_all is_textual w && nat_le (length w) 4091
is_token _ = true

-- the symbol that reads a piece
abbrev pub symbol_of : Piece → Symbol
symbol_of (a_word l) = Fixed l
symbol_of (a_name w) = Name
symbol_of (a_number z) = Number
symbol_of (a_text w) = Text
symbol_of expr_begins = Begin
symbol_of expr_ends = End

-- how many brackets are open behind a piece, and how many tokens the open expression has
abbrev pub depth_behind : ℕ → Piece → ℕ
depth_behind n x = depth_after (symbol_of x) n

abbrev pub used_behind : Option ℕ → Piece → Option ℕ
used_behind u expr_begins = Some 0
used_behind u expr_ends = None
used_behind u x = one_more u

-- the piece is no bracket where 64 are open, and no token behind 1,024 of its expression
abbrev pub may_stand : ℕ → Option ℕ → Piece → Bool
may_stand n u expr_begins = true
may_stand n u expr_ends = true
may_stand n u x = not (has 1024 u) && not (deeper (symbol_of x) n)

-- At most 64 brackets are open at once, and an expression that stands in no other has at most 1,024
-- tokens: from a place with so many open brackets and so many tokens of an open expression.
abbrev pub keeps : ℕ → Option ℕ → List Piece → Bool
keeps n u [] = true
keeps n u (x ∷ xs) = may_stand n u x && keeps (depth_behind n x) (used_behind u x) xs

-- A queue's number is from 1 to 1,000, and nothing is marked `serial`.
abbrev pub is_ordinary : Item → Bool
is_ordinary (item.Queue x n) = nat_le 1 n && nat_le n 1000
is_ordinary (item.Txn serial x params body) = not serial
is_ordinary i = true

-- the item's parameters are at most 16, and it is ordinary
abbrev pub is_fit : Item → Bool
is_fit i = nat_le (length (params_of i)) 16 && is_ordinary i

-- the spelling keeps the limits of the grammar
pub record KeepsLimits (items : List Item) : Type 0 where
  pub few : length items ≤ 1000
  pub fit : list_all is_fit items ≡ true
  pub keeps : keeps 0 None (program_pieces items) ≡ true

-- each name, number and text of the tree is that of a token of its kind
abbrev pub HasTokens : List Item → Type 0
HasTokens items = list_all is_token (program_pieces items) ≡ true

-- these bytes have tokens, and they are a program of these items
pub record IsReadAs (text : List ℕ) (items : List Item) : Type 0 where
  pub tokens : List Token
  pub lexed : Lexed 0 text tokens None
  pub program : IsProgram (letters text tokens) items
