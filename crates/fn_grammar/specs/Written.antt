-- How the code holds letters.
use Rattle.std.specs.Prelude.{Option, Some, None, IsTrue}
use Rattle.fn_lex.specs.Lexemes.{is_lexeme, is_within}
use Rattle.fn_grammar.specs.declared.letter.Letter.{Letter as Written}
use Rattle.fn_grammar.specs.Letters.{Letter, letter}

abbrev pub seen_as : Written → Letter
seen_as l = letter l.kind l.word.now

-- it is a token, within its limits
pub record IsToken (l : Written) : Type 0 where
  pub is : IsTrue (is_lexeme l.kind l.word.now)
  pub within : IsTrue (is_within l.kind l.word.now)

-- the next letter, if there is one
abbrev pub seen : Option Written → Option Letter
seen None = None
seen (Some l) = Some (seen_as l)
