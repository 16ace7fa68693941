-- Bytes on their way from one newline to the next.
use Rattle.std.specs.Prelude.{◌≡◌, ℕ, ◌^◌, Bool, true, false, List, [], ◌∷◌, ◌++◌, length, Result, Ok, Err}
use Rattle.r3_script.specs.declared.piece.Piece.{Piece}
use Rattle.r3_script.specs.declared.fault.ScriptFault.{ScriptFault}
use Rattle.r3_script.specs.declared.fault.ScriptFault.TheVariants.{Source, TooLong, Memory}
use Rattle.r3_script.specs.Lines.{Text, pieces, is_line, ended_lines, Passed}

-- the pieces with this text in front of the first
abbrev pub with_front : Text → List Text → List Text
with_front front [] = front ∷ []
with_front front (p ∷ ps) = (front ++ p) ∷ ps

-- the text has no newline: it only lengthens the first piece of what follows
abbrev pub Partial : Text → Type 0
Partial text = (rest : Text) → pieces (text ++ rest) ≡ with_front text (pieces rest)

-- these bytes were passed: behind whole lines, which were handed out, stands the piece
pub record Cuts (piece : Piece) (bytes : Text) (handed : List Text) : Type 0 where
  pub past : Text
  pub split : bytes ≡ past ++ piece.bytes.items
  pub count : length bytes ≡ piece.passed
  pub passed : Passed past handed
  pub partial : Partial piece.bytes.items

-- the piece is a line that was to be handed out next, and these bytes end with it
pub record Completes (piece : Piece) (bytes : Text) (handed : List Text) : Type 0 where
  pub count : length bytes ≡ piece.passed
  pub line : is_line piece.bytes.items ≡ true
  pub passed : Passed bytes (handed ++ piece.bytes.items ∷ [])

-- after one byte more
abbrev pub Pushed : Piece → Text → ℕ → List Text → Result Bool ScriptFault → Type 0
Pushed piece bytes byte handed (Ok true) = Completes piece (bytes ++ byte ∷ []) handed
Pushed piece bytes byte handed (Ok false) = Cuts piece (bytes ++ byte ∷ []) handed
Pushed piece bytes byte handed (Err Source) = Unit {0}
Pushed piece bytes byte handed (Err TooLong) = (length bytes ≡ 2 ^ 26) × (handed ≡ ended_lines bytes)
Pushed piece bytes byte handed (Err Memory) = Unit {0}
