-- The lines of a script.
use Rattle.std.specs.Prelude.{◌≡◌, ℕ, Bool, ◌||◌, ◌==◌, not, List, [], ◌∷◌, ◌++◌, filter, if◌then◌else◌}
use Rattle.std.specs.List.{list_all}

abbrev pub Text : Type 0
Text = List ℕ

-- the pieces with this byte in front of the first
abbrev pub with_first : ℕ → List Text → List Text
with_first b [] = (b ∷ []) ∷ []
with_first b (p ∷ ps) = (b ∷ p) ∷ ps

-- the pieces of a text between its newlines, one more than there are newlines
abbrev pub pieces : Text → List Text
pieces [] = [] ∷ []
pieces (b ∷ bs) = if b == 10 then [] ∷ pieces bs else with_first b (pieces bs)

-- all pieces but the last: those that end with a newline
abbrev pub but_last : List Text → List Text
but_last [] = []
but_last (p ∷ []) = []
but_last (p ∷ q ∷ ps) = p ∷ but_last (q ∷ ps)

-- a space, a tab or a carriage return
abbrev pub is_space : ℕ → Bool
is_space b = b == 32 || b == 9 || b == 13

-- a piece that isn't blank
abbrev pub is_line : Text → Bool
is_line s = not (list_all is_space s)

-- the lines of a whole script; what stands behind the last newline is one too
abbrev pub lines_of : Text → List Text
lines_of script = filter is_line (pieces script)

-- the lines that end in these bytes
abbrev pub ended_lines : Text → List Text
ended_lines bytes = filter is_line (but_last (pieces bytes))

-- these bytes stop between two lines, and these are their lines: those of what follows come behind them
pub record Passed (bytes : Text) (lines : List Text) : Type 0 where
  pub whole : (rest : Text) → lines_of (bytes ++ rest) ≡ lines ++ lines_of rest
  pub ended : (rest : Text) → ended_lines (bytes ++ rest) ≡ lines ++ ended_lines rest
