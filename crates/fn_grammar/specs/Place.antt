-- Where a text is refused: at the first token with which the grammar can't go on, or that passes a
-- limit.
use Rattle.std.specs.Prelude.{◌≡◌, ℕ, List, [], ◌∷◌, ◌++◌, length, drop}
use Rattle.fn_lex.specs.declared.span.Token.{Token}
use Rattle.fn_tree.specs.declared.program.Item.{Item}
use Rattle.fn_grammar.specs.Letters.{Letter, letters}
use Rattle.fn_grammar.specs.Derivation.{IsProgram}

-- these letters keep the limits, and the grammar can go on behind them, with letters of which no
-- limit is asked
abbrev pub CanGoOn : List Letter → Type 0
CanGoOn front = (more : List Letter) × (items : List Item) × IsProgram (front ++ more) items

-- it can't with the next letter; at the end of the text, what stands there isn't whole
abbrev pub IsStuck : List Letter → List Letter → Type 0
IsStuck front [] = (items : List Item) → IsProgram front items → ⊥
IsStuck front (x ∷ rest) = CanGoOn (front ++ x ∷ []) → ⊥

-- where the first of these tokens begins, or where the text ends
abbrev pub start_of : List ℕ → List Token → ℕ
start_of text [] = length text
start_of text (t ∷ ts) = t.from

-- the place of the token that is refused, or the end of the text
pub record IsPlace (text : List ℕ) (tokens : List Token) (at : ℕ) : Type 0 where
  pub front : List Letter
  pub rest : List Letter
  pub split : letters text tokens ≡ front ++ rest
  pub goes_on : CanGoOn front
  pub stuck : IsStuck front rest
  pub here : start_of text (drop (length front) tokens) ≡ at
