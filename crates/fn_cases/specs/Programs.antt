-- Which texts are programs, and what a text is refused for.
use Rattle.std.specs.Prelude.{◌≡◌, ◌<◌, ◌^◌, ℕ, List, length, Some, None}
use Rattle.fn_lex.specs.declared.span.Token.{Token}
use Rattle.fn_lex.specs.Lexed.{Lexed}
use Rattle.fn_tree.specs.declared.program.Item.{Item}
use Rattle.fn_tree.specs.Soundness.{IsSound}
use Rattle.fn_grammar.specs.Letters.{letters}
use Rattle.fn_grammar.specs.Derivation.{IsProgram}
use Rattle.fn_grammar.specs.Place.{IsPlace}
use Rattle.fn_check.specs.FirstFault.{first_fault}
use Rattle.fn_cases.specs.declared.reading.NoProgram.{NoProgram}
use Rattle.fn_cases.specs.declared.reading.NoProgram.TheVariants as why

-- the text is a program of these items
pub record IsText (text : List ℕ) (items : List Item) : Type 0 where
  pub tokens : List Token
  pub lexed : Lexed 0 text tokens None
  pub program : IsProgram (letters text tokens) items

-- a program that the checker finds nothing wrong in
pub record IsAccepted (text : List ℕ) (items : List Item) : Type 0 where
  pub is : IsText text items
  pub sound : IsSound items

-- its tokens are followed by this place, where no token stands
pub record IsNoToken (text : List ℕ) (at : ℕ) : Type 0 where
  pub tokens : List Token
  pub lexed : Lexed 0 text tokens (Some at)

-- its tokens are no program, and this is the first place with which the grammar can't go on
pub record IsNoProgram (text : List ℕ) (at : ℕ) : Type 0 where
  pub tokens : List Token
  pub lexed : Lexed 0 text tokens None
  pub place : IsPlace text tokens at
  pub none : (items : List Item) → IsProgram (letters text tokens) items → ⊥

-- these items have a first fault, which is told
abbrev pub IsUnsound : List Item → NoProgram → Type 0
IsUnsound items (why.Check item kind) = first_fault items ≡ Some (item, kind)
IsUnsound items why.Memory = Unit {0}
IsUnsound items _ = ⊥

-- a program with a first fault
pub record IsFaulty (text : List ℕ) (fault : NoProgram) : Type 0 where
  pub items : List Item
  pub is : IsText text items
  pub unsound : IsUnsound items fault

-- why a text is refused
abbrev pub IsRefused : List ℕ → NoProgram → Type 0
IsRefused text why.Long = 2 ^ 20 < length text
IsRefused text (why.Lex at) = IsNoToken text at
IsRefused text (why.Syntax at) = IsNoProgram text at
IsRefused text (why.Check item kind) = IsFaulty text (why.Check item kind)
IsRefused text why.Memory = Unit {0}
