-- Which texts are function files, and what a text is refused for.
use Rattle.std.specs.Prelude.{◌≡◌, ℕ, List, Some, None}
use Rattle.serde_json.specs.Data.{Data, number, unsigned, string, object, member, no_members}
use Rattle.std.specs.Prelude.{codes}
use Rattle.fn_lex.specs.declared.span.Token.{Token}
use Rattle.fn_lex.specs.Lexed.{Lexed}
use Rattle.fn_tree.specs.declared.program.Item.{Item}
use Rattle.fn_tree.specs.Soundness.{IsSound}
use Rattle.fn_grammar.specs.Letters.{letters}
use Rattle.fn_grammar.specs.Derivation.{IsProgram}
use Rattle.fn_grammar.specs.Place.{IsPlace}
use Rattle.fn_check.specs.declared.fault.CheckKind.{CheckKind}
use Rattle.fn_check.specs.declared.fault.CheckKind.TheVariants as kinds
use Rattle.fn_check.specs.FirstFault.{first_fault}
use Rattle.r3_model.specs.Language.{Text}
use Rattle.r3_top.specs.declared.functions.FunctionsFault.{FunctionsFault}
use Rattle.r3_top.specs.declared.functions.FunctionsFault.TheVariants as faults

-- the text is a program of these items
pub record IsText (text : Text) (items : List Item) : Type 0 where
  pub tokens : List Token
  pub lexed : Lexed 0 text tokens None
  pub program : IsProgram (letters text tokens) items

-- a program that the checker finds nothing wrong in
pub record IsAccepted (text : Text) (items : List Item) : Type 0 where
  pub is : IsText text items
  pub sound : IsSound items

-- its tokens are followed by this place, where no token stands
pub record IsNoToken (text : Text) (at : ℕ) : Type 0 where
  pub tokens : List Token
  pub lexed : Lexed 0 text tokens (Some at)

-- its tokens are no program, and this is the first place with which the grammar can't go on
pub record IsNoProgram (text : Text) (at : ℕ) : Type 0 where
  pub tokens : List Token
  pub lexed : Lexed 0 text tokens None
  pub place : IsPlace text tokens at
  pub none : (items : List Item) → IsProgram (letters text tokens) items → ⊥

-- a program with a first fault
pub record IsUnsound (text : Text) (item : ℕ) (kind : CheckKind) : Type 0 where
  pub items : List Item
  pub is : IsText text items
  pub fault : first_fault items ≡ Some (item, kind)

-- why a text is no function file
abbrev pub IsRefused : Text → FunctionsFault → Type 0
IsRefused text (faults.Lex at) = IsNoToken text at
IsRefused text (faults.Syntax at) = IsNoProgram text at
IsRefused text (faults.Check item kind) = IsUnsound text item kind

-- ---- how it is told

abbrev pub kind_word : CheckKind → Text
kind_word kinds.DuplicateName = codes "duplicate_name"
kind_word kinds.UnknownName = codes "unknown_name"
kind_word kinds.Kind = codes "kind"
kind_word kinds.CallOrder = codes "call_order"
kind_word kinds.Arity = codes "arity"
kind_word kinds.Unbound = codes "unbound"

abbrev pub place_data : ℕ → Text → Data
place_data at kind = object
    (member (codes "at") (number (unsigned at))
    (member (codes "fault") (string (codes "functions"))
    (member (codes "kind") (string kind) no_members)))

abbrev pub item_data : ℕ → Text → Data
item_data item kind = object
    (member (codes "fault") (string (codes "functions"))
    (member (codes "item") (number (unsigned item))
    (member (codes "kind") (string kind) no_members)))

abbrev pub functions_data : FunctionsFault → Data
functions_data (faults.Lex at) = place_data at (codes "lex")
functions_data (faults.Syntax at) = place_data at (codes "syntax")
functions_data (faults.Check item kind) = item_data item (kind_word kind)
