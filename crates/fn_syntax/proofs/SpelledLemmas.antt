-- What a text is read as, with the tokens that it has.
use Rattle.std.proofs.Common.{◌≡◌, ℕ, List, Option, None, sym, subst}
use Rattle.fn_lex.specs.Lexed.{Lexed}
use Rattle.fn_lex.specs.declared.span.Token.{Token}
use Rattle.fn_tree.specs.declared.program.Item.{Item}
use Rattle.fn_grammar.specs.Letters.{letters}
use Rattle.fn_grammar.specs.Derivation.{IsProgram}
use Rattle.fn_spell.specs.Limits.{IsReadAs}

-- a text has one list of tokens, and one first bad place or none
abbrev OneReading : Type 0
OneReading = (text : List ℕ) (ts us : List Token) (bad worse : Option ℕ) → Lexed 0 text ts bad → Lexed 0 text us worse → (ts ≡ us) × (bad ≡ worse)

-- what the text is read as is a program of its tokens
pub read_with : (text : List ℕ) (ts : List Token) (items : List Item) → OneReading → Lexed 0 text ts None → IsReadAs text items → IsProgram (letters text ts) items
read_with text ts items one l r = subst (λ ts. IsProgram (letters text ts) items) (sym (one text ts r.tokens None None l r.lexed).0) r.program
