-- What a text may say, with its trees and within its limits.
use Rattle.std.specs.Prelude.{◌≡◌, ℕ, ◌+◌, ◌-◌, ◌⊎◌, List, [], ◌∷◌, ◌++◌, length, Option, Some, None, Bool, true, false, ◌||◌, ◌&&◌, nat_le, pos, if◌then◌else◌}
use Rattle.fn_lex.specs.Lexemes.{value_from, denoted}
use Rattle.fn_tree.specs.declared.expr.Expr as tree
use Rattle.fn_tree.specs.declared.program.Item.{Item}
use Rattle.fn_grammar.specs.declared.lexeme.Lexeme.{Lexeme}
use Rattle.fn_grammar.specs.declared.lexeme.Lexeme.TheVariants as lex
use Rattle.fn_grammar.specs.declared.symbol.Part.{Part as Nonterminal}
use Rattle.fn_grammar.specs.declared.symbol.Part.TheVariants as part
use Rattle.fn_grammar.specs.declared.symbol.Action.{Action}
use Rattle.fn_grammar.specs.declared.symbol.Symbol.{Symbol}
use Rattle.fn_grammar.specs.declared.symbol.Symbol.TheVariants.{Fixed, Name, Param, Bound, Number, Text, Part, Make, Begin, End}
use Rattle.fn_grammar.specs.Letters.{Letter, fits}
use Rattle.fn_grammar.specs.Grammar.{rules}
use Rattle.fn_grammar.specs.Trees.{Trees, no_trees, list, made}

-- What was read so far: the trees, how many brackets are open, and how many tokens the expression
-- has that is open and stands in no other.
pub record State : Type 0 where
  pub trees : Trees
  pub depth : ℕ
  pub used : Option ℕ

abbrev pub start : State
start = record { trees = no_trees; depth = 0; used = None }

abbrev pub opens : Lexeme → Bool
opens lex.OpenParen = true
opens lex.OpenBracket = true
opens lex.OpenBrace = true
opens _ = false

abbrev pub closes : Lexeme → Bool
closes lex.CloseParen = true
closes lex.CloseBracket = true
closes lex.CloseBrace = true
closes _ = false

-- an item begins with this word
abbrev pub leads_item : Lexeme → Bool
leads_item lex.Table = true
leads_item lex.Queue = true
leads_item lex.Outside = true
leads_item lex.Helper = true
leads_item lex.Txn = true
leads_item lex.Flow = true
leads_item _ = false

-- at least so many
abbrev pub has : ℕ → Option ℕ → Bool
has n None = false
has n (Some m) = nat_le n m

-- a bracket where 64 are open
abbrev pub deeper : Symbol → ℕ → Bool
deeper (Fixed l) n = opens l && nat_le 64 n
deeper _ n = false

-- an item behind 1,000, or a parameter behind 16
abbrev pub crowded : Symbol → State → Bool
crowded (Fixed l) v = leads_item l && nat_le 1000 (length v.trees.items)
crowded Param v = nat_le 16 (length (list v.trees))
crowded _ v = false

-- The next token passes a limit: these, or 1,024 tokens of an expression that stands in no other.
abbrev pub over : Symbol → State → Bool
over s v = has 1024 v.used || (deeper s v.depth || crowded s v)

-- how many brackets are open then
abbrev pub depth_after : Symbol → ℕ → ℕ
depth_after (Fixed l) n = if opens l then n + 1 else if closes l then n - 1 else n
depth_after s n = n

abbrev pub one_more : Option ℕ → Option ℕ
one_more None = None
one_more (Some n) = Some (n + 1)

-- the trees once a symbol was read as this letter
abbrev pub pushed : Symbol → Letter → Trees → Trees
pushed Name x t = record t { names = x.word ∷ t.names }
pushed Param x t = record t { names = x.word ∷ t.names }
pushed Bound x t = record t { bounds = value_from 0 x.word ∷ t.bounds }
pushed Number x t = record t { exprs = tree.Int (pos (value_from 0 x.word)) ∷ t.exprs }
pushed Text x t = record t { exprs = tree.Text (denoted x.word) ∷ t.exprs }
pushed s x t = t

abbrev pub after_letter : Symbol → Letter → State → State
after_letter s x v =
    record { trees = pushed s x v.trees; depth = depth_after s v.depth; used = one_more v.used }

abbrev pub after_make : Action → State → State
after_make a v = record v { trees = made a v.trees }

abbrev pub after_begin : State → State
after_begin v = record v { used = Some 0 }

abbrev pub after_end : State → State
after_end v = record v { used = None }

-- one of the rules
abbrev pub IsOneOf : List (List Symbol) → List Symbol → Type 0
IsOneOf [] r = ⊥
IsOneOf (q ∷ qs) r = (q ≡ r) ⊎ IsOneOf qs r

-- From a state these symbols may be written as these letters, and lead to a state. A part is
-- written by any of its rules.
pub data Derives : List Symbol → State → List Letter → State → Type 0 where
  done : {v : State} → Derives [] v [] v
  read : {todo : List Symbol} {v w : State} {xs : List Letter} (s : Symbol) (x : Letter)
      → fits s x ≡ true → (x.free ≡ true) ⊎ (over s v ≡ false)
      → Derives todo (after_letter s x v) xs w → Derives (s ∷ todo) v (x ∷ xs) w
  make : {todo : List Symbol} {v w : State} {xs : List Letter} (a : Action)
      → Derives todo (after_make a v) xs w → Derives (Make a ∷ todo) v xs w
  begin : {todo : List Symbol} {v w : State} {xs : List Letter}
      → Derives todo (after_begin v) xs w → Derives (Begin ∷ todo) v xs w
  end : {todo : List Symbol} {v w : State} {xs : List Letter} → Derives todo (after_end v) xs w
      → Derives (End ∷ todo) v xs w
  by_rule : {todo : List Symbol} {v w : State} {xs : List Letter} (p : Nonterminal) (r : List Symbol)
      → IsOneOf (rules p) r → Derives (r ++ todo) v xs w → Derives (Part p ∷ todo) v xs w

-- the letters are a program of these items
abbrev pub IsProgram : List Letter → List Item → Type 0
IsProgram xs items = (w : State) × Derives (Part part.Items ∷ []) start xs w × (w.trees.items ≡ items)
