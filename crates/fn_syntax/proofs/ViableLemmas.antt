-- From each state each part can be written somehow, by letters of which no limit is asked.
use Rattle.std.proofs.Common.{◌≡◌, ℕ, suc, zero, ◌<◌, ◌≤◌, List, [], ◌∷◌, ◌++◌, true, refl, inl, inr, arith}
use Rattle.std.specs.Prelude.{codes}
use Rattle.std.proofs.lemmas.Slice.Eq.{bytes_eq-Decides}
use Rattle.fn_lex.specs.declared.span.TokenKind.TheVariants as kind
use Rattle.fn_grammar.specs.declared.lexeme.Lexeme.TheVariants as lex
use Rattle.fn_grammar.specs.declared.symbol.Action.TheVariants as act
use Rattle.fn_grammar.specs.declared.symbol.Statement.TheVariants as stmt_kind
use Rattle.fn_grammar.specs.declared.symbol.Binding.TheVariants as bind_kind
use Rattle.fn_grammar.specs.declared.symbol.Part.{Part as Nonterminal}
use Rattle.fn_grammar.specs.declared.symbol.Part.TheVariants as part
use Rattle.fn_grammar.specs.declared.symbol.Symbol.{Symbol}
use Rattle.fn_grammar.specs.declared.symbol.Symbol.TheVariants.{Fixed, Name, Param, Bound, Number, Text, Part, Make, Begin, End}
use Rattle.fn_grammar.specs.Letters.{Letter, fits, spelled}
use Rattle.fn_grammar.specs.Grammar.{rules}
use Rattle.fn_grammar.specs.Derivation.{State, IsOneOf, Derives, done, read, make, begin, end, by_rule, after_letter, after_make, after_begin, after_end}
use Rattle.fn_grammar.specs.Steps.{is_terminal}

-- some letters complete it
abbrev pub Viable : List Symbol → State → Type 0
Viable todo v = (more : List Letter) × (w : State) × Derives todo v more w

-- a letter for each symbol that a token reads
abbrev sample_letter : Symbol → Letter
sample_letter (Fixed l) = record { kind = kind.Word; word = spelled l; free = true }
sample_letter Name = record { kind = kind.Name; word = []; free = true }
sample_letter Param = record { kind = kind.Name; word = []; free = true }
sample_letter Bound = record { kind = kind.Number; word = codes "1"; free = true }
sample_letter Number = record { kind = kind.Number; word = codes "1"; free = true }
sample_letter Text = record { kind = kind.Text; word = []; free = true }
sample_letter _ = record { kind = kind.Text; word = []; free = true }

sample_fits : (s : Symbol) → is_terminal s ≡ true → fits s (sample_letter s) ≡ true
sample_fits (Fixed l) t = (bytes_eq-Decides (spelled l) (spelled l)).1 refl
sample_fits Name t = refl
sample_fits Param t = refl
sample_fits Bound t = refl
sample_fits Number t = refl
sample_fits Text t = refl
sample_fits (Part p) t = absurd (cc)
sample_fits (Make a) t = absurd (cc)
sample_fits Begin t = absurd (cc)
sample_fits End t = absurd (cc)

sample_free : (s : Symbol) → (sample_letter s).free ≡ true
sample_free (Fixed l) = refl
sample_free Name = refl
sample_free Param = refl
sample_free Bound = refl
sample_free Number = refl
sample_free Text = refl
sample_free _ = refl

read_sample : (s : Symbol) (todo : List Symbol) → is_terminal s ≡ true → ((u : State) → Viable todo u) → (v : State) → Viable (s ∷ todo) v
read_sample s todo t k v =
    let x = sample_letter s in
    let d = k (after_letter s x v) in
    (x ∷ d.0, d.1, read s x (sample_fits s t) (inl (sample_free s)) d.2)

-- how deep the shortest way to write a part is
abbrev height : Nonterminal → ℕ
height part.Params = 1
height part.Block = 1
height part.Args = 1
height part.Unary = 1
height part.Prod = 2
height part.Sum = 3
height part.Cmp = 4
height part.Conj = 5
height part.Expr = 6
height part.Outer = 7
height part.Key = 8
height part.Rhs = 8
height part.Ask = 8
height _ = 0

-- the parts among these are lower
abbrev AreLow : ℕ → List Symbol → Type 0
AreLow n [] = Unit {0}
AreLow n (Part p ∷ ts) = (height p < n) × AreLow n ts
AreLow n (s ∷ ts) = AreLow n ts

-- a short way to write each part
abbrev sample : Nonterminal → List Symbol
sample part.Items = []
sample part.Params = Fixed lex.OpenParen ∷ Make act.NoNames ∷ Part part.Names ∷ []
sample part.Names = Fixed lex.CloseParen ∷ []
sample part.MoreNames = Fixed lex.CloseParen ∷ []
sample part.Block = Fixed lex.OpenBrace ∷ Make act.Empty ∷ Part part.Stmts ∷ []
sample part.Stmts = Fixed lex.CloseBrace ∷ []
sample part.Else = Make (act.Stmt stmt_kind.If) ∷ []
sample part.Key = Fixed lex.OpenBracket ∷ Part part.Outer ∷ Fixed lex.CloseBracket ∷ []
sample part.Rhs = Part part.Outer ∷ Make (act.Bind bind_kind.Plain) ∷ []
sample part.Ask = Fixed lex.Await ∷ Part part.Outer ∷ Make (act.Bind bind_kind.Await) ∷ []
sample part.Args = Fixed lex.OpenParen ∷ Make act.NoExprs ∷ Part part.OuterList ∷ []
sample part.OuterList = Fixed lex.CloseParen ∷ []
sample part.MoreOuter = Fixed lex.CloseParen ∷ []
sample part.Outer = Begin ∷ Part part.Expr ∷ End ∷ []
sample part.Expr = Part part.Conj ∷ Part part.Ors ∷ []
sample part.Ors = []
sample part.Conj = Part part.Cmp ∷ Part part.Ands ∷ []
sample part.Ands = []
sample part.Cmp = Part part.Sum ∷ Part part.Compared ∷ []
sample part.Compared = []
sample part.Sum = Part part.Prod ∷ Part part.Terms ∷ []
sample part.Terms = []
sample part.Prod = Part part.Unary ∷ Part part.Factors ∷ []
sample part.Factors = []
sample part.Unary = Number ∷ Part part.Indexes ∷ []
sample part.Named = Make act.Variable ∷ []
sample part.Indexes = []
sample part.ParenList = Fixed lex.CloseParen ∷ []
sample part.MoreParen = Fixed lex.CloseParen ∷ []
sample part.ListItems = Fixed lex.CloseBracket ∷ []
sample part.MoreItems = Fixed lex.CloseBracket ∷ []

sample_in : (p : Nonterminal) → IsOneOf (rules p) (sample p)
sample_in part.Items = inr (inr (inr (inr (inr (inr (inl refl))))))
sample_in part.Params = inl refl
sample_in part.Names = inl refl
sample_in part.MoreNames = inr (inl refl)
sample_in part.Block = inl refl
sample_in part.Stmts = inr (inr (inr (inr (inr (inr (inr (inr (inr (inr (inr (inl refl)))))))))))
sample_in part.Else = inr (inl refl)
sample_in part.Key = inl refl
sample_in part.Rhs = inr (inr (inr (inr (inr (inl refl)))))
sample_in part.Ask = inr (inr (inl refl))
sample_in part.Args = inl refl
sample_in part.OuterList = inl refl
sample_in part.MoreOuter = inr (inl refl)
sample_in part.Outer = inl refl
sample_in part.Expr = inl refl
sample_in part.Ors = inr (inl refl)
sample_in part.Conj = inl refl
sample_in part.Ands = inr (inl refl)
sample_in part.Cmp = inl refl
sample_in part.Compared = inr (inr (inr (inr (inr (inr (inl refl))))))
sample_in part.Sum = inl refl
sample_in part.Terms = inr (inr (inr (inl refl)))
sample_in part.Prod = inl refl
sample_in part.Factors = inr (inr (inr (inl refl)))
sample_in part.Unary = inr (inr (inl refl))
sample_in part.Named = inr (inl refl)
sample_in part.Indexes = inr (inl refl)
sample_in part.ParenList = inl refl
sample_in part.MoreParen = inr (inl refl)
sample_in part.ListItems = inl refl
sample_in part.MoreItems = inr (inl refl)

sample_low : (p : Nonterminal) → AreLow (height p) (sample p)
sample_low part.Items = tt
sample_low part.Params = (omega arith, tt)
sample_low part.Names = tt
sample_low part.MoreNames = tt
sample_low part.Block = (omega arith, tt)
sample_low part.Stmts = tt
sample_low part.Else = tt
sample_low part.Key = (omega arith, tt)
sample_low part.Rhs = (omega arith, tt)
sample_low part.Ask = (omega arith, tt)
sample_low part.Args = (omega arith, tt)
sample_low part.OuterList = tt
sample_low part.MoreOuter = tt
sample_low part.Outer = (omega arith, tt)
sample_low part.Expr = (omega arith, (omega arith, tt))
sample_low part.Ors = tt
sample_low part.Conj = (omega arith, (omega arith, tt))
sample_low part.Ands = tt
sample_low part.Cmp = (omega arith, (omega arith, tt))
sample_low part.Compared = tt
sample_low part.Sum = (omega arith, (omega arith, tt))
sample_low part.Terms = tt
sample_low part.Prod = (omega arith, (omega arith, tt))
sample_low part.Factors = tt
sample_low part.Unary = (omega arith, tt)
sample_low part.Named = tt
sample_low part.Indexes = tt
sample_low part.ParenList = tt
sample_low part.MoreParen = tt
sample_low part.ListItems = tt
sample_low part.MoreItems = tt

lower : (n m : ℕ) (ts : List Symbol) → n ≤ m → AreLow n ts → AreLow m ts
lower n m [] le h = tt
lower n m (Part p ∷ ts) le h = (omega (arith, h.0), lower n m ts le h.1)
lower n m (s ∷ ts) le h = lower n m ts le h

abbrev PartsViable : ℕ → Type 0
PartsViable n = (p : Nonterminal) → height p < n → (todo : List Symbol) → ((u : State) → Viable todo u) → (v : State) → Viable (Part p ∷ todo) v

viable_by : (n : ℕ) → PartsViable n → (ts : List Symbol) → AreLow n ts → (todo : List Symbol) → ((u : State) → Viable todo u) → (v : State) → Viable (ts ++ todo) v
viable_by n f [] h todo k v = k v
viable_by n f (Part p ∷ ts) h todo k v = f p h.0 (ts ++ todo) (viable_by n f ts h.1 todo k) v
viable_by n f (Make a ∷ ts) h todo k v = let d = viable_by n f ts h todo k (after_make a v) in (d.0, d.1, make a d.2)
viable_by n f (Begin ∷ ts) h todo k v = let d = viable_by n f ts h todo k (after_begin v) in (d.0, d.1, begin d.2)
viable_by n f (End ∷ ts) h todo k v = let d = viable_by n f ts h todo k (after_end v) in (d.0, d.1, end d.2)
viable_by n f (s ∷ ts) h todo k v = read_sample s (ts ++ todo) refl (viable_by n f ts h todo k) v

parts_viable : (n : ℕ) → PartsViable n
parts_viable zero p h todo k v = absurd (omega (arith, h))
parts_viable (suc n) p h todo k v =
    let d = viable_by n (parts_viable n) (sample p) (lower (height p) n (sample p) (omega (arith, h)) (sample_low p)) todo k v in
    (d.0, d.1, by_rule p (sample p) (sample_in p) d.2)

top_height : (p : Nonterminal) → height p < 9
top_height part.Items = omega arith
top_height part.Params = omega arith
top_height part.Names = omega arith
top_height part.MoreNames = omega arith
top_height part.Block = omega arith
top_height part.Stmts = omega arith
top_height part.Else = omega arith
top_height part.Key = omega arith
top_height part.Rhs = omega arith
top_height part.Ask = omega arith
top_height part.Args = omega arith
top_height part.OuterList = omega arith
top_height part.MoreOuter = omega arith
top_height part.Outer = omega arith
top_height part.Expr = omega arith
top_height part.Ors = omega arith
top_height part.Conj = omega arith
top_height part.Ands = omega arith
top_height part.Cmp = omega arith
top_height part.Compared = omega arith
top_height part.Sum = omega arith
top_height part.Terms = omega arith
top_height part.Prod = omega arith
top_height part.Factors = omega arith
top_height part.Unary = omega arith
top_height part.Named = omega arith
top_height part.Indexes = omega arith
top_height part.ParenList = omega arith
top_height part.MoreParen = omega arith
top_height part.ListItems = omega arith
top_height part.MoreItems = omega arith

-- whatever is still to be read can be written
pub viable : (todo : List Symbol) (v : State) → Viable todo v
viable [] v = ([], v, done)
viable (Part p ∷ todo) v = parts_viable 9 p (top_height p) todo (viable todo) v
viable (Make a ∷ todo) v = let d = viable todo (after_make a v) in (d.0, d.1, make a d.2)
viable (Begin ∷ todo) v = let d = viable todo (after_begin v) in (d.0, d.1, begin d.2)
viable (End ∷ todo) v = let d = viable todo (after_end v) in (d.0, d.1, end d.2)
viable (s ∷ todo) v = read_sample s todo refl (viable todo) v
