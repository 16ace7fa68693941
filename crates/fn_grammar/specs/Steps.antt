-- How the parser goes through the grammar: which rule of a part the next token chooses, and why no
-- other one can do.
-- No public contract cites this.
use Rattle.std.specs.Prelude.{◌≡◌, ℕ, suc, ◌+◌, ◌↔◌, List, [], ◌∷◌, Option, Some, None, Bool, true, false, nat_le, if◌then◌else◌}
use Rattle.fn_grammar.specs.declared.lexeme.Lexeme.{Lexeme}
use Rattle.fn_grammar.specs.declared.lexeme.Lexeme.TheVariants as lex
use Rattle.fn_grammar.specs.declared.symbol.Part.{Part as Nonterminal}
use Rattle.fn_grammar.specs.declared.symbol.Part.TheVariants as part
use Rattle.fn_grammar.specs.declared.symbol.Symbol.{Symbol}
use Rattle.fn_grammar.specs.declared.symbol.Symbol.TheVariants.{Fixed, Part, Make, Begin, End}
use Rattle.fn_grammar.specs.Letters.{Letter, fits}
use Rattle.fn_grammar.specs.Derivation.{State, Derives}

-- a rule may be taken before the next letter; one that no token leads always may
abbrev pub starts : List Symbol → Option Letter → Bool
starts [] next = true
starts (Part p ∷ r) next = true
starts (Make a ∷ r) next = true
starts (Begin ∷ r) next = true
starts (End ∷ r) next = true
starts (s ∷ r) None = false
starts (s ∷ r) (Some x) = fits s x

-- the first of the rules that may
abbrev pub chosen : List (List Symbol) → Option Letter → Option (List Symbol)
chosen [] next = None
chosen (r ∷ rs) next = if starts r next then Some r else chosen rs next

-- how tightly a word or sign ties what stands before it to what follows
abbrev pub rank : Lexeme → ℕ
rank lex.OpenParen = 9
rank lex.OpenBracket = 8
rank lex.Times = 6
rank lex.Over = 6
rank lex.Percent = 6
rank lex.Plus = 5
rank lex.Minus = 5
rank lex.Join = 5
rank lex.Eq = 4
rank lex.Ne = 4
rank lex.Lt = 4
rank lex.Le = 4
rank lex.Gt = 4
rank lex.Ge = 4
rank lex.And = 3
rank lex.Or = 2
rank lex.Else = 1
rank lex.Table = 10
rank lex.Queue = 10
rank lex.Outside = 10
rank lex.Helper = 10
rank lex.Txn = 10
rank lex.Flow = 10
rank _ = 0

-- a part of this level goes on with each word or sign of that rank or a higher one
abbrev pub level : Nonterminal → ℕ
level part.Items = 10
level part.Named = 9
level part.Unary = 8
level part.Indexes = 8
level part.Prod = 6
level part.Factors = 6
level part.Sum = 5
level part.Terms = 5
level part.Cmp = 4
level part.Compared = 4
level part.Conj = 3
level part.Ands = 3
level part.Expr = 2
level part.Ors = 2
level part.Outer = 2
level part.Rhs = 2
level part.Ask = 2
level part.Else = 1
level _ = 11

abbrev pub greedy : Nonterminal → Lexeme → Bool
greedy p l = nat_le (level p) (rank l)

-- nothing that may follow begins with what would belong to the part
abbrev pub Tame : Nonterminal → List Symbol → Type 0
Tame p todo =
    (l : Lexeme) → greedy p l ≡ true → (x : Letter) (v w : State) (xs : List Letter)
    → fits (Fixed l) x ≡ true → Derives todo v (x ∷ xs) w → ⊥

abbrev pub AllTame : List Symbol → Type 0
AllTame [] = Unit {0}
AllTame (Part p ∷ todo) = Tame p todo × AllTame todo
AllTame (s ∷ todo) = AllTame todo

-- the letters that begin with the next one, or none at the end
abbrev pub input : Option Letter → List Letter → List Letter
input None xs = []
input (Some x) xs = x ∷ xs

-- What was ahead is what is ahead now, behind the next letter; at the end nothing is ahead.
abbrev pub Went : Option Letter → List Symbol → State → List Symbol → State → Type 0
Went None todo v more u = (w : State) → Derives todo v [] w ↔ (w ≡ u)
Went (Some x) todo v more u =
    (w : State) (xs : List Letter) → Derives todo v (x ∷ xs) w ↔ Derives more u xs w

-- nothing is ahead that begins with the next letter
abbrev pub Refuses : Option Letter → List Symbol → State → Type 0
Refuses next todo v = (w : State) (xs : List Letter) → Derives todo v (input next xs) w → ⊥

-- before the next letter it is the same ahead
abbrev pub Same : Option Letter → List Symbol → State → List Symbol → State → Type 0
Same next todo v more u =
    (w : State) (xs : List Letter)
    → Derives todo v (input next xs) w ↔ Derives more u (input next xs) w

-- a token is read by this symbol
abbrev pub is_terminal : Symbol → Bool
is_terminal (Part p) = false
is_terminal (Make a) = false
is_terminal Begin = false
is_terminal End = false
is_terminal _ = true

-- how many steps without a token a part may take
abbrev pub cost : Nonterminal → ℕ
cost part.Else = 2
cost part.Named = 2
cost part.Prod = 3
cost part.Sum = 5
cost part.Cmp = 7
cost part.Conj = 9
cost part.Expr = 11
cost part.Outer = 14
cost part.Rhs = 16
cost part.OuterList = 17
cost part.ParenList = 14
cost part.ListItems = 14
cost _ = 1

abbrev pub weight : List Symbol → ℕ
weight [] = 0
weight (Part p ∷ todo) = cost p + weight todo
weight (s ∷ todo) = 1 + weight todo

-- how many steps are left before a token is read
abbrev pub effort : List Symbol → ℕ
effort [] = 0
effort (s ∷ todo) = if is_terminal s then 0 else suc (weight (s ∷ todo))
