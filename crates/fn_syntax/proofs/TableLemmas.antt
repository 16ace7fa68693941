-- What is computed from the table of rules.
use Rattle.std.proofs.Common.{◌≡◌, ℕ, suc, zero, List, [], ◌∷◌, Bool, true, false, refl, inl, inr, ◌⊎◌, arith}
use Rattle.std.specs.Prelude.{nat_le, nat_lt, ◌||◌, ◌&&◌, not, ◌==◌}
use Rattle.std.specs.Str.{bytes_eq}
use Rattle.std.proofs.lemmas.Bool.{le-leb, leb-true}
use Rattle.fn_grammar.specs.declared.lexeme.Lexeme.{Lexeme}
use Rattle.fn_grammar.specs.declared.lexeme.Lexeme.TheVariants as lex
use Rattle.fn_grammar.specs.declared.symbol.Part.{Part as Nonterminal}
use Rattle.fn_grammar.specs.declared.symbol.Part.TheVariants as part
use Rattle.fn_grammar.specs.declared.symbol.Symbol.{Symbol}
use Rattle.fn_grammar.specs.declared.symbol.Symbol.TheVariants.{Fixed, Name, Param, Bound, Number, Text, Part, Make, Begin, End}
use Rattle.fn_grammar.specs.Letters.{spelled}
use Rattle.fn_grammar.specs.Grammar.{rules}
use Rattle.fn_grammar.specs.Steps.{rank, level, greedy, is_terminal, cost, weight}

-- the class of letters that a symbol is written as
abbrev pub class_of : Symbol → ℕ
class_of (Fixed l) = 0
class_of Name = 1
class_of Param = 1
class_of Bound = 2
class_of Number = 2
class_of Text = 3
class_of _ = 4

abbrev pub spelling_of : Symbol → List ℕ
spelling_of (Fixed l) = spelled l
spelling_of _ = []

-- both symbols may be written as one letter
abbrev pub clash : Symbol → Symbol → Bool
clash s t = (class_of s == class_of t) && bytes_eq (spelling_of s) (spelling_of t)

-- these symbols may begin with a letter of s
abbrev pub scan : (Nonterminal → Bool) → (Nonterminal → Bool) → Symbol → List Symbol → Bool
scan may nil s [] = false
scan may nil s (Part p ∷ ts) = may p || (nil p && scan may nil s ts)
scan may nil s (Make a ∷ ts) = scan may nil s ts
scan may nil s (Begin ∷ ts) = scan may nil s ts
scan may nil s (End ∷ ts) = scan may nil s ts
scan may nil s (t ∷ ts) = clash s t

-- these symbols may be written as no letter
abbrev pub vanish : (Nonterminal → Bool) → List Symbol → Bool
vanish nil [] = true
vanish nil (Part p ∷ ts) = nil p && vanish nil ts
vanish nil (Make a ∷ ts) = vanish nil ts
vanish nil (Begin ∷ ts) = vanish nil ts
vanish nil (End ∷ ts) = vanish nil ts
vanish nil (t ∷ ts) = false

abbrev pub any : (List Symbol → Bool) → List (List Symbol) → Bool
any f [] = false
any f (r ∷ rs) = f r || any f rs

-- the two for parts, to a depth
abbrev pub nil_in : ℕ → Nonterminal → Bool
nil_in zero p = true
nil_in (suc n) p = any (vanish (nil_in n)) (rules p)

abbrev pub may_in : ℕ → Symbol → Nonterminal → Bool
may_in zero s p = true
may_in (suc n) s p = any (scan (may_in n s) (nil_in n) s) (rules p)

abbrev pub may : Symbol → List Symbol → Bool
may s = scan (may_in 12 s) (nil_in 12) s

abbrev pub nil : List Symbol → Bool
nil = vanish (nil_in 12)

-- the words and signs that tie
abbrev pub tight : List Lexeme
tight = lex.OpenParen ∷ lex.OpenBracket ∷ lex.Times ∷ lex.Over ∷ lex.Percent ∷ lex.Plus ∷ lex.Minus ∷ lex.Join ∷ lex.Eq ∷ lex.Ne ∷ lex.Lt ∷ lex.Le ∷ lex.Gt ∷ lex.Ge ∷ lex.And ∷ lex.Or ∷ lex.Else ∷ lex.Table ∷ lex.Queue ∷ lex.Outside ∷ lex.Helper ∷ lex.Txn ∷ lex.Flow ∷ []

abbrev pub all : (Lexeme → Bool) → List Lexeme → Bool
all f [] = true
all f (l ∷ ls) = f l && all f ls

-- a part m of a rule of p goes on with no such word that may follow it
abbrev pub ends : Nonterminal → Nonterminal → List Symbol → Lexeme → Bool
ends p m rest l = not (greedy m l) || (not (may (Fixed l) rest) && (not (nil rest) || greedy p l))

abbrev pub tames : Nonterminal → List Symbol → Bool
tames p [] = true
tames p (Part m ∷ rest) = all (ends p m rest) tight && tames p rest
tames p (s ∷ rest) = tames p rest

abbrev pub is_led : List Symbol → Bool
is_led [] = false
is_led (s ∷ r) = is_terminal s

abbrev pub lead : List Symbol → Symbol
lead [] = Begin
lead (s ∷ r) = s

abbrev pub is_greedy : Nonterminal → Symbol → Bool
is_greedy p (Fixed l) = greedy p l
is_greedy p _ = false

-- where a token leads the rule r of p, none of the later ones begins with it
abbrev pub apart : Nonterminal → List Symbol → List (List Symbol) → Bool
apart p r [] = true
apart p r (q ∷ qs) = (is_led r && (not (may (lead r) q) && (not (nil q) || is_greedy p (lead r)))) && apart p r qs

abbrev pub all_apart : Nonterminal → List (List Symbol) → Bool
all_apart p [] = true
all_apart p (r ∷ rs) = apart p r rs && all_apart p rs

abbrev pub every : (List Symbol → Bool) → List (List Symbol) → Bool
every f [] = true
every f (r ∷ rs) = f r && every f rs

-- a rule that no token leads costs less than its part
abbrev pub is_light : Nonterminal → List Symbol → Bool
is_light p r = is_led r || nat_lt (weight r) (cost p)

pub rules_apart : (p : Nonterminal) → all_apart p (rules p) ≡ true
rules_apart part.Items = refl
rules_apart part.Params = refl
rules_apart part.Names = refl
rules_apart part.MoreNames = refl
rules_apart part.Block = refl
rules_apart part.Stmts = refl
rules_apart part.Else = refl
rules_apart part.Key = refl
rules_apart part.Rhs = refl
rules_apart part.Ask = refl
rules_apart part.Args = refl
rules_apart part.OuterList = refl
rules_apart part.MoreOuter = refl
rules_apart part.Outer = refl
rules_apart part.Expr = refl
rules_apart part.Ors = refl
rules_apart part.Conj = refl
rules_apart part.Ands = refl
rules_apart part.Cmp = refl
rules_apart part.Compared = refl
rules_apart part.Sum = refl
rules_apart part.Terms = refl
rules_apart part.Prod = refl
rules_apart part.Factors = refl
rules_apart part.Unary = refl
rules_apart part.Named = refl
rules_apart part.Indexes = refl
rules_apart part.ParenList = refl
rules_apart part.MoreParen = refl
rules_apart part.ListItems = refl
rules_apart part.MoreItems = refl

pub rules_tame : (p : Nonterminal) → every (tames p) (rules p) ≡ true
rules_tame part.Items = refl
rules_tame part.Params = refl
rules_tame part.Names = refl
rules_tame part.MoreNames = refl
rules_tame part.Block = refl
rules_tame part.Stmts = refl
rules_tame part.Else = refl
rules_tame part.Key = refl
rules_tame part.Rhs = refl
rules_tame part.Ask = refl
rules_tame part.Args = refl
rules_tame part.OuterList = refl
rules_tame part.MoreOuter = refl
rules_tame part.Outer = refl
rules_tame part.Expr = refl
rules_tame part.Ors = refl
rules_tame part.Conj = refl
rules_tame part.Ands = refl
rules_tame part.Cmp = refl
rules_tame part.Compared = refl
rules_tame part.Sum = refl
rules_tame part.Terms = refl
rules_tame part.Prod = refl
rules_tame part.Factors = refl
rules_tame part.Unary = refl
rules_tame part.Named = refl
rules_tame part.Indexes = refl
rules_tame part.ParenList = refl
rules_tame part.MoreParen = refl
rules_tame part.ListItems = refl
rules_tame part.MoreItems = refl

pub rules_light : (p : Nonterminal) → every (is_light p) (rules p) ≡ true
rules_light part.Items = refl
rules_light part.Params = refl
rules_light part.Names = refl
rules_light part.MoreNames = refl
rules_light part.Block = refl
rules_light part.Stmts = refl
rules_light part.Else = refl
rules_light part.Key = refl
rules_light part.Rhs = refl
rules_light part.Ask = refl
rules_light part.Args = refl
rules_light part.OuterList = refl
rules_light part.MoreOuter = refl
rules_light part.Outer = refl
rules_light part.Expr = refl
rules_light part.Ors = refl
rules_light part.Conj = refl
rules_light part.Ands = refl
rules_light part.Cmp = refl
rules_light part.Compared = refl
rules_light part.Sum = refl
rules_light part.Terms = refl
rules_light part.Prod = refl
rules_light part.Factors = refl
rules_light part.Unary = refl
rules_light part.Named = refl
rules_light part.Indexes = refl
rules_light part.ParenList = refl
rules_light part.MoreParen = refl
rules_light part.ListItems = refl
rules_light part.MoreItems = refl

abbrev pub IsIn : List Lexeme → Lexeme → Type 0
IsIn [] l = ⊥
IsIn (m ∷ ms) l = (m ≡ l) ⊎ IsIn ms l

some_level : (p : Nonterminal) (n : ℕ) → nat_le (level p) n ≡ true → nat_le 1 n ≡ true
some_level part.Items n h = le-leb 1 n (omega (arith, leb-true (level part.Items) n h))
some_level part.Params n h = le-leb 1 n (omega (arith, leb-true (level part.Params) n h))
some_level part.Names n h = le-leb 1 n (omega (arith, leb-true (level part.Names) n h))
some_level part.MoreNames n h = le-leb 1 n (omega (arith, leb-true (level part.MoreNames) n h))
some_level part.Block n h = le-leb 1 n (omega (arith, leb-true (level part.Block) n h))
some_level part.Stmts n h = le-leb 1 n (omega (arith, leb-true (level part.Stmts) n h))
some_level part.Else n h = le-leb 1 n (omega (arith, leb-true (level part.Else) n h))
some_level part.Key n h = le-leb 1 n (omega (arith, leb-true (level part.Key) n h))
some_level part.Rhs n h = le-leb 1 n (omega (arith, leb-true (level part.Rhs) n h))
some_level part.Ask n h = le-leb 1 n (omega (arith, leb-true (level part.Ask) n h))
some_level part.Args n h = le-leb 1 n (omega (arith, leb-true (level part.Args) n h))
some_level part.OuterList n h = le-leb 1 n (omega (arith, leb-true (level part.OuterList) n h))
some_level part.MoreOuter n h = le-leb 1 n (omega (arith, leb-true (level part.MoreOuter) n h))
some_level part.Outer n h = le-leb 1 n (omega (arith, leb-true (level part.Outer) n h))
some_level part.Expr n h = le-leb 1 n (omega (arith, leb-true (level part.Expr) n h))
some_level part.Ors n h = le-leb 1 n (omega (arith, leb-true (level part.Ors) n h))
some_level part.Conj n h = le-leb 1 n (omega (arith, leb-true (level part.Conj) n h))
some_level part.Ands n h = le-leb 1 n (omega (arith, leb-true (level part.Ands) n h))
some_level part.Cmp n h = le-leb 1 n (omega (arith, leb-true (level part.Cmp) n h))
some_level part.Compared n h = le-leb 1 n (omega (arith, leb-true (level part.Compared) n h))
some_level part.Sum n h = le-leb 1 n (omega (arith, leb-true (level part.Sum) n h))
some_level part.Terms n h = le-leb 1 n (omega (arith, leb-true (level part.Terms) n h))
some_level part.Prod n h = le-leb 1 n (omega (arith, leb-true (level part.Prod) n h))
some_level part.Factors n h = le-leb 1 n (omega (arith, leb-true (level part.Factors) n h))
some_level part.Unary n h = le-leb 1 n (omega (arith, leb-true (level part.Unary) n h))
some_level part.Named n h = le-leb 1 n (omega (arith, leb-true (level part.Named) n h))
some_level part.Indexes n h = le-leb 1 n (omega (arith, leb-true (level part.Indexes) n h))
some_level part.ParenList n h = le-leb 1 n (omega (arith, leb-true (level part.ParenList) n h))
some_level part.MoreParen n h = le-leb 1 n (omega (arith, leb-true (level part.MoreParen) n h))
some_level part.ListItems n h = le-leb 1 n (omega (arith, leb-true (level part.ListItems) n h))
some_level part.MoreItems n h = le-leb 1 n (omega (arith, leb-true (level part.MoreItems) n h))

ranked : (l : Lexeme) → nat_le 1 (rank l) ≡ true → IsIn tight l
ranked lex.Table h = inr (inr (inr (inr (inr (inr (inr (inr (inr (inr (inr (inr (inr (inr (inr (inr (inr (inl refl)))))))))))))))))
ranked lex.Queue h = inr (inr (inr (inr (inr (inr (inr (inr (inr (inr (inr (inr (inr (inr (inr (inr (inr (inr (inl refl))))))))))))))))))
ranked lex.Outside h = inr (inr (inr (inr (inr (inr (inr (inr (inr (inr (inr (inr (inr (inr (inr (inr (inr (inr (inr (inl refl)))))))))))))))))))
ranked lex.Helper h = inr (inr (inr (inr (inr (inr (inr (inr (inr (inr (inr (inr (inr (inr (inr (inr (inr (inr (inr (inr (inl refl))))))))))))))))))))
ranked lex.Txn h = inr (inr (inr (inr (inr (inr (inr (inr (inr (inr (inr (inr (inr (inr (inr (inr (inr (inr (inr (inr (inr (inl refl)))))))))))))))))))))
ranked lex.Flow h = inr (inr (inr (inr (inr (inr (inr (inr (inr (inr (inr (inr (inr (inr (inr (inr (inr (inr (inr (inr (inr (inr (inl refl))))))))))))))))))))))
ranked lex.Let h = absurd (cc)
ranked lex.Set h = absurd (cc)
ranked lex.If h = absurd (cc)
ranked lex.Else h = inr (inr (inr (inr (inr (inr (inr (inr (inr (inr (inr (inr (inr (inr (inr (inr (inl refl))))))))))))))))
ranked lex.While h = absurd (cc)
ranked lex.Each h = absurd (cc)
ranked lex.In h = absurd (cc)
ranked lex.Try h = absurd (cc)
ranked lex.Catch h = absurd (cc)
ranked lex.Return h = absurd (cc)
ranked lex.Fail h = absurd (cc)
ranked lex.Put h = absurd (cc)
ranked lex.Delete h = absurd (cc)
ranked lex.Get h = absurd (cc)
ranked lex.Scan h = absurd (cc)
ranked lex.Do h = absurd (cc)
ranked lex.Call h = absurd (cc)
ranked lex.Spawn h = absurd (cc)
ranked lex.Await h = absurd (cc)
ranked lex.Null h = absurd (cc)
ranked lex.True h = absurd (cc)
ranked lex.False h = absurd (cc)
ranked lex.Len h = absurd (cc)
ranked lex.Str h = absurd (cc)
ranked lex.OpenParen h = inl refl
ranked lex.CloseParen h = absurd (cc)
ranked lex.OpenBracket h = inr (inl refl)
ranked lex.CloseBracket h = absurd (cc)
ranked lex.OpenBrace h = absurd (cc)
ranked lex.CloseBrace h = absurd (cc)
ranked lex.Comma h = absurd (cc)
ranked lex.Semicolon h = absurd (cc)
ranked lex.Assign h = absurd (cc)
ranked lex.Eq h = inr (inr (inr (inr (inr (inr (inr (inr (inl refl))))))))
ranked lex.Ne h = inr (inr (inr (inr (inr (inr (inr (inr (inr (inl refl)))))))))
ranked lex.Lt h = inr (inr (inr (inr (inr (inr (inr (inr (inr (inr (inl refl))))))))))
ranked lex.Le h = inr (inr (inr (inr (inr (inr (inr (inr (inr (inr (inr (inl refl)))))))))))
ranked lex.Gt h = inr (inr (inr (inr (inr (inr (inr (inr (inr (inr (inr (inr (inl refl))))))))))))
ranked lex.Ge h = inr (inr (inr (inr (inr (inr (inr (inr (inr (inr (inr (inr (inr (inl refl)))))))))))))
ranked lex.Plus h = inr (inr (inr (inr (inr (inl refl)))))
ranked lex.Join h = inr (inr (inr (inr (inr (inr (inr (inl refl)))))))
ranked lex.Minus h = inr (inr (inr (inr (inr (inr (inl refl))))))
ranked lex.Times h = inr (inr (inl refl))
ranked lex.Over h = inr (inr (inr (inl refl)))
ranked lex.Percent h = inr (inr (inr (inr (inl refl))))
ranked lex.And h = inr (inr (inr (inr (inr (inr (inr (inr (inr (inr (inr (inr (inr (inr (inl refl))))))))))))))
ranked lex.Or h = inr (inr (inr (inr (inr (inr (inr (inr (inr (inr (inr (inr (inr (inr (inr (inl refl)))))))))))))))
ranked lex.Not h = absurd (cc)

pub is_tight : (p : Nonterminal) (l : Lexeme) → greedy p l ≡ true → IsIn tight l
is_tight p l h = ranked l (some_level p (rank l) h)
