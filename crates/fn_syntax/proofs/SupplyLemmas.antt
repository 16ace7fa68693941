-- How many names stand on the stack: each rule leaves there what was there, but for what the part takes.
use Rattle.std.proofs.Common.{◌≡◌, ℕ, suc, zero, List, [], ◌∷◌, ◌++◌, length, Bool, true, false, refl, ap, ◌∙◌, subst, inl, inr}
use Rattle.std.specs.Prelude.{◌&&◌}
use Rattle.fn_grammar.specs.declared.symbol.Part.{Part as Nonterminal}
use Rattle.fn_grammar.specs.declared.symbol.Part.TheVariants as part
use Rattle.fn_grammar.specs.declared.symbol.Action.{Action}
use Rattle.fn_grammar.specs.declared.symbol.Action.TheVariants as act
use Rattle.fn_grammar.specs.declared.symbol.Statement.{Statement}
use Rattle.fn_grammar.specs.declared.symbol.Statement.TheVariants as stmt_kind
use Rattle.fn_grammar.specs.declared.symbol.Binding.{Binding}
use Rattle.fn_grammar.specs.declared.symbol.Binding.TheVariants as bind_kind
use Rattle.fn_grammar.specs.declared.symbol.Declaration.TheVariants as item_kind
use Rattle.fn_grammar.specs.declared.symbol.Symbol.{Symbol}
use Rattle.fn_grammar.specs.declared.symbol.Symbol.TheVariants.{Name, Param, Part, Make}
use Rattle.fn_grammar.specs.Grammar.{rules}
use Rattle.fn_grammar.specs.Trees.{Trees, rest, made}
use Rattle.fn_grammar.specs.Derivation.{IsOneOf}
use Rattle.fn_syntax.proofs.DerivationLemmas.{and_left, and_right, and_both}

-- a name is taken from the stack
abbrev pub statement_takes : Statement → Bool
statement_takes stmt_kind.Let = true
statement_takes stmt_kind.Set = true
statement_takes stmt_kind.Put = true
statement_takes stmt_kind.Delete = true
statement_takes stmt_kind.Each = true
statement_takes stmt_kind.Try = true
statement_takes _ = false

abbrev pub binding_takes : Binding → Bool
binding_takes bind_kind.Call = true
binding_takes bind_kind.Spawn = true
binding_takes bind_kind.Get = true
binding_takes bind_kind.Scan = true
binding_takes _ = false

abbrev pub takes : Action → Bool
takes (act.Item k) = true
takes (act.Stmt k) = statement_takes k
takes (act.Bind k) = binding_takes k
takes act.AddName = true
takes act.Apply = true
takes act.Variable = true
takes _ = false

-- what stands behind a name takes it
abbrev pub needs : Nonterminal → Bool
needs part.Named = true
needs _ = false

abbrev pub enough : Bool → ℕ → Bool
enough false n = true
enough true zero = false
enough true (suc n) = true

abbrev pub less : Bool → ℕ → ℕ
less false n = n
less true zero = zero
less true (suc n) = n

-- a parameter is added where there is room
abbrev pub has_room : Action → Bool → Bool
has_room act.AddName room = room
has_room _ room = true

-- With so many names on the stack, each is there when it's taken; and a parameter is added right behind its reading.
abbrev pub supplied : List Symbol → ℕ → (room : Bool) → Bool
supplied [] n room = true
supplied (Name ∷ todo) n room = supplied todo (suc n) false
supplied (Param ∷ todo) n room = supplied todo (suc n) true
supplied (Make a ∷ todo) n room = (enough (takes a) n && has_room a room) && supplied todo (less (takes a) n) false
supplied (Part p ∷ todo) n room = enough (needs p) n && supplied todo (less (needs p) n) false
supplied (s ∷ todo) n room = supplied todo n false

roomy : (a : Action) → has_room a true ≡ true
roomy act.AddName = refl
roomy _ = refl

with_room : (todo : List Symbol) (n : ℕ) → supplied todo n false ≡ true → supplied todo n true ≡ true
with_room [] n h = refl
with_room (Make a ∷ todo) n h =
    let e = and_left (enough (takes a) n && has_room a false) (supplied todo (less (takes a) n) false) h in
    let g = and_right (enough (takes a) n && has_room a false) (supplied todo (less (takes a) n) false) h in
    and_both (enough (takes a) n && has_room a true) (supplied todo (less (takes a) n) false) (and_both (enough (takes a) n) (has_room a true) (and_left (enough (takes a) n) (has_room a false) e) (roomy a)) g
with_room (s ∷ todo) n h = h

any_room : (todo : List Symbol) (n : ℕ) (room : Bool) → supplied todo n false ≡ true → supplied todo n room ≡ true
any_room todo n true h = with_room todo n h
any_room todo n false h = h

-- a rule leaves as many
abbrev AllSupplied : List (List Symbol) → List Symbol → ℕ → ℕ → Type 0
AllSupplied [] todo n m = Unit {0}
AllSupplied (r ∷ rs) todo n m = (supplied (r ++ todo) n false ≡ supplied todo m false) × AllSupplied rs todo n m

rules_supplied : (p : Nonterminal) (todo : List Symbol) (n : ℕ) → enough (needs p) n ≡ true → AllSupplied (rules p) todo n (less (needs p) n)
rules_supplied part.Items todo n h = (refl, (refl, (refl, (refl, (refl, (refl, (refl, tt)))))))
rules_supplied part.Params todo n h = (refl, tt)
rules_supplied part.Names todo n h = (refl, (refl, tt))
rules_supplied part.MoreNames todo n h = (refl, (refl, tt))
rules_supplied part.Block todo n h = (refl, tt)
rules_supplied part.Stmts todo n h = (refl, (refl, (refl, (refl, (refl, (refl, (refl, (refl, (refl, (refl, (refl, (refl, tt))))))))))))
rules_supplied part.Else todo n h = (refl, (refl, tt))
rules_supplied part.Key todo n h = (refl, tt)
rules_supplied part.Rhs todo n h = (refl, (refl, (refl, (refl, (refl, (refl, tt))))))
rules_supplied part.Ask todo n h = (refl, (refl, (refl, tt)))
rules_supplied part.Args todo n h = (refl, tt)
rules_supplied part.OuterList todo n h = (refl, (refl, tt))
rules_supplied part.MoreOuter todo n h = (refl, (refl, tt))
rules_supplied part.Outer todo n h = (refl, tt)
rules_supplied part.Expr todo n h = (refl, tt)
rules_supplied part.Ors todo n h = (refl, (refl, tt))
rules_supplied part.Conj todo n h = (refl, tt)
rules_supplied part.Ands todo n h = (refl, (refl, tt))
rules_supplied part.Cmp todo n h = (refl, tt)
rules_supplied part.Compared todo n h = (refl, (refl, (refl, (refl, (refl, (refl, (refl, tt)))))))
rules_supplied part.Sum todo n h = (refl, tt)
rules_supplied part.Terms todo n h = (refl, (refl, (refl, (refl, tt))))
rules_supplied part.Prod todo n h = (refl, tt)
rules_supplied part.Factors todo n h = (refl, (refl, (refl, (refl, tt))))
rules_supplied part.Unary todo n h = (refl, (refl, (refl, (refl, (refl, (refl, (refl, (refl, (refl, (refl, (refl, (refl, tt))))))))))))
rules_supplied part.Named todo zero h = absurd (cc)
rules_supplied part.Named todo (suc n) h = (refl, (refl, tt))
rules_supplied part.Indexes todo n h = (refl, (refl, tt))
rules_supplied part.ParenList todo n h = (refl, (refl, tt))
rules_supplied part.MoreParen todo n h = (refl, (refl, tt))
rules_supplied part.ListItems todo n h = (refl, (refl, tt))
rules_supplied part.MoreItems todo n h = (refl, (refl, tt))

rule_supplied : (rs : List (List Symbol)) (r todo : List Symbol) (n m : ℕ) → AllSupplied rs todo n m → IsOneOf rs r → supplied (r ++ todo) n false ≡ supplied todo m false
rule_supplied [] r todo n m a i = absurd i
rule_supplied (q ∷ qs) r todo n m a (inl e) = subst (λ q. supplied (q ++ todo) n false ≡ supplied todo m false) e a.0
rule_supplied (q ∷ qs) r todo n m a (inr i) = rule_supplied qs r todo n m a.1 i

pub part_supplied : (p : Nonterminal) (r todo : List Symbol) (n : ℕ) (room : Bool) → IsOneOf (rules p) r → supplied (Part p ∷ todo) n room ≡ true → supplied (r ++ todo) n room ≡ true
part_supplied p r todo n room i h =
    let e = and_left (enough (needs p) n) (supplied todo (less (needs p) n) false) h in
    let g = and_right (enough (needs p) n) (supplied todo (less (needs p) n) false) h in
    any_room (r ++ todo) n room (rule_supplied (rules p) r todo n (less (needs p) n) (rules_supplied p todo n e) i ∙ g)

-- the names after an action

abbrev popped : Bool → List (List ℕ) → List (List ℕ)
popped true names = rest names
popped false names = names

popped_less : (b : Bool) (names : List (List ℕ)) → length (popped b names) ≡ less b (length names)
popped_less true [] = refl
popped_less true (x ∷ names) = refl
popped_less false names = refl

made_names : (a : Action) (t : Trees) → (made a t).names ≡ popped (takes a) t.names
made_names (act.Item item_kind.Table) t = refl
made_names (act.Item item_kind.Queue) t = refl
made_names (act.Item item_kind.Outside) t = refl
made_names (act.Item item_kind.Helper) t = refl
made_names (act.Item item_kind.Txn) t = refl
made_names (act.Item item_kind.Flow) t = refl
made_names (act.Stmt stmt_kind.Let) t = refl
made_names (act.Stmt stmt_kind.Set) t = refl
made_names (act.Stmt stmt_kind.Do) t = refl
made_names (act.Stmt stmt_kind.Put) t = refl
made_names (act.Stmt stmt_kind.Delete) t = refl
made_names (act.Stmt stmt_kind.If) t = refl
made_names (act.Stmt stmt_kind.IfElse) t = refl
made_names (act.Stmt stmt_kind.While) t = refl
made_names (act.Stmt stmt_kind.Each) t = refl
made_names (act.Stmt stmt_kind.Try) t = refl
made_names (act.Stmt stmt_kind.Return) t = refl
made_names (act.Stmt stmt_kind.Fail) t = refl
made_names (act.Bind bind_kind.Call) t = refl
made_names (act.Bind bind_kind.Spawn) t = refl
made_names (act.Bind bind_kind.Await) t = refl
made_names (act.Bind bind_kind.Asked) t = refl
made_names (act.Bind bind_kind.Get) t = refl
made_names (act.Bind bind_kind.Scan) t = refl
made_names (act.Bind bind_kind.Plain) t = refl
made_names (act.Two op) t = refl
made_names (act.One op) t = refl
made_names act.NoNames t = refl
made_names act.AddName t = refl
made_names act.NoExprs t = refl
made_names act.AddExpr t = refl
made_names act.Empty t = refl
made_names act.Null t = refl
made_names act.True t = refl
made_names act.False t = refl
made_names act.List t = refl
made_names act.Apply t = refl
made_names act.Variable t = refl

made_less : (a : Action) (t : Trees) → length (made a t).names ≡ less (takes a) (length t.names)
made_less a t = ap length (made_names a t) ∙ popped_less (takes a) t.names

pub make_supplied : (a : Action) (todo : List Symbol) (t : Trees) (room : Bool) → supplied (Make a ∷ todo) (length t.names) room ≡ true → supplied todo (length (made a t).names) false ≡ true
make_supplied a todo t room h = ap (λ n. supplied todo n false) (made_less a t) ∙ and_right (enough (takes a) (length t.names) && has_room a room) (supplied todo (less (takes a) (length t.names)) false) h

-- what an action takes is there
pub make_enough : (a : Action) (todo : List Symbol) (t : Trees) (room : Bool) → supplied (Make a ∷ todo) (length t.names) room ≡ true → (enough (takes a) (length t.names) && has_room a room) ≡ true
make_enough a todo t room h = and_left (enough (takes a) (length t.names) && has_room a room) (supplied todo (less (takes a) (length t.names)) false) h
