-- Spelled steps, right sides and statements are read.
use Rattle.std.proofs.Common.{◌≡◌, ℕ, List, [], ◌∷◌, ◌++◌, Some, None, true, false, refl, sym, ap, ◌∙◌, subst, append_assoc, append-nil, inl, inr}
use Rattle.std.specs.Prelude.{map}
use Rattle.fn_tree.specs.declared.expr.Expr.{Expr}
use Rattle.fn_tree.specs.declared.stmt.Ask.{Ask}
use Rattle.fn_tree.specs.declared.stmt.Ask.TheVariants as step
use Rattle.fn_tree.specs.declared.stmt.Rhs.{Rhs}
use Rattle.fn_tree.specs.declared.stmt.Rhs.TheVariants as right
use Rattle.fn_tree.specs.declared.stmt.Stmt.{Stmt, roll-Stmt}
use Rattle.fn_tree.specs.declared.stmt.Stmt as stmt
use Rattle.fn_tree.specs.declared.stmt.Stmt.TheOpen.{Stmt-F}
use Rattle.fn_tree.specs.declared.stmt.Stmt.TheVariants.{rolls-Let, rolls-Set, rolls-Do, rolls-Put, rolls-Delete, rolls-If, rolls-While, rolls-Each, rolls-Try, rolls-Return, rolls-Fail}
use Rattle.fn_tree.specs.declared.stmt.Stmt.TheFolds.{map-Stmt, ind-Stmt}
use Rattle.fn_grammar.specs.declared.lexeme.Lexeme.TheVariants as lex
use Rattle.fn_grammar.specs.declared.symbol.Part.TheVariants as part
use Rattle.fn_grammar.specs.declared.symbol.Action.TheVariants as act
use Rattle.fn_grammar.specs.declared.symbol.Statement.TheVariants as stmt_kind
use Rattle.fn_grammar.specs.declared.symbol.Binding.TheVariants as bind_kind
use Rattle.fn_grammar.specs.declared.symbol.Symbol.{Symbol}
use Rattle.fn_grammar.specs.declared.symbol.Symbol.TheVariants.{Fixed, Name, Part, Make}
use Rattle.fn_grammar.specs.Grammar.{rules}
use Rattle.fn_grammar.specs.Trees.{Trees, made, onto}
use Rattle.fn_grammar.specs.Derivation.{IsOneOf}
use Rattle.fn_spell.specs.Pieces.{Piece, a_word, a_name}
use Rattle.fn_spell.specs.Spelling.{separated, outer_pieces, key_pieces, args_pieces, ask_pieces, rhs_pieces, closed, block_pieces, statement_pieces, stmt_pieces, body_pieces}
use Rattle.fn_spell.proofs.ReadLemmas.{Reads, then, making_as, nothing, made_by, part_by, word, name, begins, ends}
use Rattle.fn_spell.proofs.AtomLemmas.{push, with_all, with_all_is, expr_at, expr_is_atom}
use Rattle.fn_spell.proofs.NodeLemmas.{stmt_roll}

-- an expression that stands in no other
pub outer : (e : Expr) → Reads (Part part.Outer ∷ []) (push e) (outer_pieces e)
outer e = part_by part.Outer (then begins (then (expr_at (expr_is_atom e)) ends)) (inl refl)

key : (e : Expr) → Reads (Part part.Key ∷ []) (push e) (key_pieces e)
key e = part_by part.Key (then (word lex.OpenBracket refl refl) (then (outer e) (word lex.CloseBracket refl refl))) (inl refl)

more_args : (es : List Expr) → Reads (Part part.MoreOuter ∷ []) (with_all es) (separated false lex.CloseParen (map outer_pieces es))
more_args [] = part_by part.MoreOuter (word lex.CloseParen refl refl) (inr (inl refl))
more_args (e ∷ es) = part_by part.MoreOuter (then (word lex.Comma refl refl) (then (made_by (outer e) act.AddExpr) (more_args es))) (inl refl)

all_args : (es : List Expr) → Reads (Part part.OuterList ∷ []) (with_all es) (separated true lex.CloseParen (map outer_pieces es))
all_args [] = part_by part.OuterList (word lex.CloseParen refl refl) (inl refl)
all_args (e ∷ es) = part_by part.OuterList (then (made_by (outer e) act.AddExpr) (more_args es)) (inr (inl refl))

abbrev push_group : List Expr → Trees → Trees
push_group es t = record t { groups = es ∷ t.groups }

args : (es : List Expr) → Reads (Part part.Args ∷ []) (push_group es) (args_pieces es)
args es = part_by part.Args (making_as (then (made_by (word lex.OpenParen refl refl) act.NoExprs) (all_args es)) (push_group es) (λ t. with_all_is es [] t.groups t)) (inl refl)

abbrev push_ask : Ask → Trees → Trees
push_ask a t = record t { asks = a ∷ t.asks }

ask : (a : Ask) → Reads (Part part.Ask ∷ []) (push_ask a) (ask_pieces a)
ask (step.Call f es) = part_by part.Ask (then (word lex.Call refl refl) (then (name f) (made_by (args es) (act.Bind bind_kind.Call)))) (inl refl)
ask (step.Spawn f es) = part_by part.Ask (then (word lex.Spawn refl refl) (then (name f) (made_by (args es) (act.Bind bind_kind.Spawn)))) (inr (inl refl))
ask (step.Await e) = part_by part.Ask (then (word lex.Await refl refl) (made_by (outer e) (act.Bind bind_kind.Await))) (inr (inr (inl refl)))

abbrev push_right : Rhs → Trees → Trees
push_right r t = record t { rights = r ∷ t.rights }

asked : (a : Ask) → Reads (Part part.Rhs ∷ []) (push_right (right.Ask a)) (ask_pieces a)
asked (step.Call f es) = part_by part.Rhs (then (word lex.Call refl refl) (then (name f) (made_by (made_by (args es) (act.Bind bind_kind.Call)) (act.Bind bind_kind.Asked)))) (inl refl)
asked (step.Spawn f es) = part_by part.Rhs (then (word lex.Spawn refl refl) (then (name f) (made_by (made_by (args es) (act.Bind bind_kind.Spawn)) (act.Bind bind_kind.Asked)))) (inr (inl refl))
asked (step.Await e) = part_by part.Rhs (then (word lex.Await refl refl) (made_by (made_by (outer e) (act.Bind bind_kind.Await)) (act.Bind bind_kind.Asked))) (inr (inr (inl refl)))

rhs : (r : Rhs) → Reads (Part part.Rhs ∷ []) (push_right r) (rhs_pieces r)
rhs (right.Plain e) = part_by part.Rhs (made_by (outer e) (act.Bind bind_kind.Plain)) (inr (inr (inr (inr (inr (inl refl))))))
rhs (right.Ask a) = asked a
rhs (right.Get table e) = part_by part.Rhs (then (word lex.Get refl refl) (then (name table) (made_by (key e) (act.Bind bind_kind.Get)))) (inr (inr (inr (inl refl))))
rhs (right.Scan table lo hi) =
    part_by part.Rhs (scanned lo hi table) (inr (inr (inr (inr (inl refl))))) where
      comma_and : (lo hi : Expr) → Reads (Part part.Outer ∷ Fixed lex.Comma ∷ Part part.Outer ∷ []) (λ t. push hi (push lo t)) (outer_pieces lo ++ a_word lex.Comma ∷ outer_pieces hi)
      comma_and lo hi = then (outer lo) (then (word lex.Comma refl refl) (outer hi))

      scanned : (lo hi : Expr) (table : List ℕ) → Reads (Fixed lex.Scan ∷ Name ∷ Fixed lex.OpenBracket ∷ Part part.Outer ∷ Fixed lex.Comma ∷ Part part.Outer ∷ Fixed lex.CloseBracket ∷ Make (act.Bind bind_kind.Scan) ∷ []) (push_right (right.Scan table lo hi)) (rhs_pieces (right.Scan table lo hi))
      scanned lo hi table = then (word lex.Scan refl refl) (then (name table) (made_by (then (word lex.OpenBracket refl refl) (then (comma_and lo hi) (word lex.CloseBracket refl refl))) (act.Bind bind_kind.Scan)))

-- statements

abbrev pub add : Stmt → Trees → Trees
add s t = record t { blocks = onto s t.blocks }

-- the symbols of a rule of statements are read as these pieces, and make the statement
pub record IsStatement (s : Stmt) (xs : List Piece) : Type 0 where
  pub symbols : List Symbol
  pub is : IsOneOf (rules part.Stmts) (symbols ++ Part part.Stmts ∷ [])
  pub reads : Reads symbols (add s) xs

-- a statement, and why its spelling is read as it
abbrev IsRead : Type 0
IsRead = (s : Stmt) × IsStatement s (stmt_pieces s)

abbrev all_of : List IsRead → List Stmt
all_of ss = map (λ s. s.0) ss

abbrev add_all : List Stmt → Trees → Trees
add_all [] t = t
add_all (s ∷ ss) t = add_all ss (add s t)

add_all_is : (ss g : List Stmt) (gs : List (List Stmt)) (t : Trees) → add_all ss (record t { blocks = g ∷ gs }) ≡ record t { blocks = (g ++ ss) ∷ gs }
add_all_is [] g gs t = ap (λ (l : List Stmt). record t { blocks = l ∷ gs }) (sym (append-nil g))
add_all_is (s ∷ ss) g gs t = add_all_is ss (g ++ s ∷ []) gs t ∙ ap (λ (l : List Stmt). record t { blocks = l ∷ gs }) (append_assoc g (s ∷ []) ss)

abbrev pub push_block : List Stmt → Trees → Trees
push_block b t = record t { blocks = b ∷ t.blocks }

in_braces : (ss : List IsRead) → Reads (Part part.Stmts ∷ []) (add_all (all_of ss)) (closed (map stmt_pieces (all_of ss)))
in_braces [] = part_by part.Stmts (word lex.CloseBrace refl refl) (inr (inr (inr (inr (inr (inr (inr (inr (inr (inr (inr (inl refl))))))))))))
in_braces (s ∷ ss) = part_by part.Stmts (then s.1.reads (in_braces ss)) s.1.is

block_of : (ss : List IsRead) → Reads (Part part.Block ∷ []) (push_block (all_of ss)) (block_pieces (map stmt_pieces (all_of ss)))
block_of ss = part_by part.Block (making_as (then (made_by (word lex.OpenBrace refl refl) act.Empty) (in_braces ss)) (push_block (all_of ss)) (λ t. add_all_is (all_of ss) [] t.blocks t)) (inl refl)

-- with the rule of its number
abbrev Is : Stmt → List Piece → Type 0
Is s xs = IsStatement s xs

let_ : (x : List ℕ) (r : Rhs) → Is (stmt.Let x r) (statement_pieces (Stmt-F.Let x r))
let_ x r = record {
  symbols = Fixed lex.Let ∷ Name ∷ Fixed lex.Assign ∷ Part part.Rhs ∷ Fixed lex.Semicolon ∷ Make (act.Stmt stmt_kind.Let) ∷ [];
  is = inl refl;
  reads = then (word lex.Let refl refl) (then (name x) (then (word lex.Assign refl refl) (made_by (then (rhs r) (word lex.Semicolon refl refl)) (act.Stmt stmt_kind.Let))));
}

set : (x : List ℕ) (r : Rhs) → Is (stmt.Set x r) (statement_pieces (Stmt-F.Set x r))
set x r = record {
  symbols = Fixed lex.Set ∷ Name ∷ Fixed lex.Assign ∷ Part part.Rhs ∷ Fixed lex.Semicolon ∷ Make (act.Stmt stmt_kind.Set) ∷ [];
  is = inr (inl refl);
  reads = then (word lex.Set refl refl) (then (name x) (then (word lex.Assign refl refl) (made_by (then (rhs r) (word lex.Semicolon refl refl)) (act.Stmt stmt_kind.Set))));
}

do_ : (a : Ask) → Is (stmt.Do a) (statement_pieces (Stmt-F.Do a))
do_ a = record {
  symbols = Fixed lex.Do ∷ Part part.Ask ∷ Fixed lex.Semicolon ∷ Make (act.Stmt stmt_kind.Do) ∷ [];
  is = inr (inr (inl refl));
  reads = then (word lex.Do refl refl) (made_by (then (ask a) (word lex.Semicolon refl refl)) (act.Stmt stmt_kind.Do));
}

put : (table : List ℕ) (k e : Expr) → Is (stmt.Put table k e) (statement_pieces (Stmt-F.Put table k e))
put table k e = record {
  symbols = Fixed lex.Put ∷ Name ∷ Part part.Key ∷ Fixed lex.Assign ∷ Part part.Outer ∷ Fixed lex.Semicolon ∷ Make (act.Stmt stmt_kind.Put) ∷ [];
  is = inr (inr (inr (inl refl)));
  reads = then (word lex.Put refl refl) (then (name table) (then (key k) (then (word lex.Assign refl refl) (made_by (then (outer e) (word lex.Semicolon refl refl)) (act.Stmt stmt_kind.Put)))));
}

delete : (table : List ℕ) (k : Expr) → Is (stmt.Delete table k) (statement_pieces (Stmt-F.Delete table k))
delete table k = record {
  symbols = Fixed lex.Delete ∷ Name ∷ Part part.Key ∷ Fixed lex.Semicolon ∷ Make (act.Stmt stmt_kind.Delete) ∷ [];
  is = inr (inr (inr (inr (inl refl))));
  reads = then (word lex.Delete refl refl) (then (name table) (made_by (then (key k) (word lex.Semicolon refl refl)) (act.Stmt stmt_kind.Delete)));
}

if_ : (e : Expr) (ss : List IsRead) → Is (stmt.If e (all_of ss) None) (a_word lex.If ∷ (outer_pieces e ++ body_pieces (all_of ss)))
if_ e ss = record {
  symbols = Fixed lex.If ∷ Part part.Outer ∷ Part part.Block ∷ Part part.Else ∷ [];
  is = inr (inr (inr (inr (inr (inl refl)))));
  reads =
      let none = part_by part.Else (made_by nothing (act.Stmt stmt_kind.If)) (inr (inl refl)) in
      let behind : Reads (Part part.Block ∷ Part part.Else ∷ []) (λ t. made (act.Stmt stmt_kind.If) (push_block (all_of ss) t)) (body_pieces (all_of ss)) =
      subst (λ ys. Reads (Part part.Block ∷ Part part.Else ∷ []) (λ t. made (act.Stmt stmt_kind.If) (push_block (all_of ss) t)) ys) (append-nil (body_pieces (all_of ss))) (then (block_of ss) none) in
      then (word lex.If refl refl) (then (outer e) behind);
}

if_else : (e : Expr) (ss us : List IsRead) → Is (stmt.If e (all_of ss) (Some (all_of us))) (a_word lex.If ∷ (outer_pieces e ++ (body_pieces (all_of ss) ++ a_word lex.Else ∷ body_pieces (all_of us))))
if_else e ss us = record {
  symbols = Fixed lex.If ∷ Part part.Outer ∷ Part part.Block ∷ Part part.Else ∷ [];
  is = inr (inr (inr (inr (inr (inl refl)))));
  reads =
      let other = part_by part.Else (then (word lex.Else refl refl) (made_by (block_of us) (act.Stmt stmt_kind.IfElse))) (inl refl) in
      then (word lex.If refl refl) (then (outer e) (then (block_of ss) other));
}

while : (e : Expr) (ss : List IsRead) → Is (stmt.While e (all_of ss)) (a_word lex.While ∷ (outer_pieces e ++ body_pieces (all_of ss)))
while e ss = record {
  symbols = Fixed lex.While ∷ Part part.Outer ∷ Part part.Block ∷ Make (act.Stmt stmt_kind.While) ∷ [];
  is = inr (inr (inr (inr (inr (inr (inl refl))))));
  reads = then (word lex.While refl refl) (then (outer e) (made_by (block_of ss) (act.Stmt stmt_kind.While)));
}

each : (x : List ℕ) (e : Expr) (ss : List IsRead) → Is (stmt.Each x e (all_of ss)) (a_word lex.Each ∷ a_name x ∷ a_word lex.In ∷ (outer_pieces e ++ body_pieces (all_of ss)))
each x e ss = record {
  symbols = Fixed lex.Each ∷ Name ∷ Fixed lex.In ∷ Part part.Outer ∷ Part part.Block ∷ Make (act.Stmt stmt_kind.Each) ∷ [];
  is = inr (inr (inr (inr (inr (inr (inr (inl refl)))))));
  reads = then (word lex.Each refl refl) (then (name x) (then (word lex.In refl refl) (then (outer e) (made_by (block_of ss) (act.Stmt stmt_kind.Each)))));
}

try_ : (ss : List IsRead) (x : List ℕ) (us : List IsRead) → Is (stmt.Try (all_of ss) x (all_of us)) (a_word lex.Try ∷ (body_pieces (all_of ss) ++ a_word lex.Catch ∷ a_name x ∷ body_pieces (all_of us)))
try_ ss x us = record {
  symbols = Fixed lex.Try ∷ Part part.Block ∷ Fixed lex.Catch ∷ Name ∷ Part part.Block ∷ Make (act.Stmt stmt_kind.Try) ∷ [];
  is = inr (inr (inr (inr (inr (inr (inr (inr (inl refl))))))));
  reads = then (word lex.Try refl refl) (then (block_of ss) (then (word lex.Catch refl refl) (then (name x) (made_by (block_of us) (act.Stmt stmt_kind.Try)))));
}

return_ : (e : Expr) → Is (stmt.Return e) (statement_pieces (Stmt-F.Return e))
return_ e = record {
  symbols = Fixed lex.Return ∷ Part part.Outer ∷ Fixed lex.Semicolon ∷ Make (act.Stmt stmt_kind.Return) ∷ [];
  is = inr (inr (inr (inr (inr (inr (inr (inr (inr (inl refl)))))))));
  reads = then (word lex.Return refl refl) (made_by (then (outer e) (word lex.Semicolon refl refl)) (act.Stmt stmt_kind.Return));
}

fail : (e : Expr) → Is (stmt.Fail e) (statement_pieces (Stmt-F.Fail e))
fail e = record {
  symbols = Fixed lex.Fail ∷ Part part.Outer ∷ Fixed lex.Semicolon ∷ Make (act.Stmt stmt_kind.Fail) ∷ [];
  is = inr (inr (inr (inr (inr (inr (inr (inr (inr (inr (inl refl))))))))));
  reads = then (word lex.Fail refl refl) (made_by (then (outer e) (word lex.Semicolon refl refl)) (act.Stmt stmt_kind.Fail));
}

abbrev rolled : Stmt-F IsRead → Stmt-F Stmt
rolled y = map-Stmt IsRead Stmt (λ s. s.0) y

-- at the node that it is made of
at : (x : Stmt-F Stmt) (s : Stmt) (xs : List Piece) → roll-Stmt x ≡ s → IsStatement s xs → IsStatement (roll-Stmt x) xs
at x s xs e i = subst (λ s. IsStatement s xs) (sym e) i

node : (y : Stmt-F IsRead) → IsStatement (roll-Stmt (rolled y)) (statement_pieces (map-Stmt Stmt (List Piece) stmt_pieces (rolled y)))
node (Stmt-F.Let x r) = at (Stmt-F.Let x r) (stmt.Let x r) _ (rolls-Let x r) (let_ x r)
node (Stmt-F.Set x r) = at (Stmt-F.Set x r) (stmt.Set x r) _ (rolls-Set x r) (set x r)
node (Stmt-F.Do a) = at (Stmt-F.Do a) (stmt.Do a) _ (rolls-Do a) (do_ a)
node (Stmt-F.Put table k e) = at (Stmt-F.Put table k e) (stmt.Put table k e) _ (rolls-Put table k e) (put table k e)
node (Stmt-F.Delete table k) = at (Stmt-F.Delete table k) (stmt.Delete table k) _ (rolls-Delete table k) (delete table k)
node (Stmt-F.If e ss None) = at (Stmt-F.If e (all_of ss) None) (stmt.If e (all_of ss) None) _ (rolls-If e (all_of ss) None) (if_ e ss)
node (Stmt-F.If e ss (Some us)) = at (Stmt-F.If e (all_of ss) (Some (all_of us))) (stmt.If e (all_of ss) (Some (all_of us))) _ (rolls-If e (all_of ss) (Some (all_of us))) (if_else e ss us)
node (Stmt-F.While e ss) = at (Stmt-F.While e (all_of ss)) (stmt.While e (all_of ss)) _ (rolls-While e (all_of ss)) (while e ss)
node (Stmt-F.Each x e ss) = at (Stmt-F.Each x e (all_of ss)) (stmt.Each x e (all_of ss)) _ (rolls-Each x e (all_of ss)) (each x e ss)
node (Stmt-F.Try ss x us) = at (Stmt-F.Try (all_of ss) x (all_of us)) (stmt.Try (all_of ss) x (all_of us)) _ (rolls-Try (all_of ss) x (all_of us)) (try_ ss x us)
node (Stmt-F.Return e) = at (Stmt-F.Return e) (stmt.Return e) _ (rolls-Return e) (return_ e)
node (Stmt-F.Fail e) = at (Stmt-F.Fail e) (stmt.Fail e) _ (rolls-Fail e) (fail e)

abbrev P : Stmt → Type 0
P s = IsStatement s (stmt_pieces s)

level : (y : Stmt-F IsRead) → P (roll-Stmt (rolled y))
level y = subst (λ xs. IsStatement (roll-Stmt (rolled y)) xs) (sym (stmt_roll (rolled y))) (node y)

stmt_is_read : (s : Stmt) → IsStatement s (stmt_pieces s)
stmt_is_read = ind-Stmt P (λ x y same. subst (λ z. P (roll-Stmt z)) same (level y))

-- each body is read from its spelling

same_body : (b : List Stmt) → all_of (map (λ s. (s, stmt_is_read s)) b) ≡ b
same_body [] = refl
same_body (s ∷ b) = ap (λ b. s ∷ b) (same_body b)

pub body : (b : List Stmt) → Reads (Part part.Block ∷ []) (push_block b) (body_pieces b)
body b = subst (λ b. Reads (Part part.Block ∷ []) (push_block b) (body_pieces b)) (same_body b) (block_of (map (λ s. (s, stmt_is_read s)) b))
