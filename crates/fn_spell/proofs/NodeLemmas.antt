-- The spelling of a tree, at the variant that a `match` names.
use Rattle.std.proofs.Common.{◌≡◌, ℕ, List, ◌∷◌, ◌++◌, Some, None, true, ap, sym, ◌∙◌}
use Rattle.std.specs.Prelude.{map}
use Rattle.fn_tree.specs.declared.expr.Expr.{Expr, roll-Expr}
use Rattle.fn_tree.specs.declared.expr.Expr as tree
use Rattle.fn_tree.specs.declared.expr.Expr.TheOpen.{Expr-F}
use Rattle.fn_tree.specs.declared.expr.Expr.TheVariants.{rolls-Helper, rolls-List}
use Rattle.fn_tree.specs.declared.expr.Expr.TheFolds.{map-Expr, fold-roll-Expr}
use Rattle.fn_tree.specs.declared.stmt.Ask.{Ask}
use Rattle.fn_tree.specs.declared.stmt.Rhs.{Rhs}
use Rattle.fn_tree.specs.declared.stmt.Stmt.{Stmt, roll-Stmt}
use Rattle.fn_tree.specs.declared.stmt.Stmt as stmt
use Rattle.fn_tree.specs.declared.stmt.Stmt.TheOpen.{Stmt-F}
use Rattle.fn_tree.specs.declared.stmt.Stmt.TheVariants.{rolls-Let, rolls-Set, rolls-Do, rolls-Put, rolls-Delete, rolls-If, rolls-While, rolls-Each, rolls-Try, rolls-Return, rolls-Fail}
use Rattle.fn_tree.specs.declared.stmt.Stmt.TheFolds.{map-Stmt, fold-roll-Stmt}
use Rattle.fn_grammar.specs.declared.lexeme.Lexeme.TheVariants as lex
use Rattle.fn_spell.specs.Pieces.{Piece, a_word, a_name}
use Rattle.fn_spell.specs.Spelling.{separated, node_pieces, expr_pieces, outer_pieces, key_pieces, ask_pieces, rhs_pieces, ended, statement_pieces, stmt_pieces, body_pieces}

pub pieces_roll : (x : Expr-F Expr) → expr_pieces (roll-Expr x) ≡ node_pieces (map-Expr Expr (List Piece) expr_pieces x)
pieces_roll x = fold-roll-Expr (List Piece) node_pieces x

pub pieces_helper : (f : List ℕ) (args : List Expr) → expr_pieces (tree.Helper f args) ≡ a_name f ∷ a_word lex.OpenParen ∷ separated true lex.CloseParen (map expr_pieces args)
pieces_helper f args = ap expr_pieces (sym (rolls-Helper f args)) ∙ pieces_roll (Expr-F.Helper f args)

pub pieces_list : (es : List Expr) → expr_pieces (tree.List es) ≡ a_word lex.OpenBracket ∷ separated true lex.CloseBracket (map expr_pieces es)
pieces_list es = ap expr_pieces (sym (rolls-List es)) ∙ pieces_roll (Expr-F.List es)

pub ruleset list_nodes = (pieces_helper, pieces_list)

pub stmt_roll : (x : Stmt-F Stmt) → stmt_pieces (roll-Stmt x) ≡ statement_pieces (map-Stmt Stmt (List Piece) stmt_pieces x)
stmt_roll x = fold-roll-Stmt (List Piece) statement_pieces x

is : (x : Stmt-F Stmt) (s : Stmt) → roll-Stmt x ≡ s → stmt_pieces s ≡ statement_pieces (map-Stmt Stmt (List Piece) stmt_pieces x)
is x s e = ap stmt_pieces (sym e) ∙ stmt_roll x

pub pieces_let : (x : List ℕ) (r : Rhs) → stmt_pieces (stmt.Let x r) ≡ a_word lex.Let ∷ a_name x ∷ a_word lex.Assign ∷ ended (rhs_pieces r)
pieces_let x r = is (Stmt-F.Let x r) (stmt.Let x r) (rolls-Let x r)

pub pieces_set : (x : List ℕ) (r : Rhs) → stmt_pieces (stmt.Set x r) ≡ a_word lex.Set ∷ a_name x ∷ a_word lex.Assign ∷ ended (rhs_pieces r)
pieces_set x r = is (Stmt-F.Set x r) (stmt.Set x r) (rolls-Set x r)

pub pieces_do : (a : Ask) → stmt_pieces (stmt.Do a) ≡ a_word lex.Do ∷ ended (ask_pieces a)
pieces_do a = is (Stmt-F.Do a) (stmt.Do a) (rolls-Do a)

pub pieces_put : (table : List ℕ) (k e : Expr) → stmt_pieces (stmt.Put table k e) ≡ a_word lex.Put ∷ a_name table ∷ (key_pieces k ++ a_word lex.Assign ∷ ended (outer_pieces e))
pieces_put table k e = is (Stmt-F.Put table k e) (stmt.Put table k e) (rolls-Put table k e)

pub pieces_delete : (table : List ℕ) (k : Expr) → stmt_pieces (stmt.Delete table k) ≡ a_word lex.Delete ∷ a_name table ∷ ended (key_pieces k)
pieces_delete table k = is (Stmt-F.Delete table k) (stmt.Delete table k) (rolls-Delete table k)

pub pieces_if : (e : Expr) (one : List Stmt) → stmt_pieces (stmt.If e one None) ≡ a_word lex.If ∷ (outer_pieces e ++ body_pieces one)
pieces_if e one = is (Stmt-F.If e one None) (stmt.If e one None) (rolls-If e one None)

pub pieces_if_else : (e : Expr) (one other : List Stmt) → stmt_pieces (stmt.If e one (Some other)) ≡ a_word lex.If ∷ (outer_pieces e ++ (body_pieces one ++ a_word lex.Else ∷ body_pieces other))
pieces_if_else e one other = is (Stmt-F.If e one (Some other)) (stmt.If e one (Some other)) (rolls-If e one (Some other))

pub pieces_while : (e : Expr) (body : List Stmt) → stmt_pieces (stmt.While e body) ≡ a_word lex.While ∷ (outer_pieces e ++ body_pieces body)
pieces_while e body = is (Stmt-F.While e body) (stmt.While e body) (rolls-While e body)

pub pieces_each : (x : List ℕ) (e : Expr) (body : List Stmt) → stmt_pieces (stmt.Each x e body) ≡ a_word lex.Each ∷ a_name x ∷ a_word lex.In ∷ (outer_pieces e ++ body_pieces body)
pieces_each x e body = is (Stmt-F.Each x e body) (stmt.Each x e body) (rolls-Each x e body)

pub pieces_try : (body : List Stmt) (x : List ℕ) (handler : List Stmt) → stmt_pieces (stmt.Try body x handler) ≡ a_word lex.Try ∷ (body_pieces body ++ a_word lex.Catch ∷ a_name x ∷ body_pieces handler)
pieces_try body x handler = is (Stmt-F.Try body x handler) (stmt.Try body x handler) (rolls-Try body x handler)

pub pieces_return : (e : Expr) → stmt_pieces (stmt.Return e) ≡ a_word lex.Return ∷ ended (outer_pieces e)
pieces_return e = is (Stmt-F.Return e) (stmt.Return e) (rolls-Return e)

pub pieces_fail : (e : Expr) → stmt_pieces (stmt.Fail e) ≡ a_word lex.Fail ∷ ended (outer_pieces e)
pieces_fail e = is (Stmt-F.Fail e) (stmt.Fail e) (rolls-Fail e)

pub ruleset statement_nodes = (pieces_let, pieces_set, pieces_do, pieces_put, pieces_delete, pieces_if, pieces_if_else, pieces_while, pieces_each, pieces_try, pieces_return, pieces_fail)
