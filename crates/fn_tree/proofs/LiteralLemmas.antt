-- The literals of a tree, one level at a time.
use Rattle.std.proofs.Common.{◌≡◌, ℕ, ◌≤◌, ◌^◌, ℤ, Bool, true, List, length, Some, None, ap, sym, ◌∙◌, arith}
use Rattle.std.specs.Prelude.{◌&&◌, nat_lt, pos, negsuc, FitsSigned, IsUtf8}
use Rattle.std.specs.Int.{w64}
use Rattle.std.proofs.lemmas.Bool.{and_from, lt-ltb}
use Rattle.std.proofs.lemmas.Str.{is_utf8-from_IsUtf8}
use Rattle.std.specs.Str.{is_utf8}
use Rattle.fn_tree.specs.declared.expr.Expr.{Expr, roll-Expr}
use Rattle.fn_tree.specs.declared.expr.Expr as variant_of
use Rattle.fn_tree.specs.declared.expr.Expr.TheOpen.{Expr-F}
use Rattle.fn_tree.specs.declared.expr.Expr.TheFolds.{map-Expr, fold-roll-Expr}
use Rattle.fn_tree.specs.declared.expr.Expr.TheVariants.{rolls-Helper, rolls-List}
use Rattle.fn_tree.specs.declared.stmt.Ask.{Ask}
use Rattle.fn_tree.specs.declared.stmt.Rhs.{Rhs}
use Rattle.fn_tree.specs.declared.stmt.Stmt.{Stmt, roll-Stmt}
use Rattle.fn_tree.specs.declared.stmt.Stmt as variant
use Rattle.fn_tree.specs.declared.stmt.Stmt.TheOpen.{Stmt-F}
use Rattle.fn_tree.specs.declared.stmt.Stmt.TheFolds.{map-Stmt, fold-roll-Stmt}
use Rattle.fn_tree.specs.declared.stmt.Stmt.TheVariants.{rolls-Let, rolls-Set, rolls-Do, rolls-Put, rolls-Delete, rolls-If, rolls-While, rolls-Each, rolls-Try, rolls-Return, rolls-Fail}
use Rattle.fn_tree.specs.Arithmetic.{fits_i64}
use Rattle.fn_tree.specs.Literals.{is_text, node_fits, expr_fits, exprs_fit, ask_fits, rhs_fits, statement_fits, stmt_fits, body_fits}

pub number_fits : (z : ℤ) → FitsSigned w64 z → fits_i64 z ≡ true
number_fits (pos n) h = lt-ltb n (2 ^ 63) (omega (arith, h.sfits))
number_fits (negsuc n) h = lt-ltb n (2 ^ 63) (omega (arith, h.sfits))

pub text_fits : (s : List ℕ) → IsUtf8 s → length s ≤ 4091 → is_text s ≡ true
text_fits s u short = and_from (is_utf8 s) (nat_lt (length s) 4092) (is_utf8-from_IsUtf8 s u) (lt-ltb (length s) 4092 (omega arith))

expr_at : (x : Expr-F Expr) (e : Expr) → roll-Expr x ≡ e → expr_fits e ≡ node_fits (map-Expr Expr Bool expr_fits x)
expr_at x e is = ap expr_fits (sym is) ∙ fold-roll-Expr Bool node_fits x

-- the equations of the nodes that have a list, at the variant that a `match` names
pub fits_helper : (name : List ℕ) (args : List Expr) → expr_fits (variant_of.Helper name args) ≡ exprs_fit args
fits_helper name args = expr_at (Expr-F.Helper name args) (variant_of.Helper name args) (rolls-Helper name args)

pub fits_list : (es : List Expr) → expr_fits (variant_of.List es) ≡ exprs_fit es
fits_list es = expr_at (Expr-F.List es) (variant_of.List es) (rolls-List es)

pub ruleset fits_at_lists = (fits_helper, fits_list)

stmt_at : (x : Stmt-F Stmt) (s : Stmt) → roll-Stmt x ≡ s → stmt_fits s ≡ statement_fits (map-Stmt Stmt Bool stmt_fits x)
stmt_at x s is = ap stmt_fits (sym is) ∙ fold-roll-Stmt Bool statement_fits x

pub fits_let : (name : List ℕ) (r : Rhs) → stmt_fits (variant.Let name r) ≡ rhs_fits r
fits_let name r = stmt_at (Stmt-F.Let name r) (variant.Let name r) (rolls-Let name r)

pub fits_set : (name : List ℕ) (r : Rhs) → stmt_fits (variant.Set name r) ≡ rhs_fits r
fits_set name r = stmt_at (Stmt-F.Set name r) (variant.Set name r) (rolls-Set name r)

pub fits_do : (a : Ask) → stmt_fits (variant.Do a) ≡ ask_fits a
fits_do a = stmt_at (Stmt-F.Do a) (variant.Do a) (rolls-Do a)

pub fits_put : (table : List ℕ) (key e : Expr) → stmt_fits (variant.Put table key e) ≡ (expr_fits key && expr_fits e)
fits_put table key e = stmt_at (Stmt-F.Put table key e) (variant.Put table key e) (rolls-Put table key e)

pub fits_delete : (table : List ℕ) (key : Expr) → stmt_fits (variant.Delete table key) ≡ expr_fits key
fits_delete table key = stmt_at (Stmt-F.Delete table key) (variant.Delete table key) (rolls-Delete table key)

pub fits_if : (cond : Expr) (one : List Stmt) → stmt_fits (variant.If cond one None) ≡ (expr_fits cond && body_fits one && true)
fits_if cond one = stmt_at (Stmt-F.If cond one None) (variant.If cond one None) (rolls-If cond one None)

pub fits_if_else : (cond : Expr) (one other : List Stmt) → stmt_fits (variant.If cond one (Some other)) ≡ (expr_fits cond && body_fits one && body_fits other)
fits_if_else cond one other = stmt_at (Stmt-F.If cond one (Some other)) (variant.If cond one (Some other)) (rolls-If cond one (Some other))

pub fits_while : (cond : Expr) (b : List Stmt) → stmt_fits (variant.While cond b) ≡ (expr_fits cond && body_fits b)
fits_while cond b = stmt_at (Stmt-F.While cond b) (variant.While cond b) (rolls-While cond b)

pub fits_each : (name : List ℕ) (list : Expr) (b : List Stmt) → stmt_fits (variant.Each name list b) ≡ (expr_fits list && body_fits b)
fits_each name list b = stmt_at (Stmt-F.Each name list b) (variant.Each name list b) (rolls-Each name list b)

pub fits_try : (b : List Stmt) (name : List ℕ) (handler : List Stmt) → stmt_fits (variant.Try b name handler) ≡ (body_fits b && body_fits handler)
fits_try b name handler = stmt_at (Stmt-F.Try b name handler) (variant.Try b name handler) (rolls-Try b name handler)

pub fits_return : (e : Expr) → stmt_fits (variant.Return e) ≡ expr_fits e
fits_return e = stmt_at (Stmt-F.Return e) (variant.Return e) (rolls-Return e)

pub fits_fail : (e : Expr) → stmt_fits (variant.Fail e) ≡ expr_fits e
fits_fail e = stmt_at (Stmt-F.Fail e) (variant.Fail e) (rolls-Fail e)

-- the equations of all statements
pub ruleset fits_at_each = (fits_let, fits_set, fits_do, fits_put, fits_delete, fits_if, fits_if_else, fits_while, fits_each, fits_try, fits_return, fits_fail)
