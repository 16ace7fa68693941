-- Which programs hold only what a value can hold: numbers of 64 bits, texts of at most 4,091 bytes.
use Rattle.fn_tree.specs.declared.expr.Expr.{Expr}
use Rattle.fn_tree.specs.declared.expr.Expr.TheFolds.{fold-Expr}
use Rattle.fn_tree.specs.declared.expr.Expr.TheOpen.{Expr-F}
use Rattle.fn_tree.specs.declared.program.Item.{Item}
use Rattle.fn_tree.specs.declared.stmt.Ask.{Ask}
use Rattle.fn_tree.specs.declared.stmt.Rhs.{Rhs}
use Rattle.fn_tree.specs.declared.stmt.Stmt.{Stmt}
use Rattle.fn_tree.specs.declared.stmt.Stmt.TheFolds.{fold-Stmt}
use Rattle.fn_tree.specs.declared.stmt.Stmt.TheOpen.{Stmt-F}
use Rattle.std.specs.Prelude.{◌≡◌, ℕ, Bool, true, ◌&&◌, List, [], ◌∷◌, length, map, nat_lt, Option, Some, None}
use Rattle.std.specs.Str.{is_utf8}
use Rattle.fn_tree.specs.declared.program.Item.TheVariants as item
use Rattle.fn_tree.specs.declared.stmt.Ask.TheVariants as ask
use Rattle.fn_tree.specs.declared.stmt.Rhs.TheVariants as rhs
use Rattle.fn_tree.specs.Arithmetic.{fits_i64}
use Rattle.fn_tree.specs.Soundness.{name_of, each_passes}

-- a text that a value can hold: in UTF-8, and not too long
abbrev pub is_text : List ℕ → Bool
is_text s = is_utf8 s && nat_lt (length s) 4092

abbrev pub all_fit : List Bool → Bool
all_fit [] = true
all_fit (b ∷ bs) = b && all_fit bs

-- One node, with what is told of each child in its place: a literal is a value.
abbrev pub node_fits : Expr-F Bool → Bool
node_fits (Expr-F.Int z) = fits_i64 z
node_fits (Expr-F.Text t) = is_text t
node_fits Expr-F.Null = true
node_fits Expr-F.True = true
node_fits Expr-F.False = true
node_fits (Expr-F.Name x) = true
node_fits (Expr-F.Helper name args) = all_fit args
node_fits (Expr-F.List es) = all_fit es
node_fits (Expr-F.Len a) = a
node_fits (Expr-F.Str a) = a
node_fits (Expr-F.Neg a) = a
node_fits (Expr-F.Not a) = a
node_fits (Expr-F.Index a b) = a && b
node_fits (Expr-F.Or a b) = a && b
node_fits (Expr-F.And a b) = a && b
node_fits (Expr-F.Eq a b) = a && b
node_fits (Expr-F.Ne a b) = a && b
node_fits (Expr-F.Lt a b) = a && b
node_fits (Expr-F.Le a b) = a && b
node_fits (Expr-F.Gt a b) = a && b
node_fits (Expr-F.Ge a b) = a && b
node_fits (Expr-F.Add a b) = a && b
node_fits (Expr-F.Sub a b) = a && b
node_fits (Expr-F.Join a b) = a && b
node_fits (Expr-F.Mul a b) = a && b
node_fits (Expr-F.Div a b) = a && b
node_fits (Expr-F.Rem a b) = a && b

-- each literal of an expression is a value
abbrev pub expr_fits : Expr → Bool
expr_fits = fold-Expr Bool node_fits

abbrev pub exprs_fit : List Expr → Bool
exprs_fit es = all_fit (map expr_fits es)

abbrev pub ask_fits : Ask → Bool
ask_fits (ask.Call name args) = exprs_fit args
ask_fits (ask.Spawn name args) = exprs_fit args
ask_fits (ask.Await id) = expr_fits id

abbrev pub rhs_fits : Rhs → Bool
rhs_fits (rhs.Plain e) = expr_fits e
rhs_fits (rhs.Ask a) = ask_fits a
rhs_fits (rhs.Get table key) = expr_fits key
rhs_fits (rhs.Scan table lo hi) = expr_fits lo && expr_fits hi

abbrev pub other_fits : Option (List Bool) → Bool
other_fits None = true
other_fits (Some b) = all_fit b

-- One statement, with what is told of each inner statement in its place.
abbrev pub statement_fits : Stmt-F Bool → Bool
statement_fits (Stmt-F.Let name r) = rhs_fits r
statement_fits (Stmt-F.Set name r) = rhs_fits r
statement_fits (Stmt-F.Do a) = ask_fits a
statement_fits (Stmt-F.Put table key e) = expr_fits key && expr_fits e
statement_fits (Stmt-F.Delete table key) = expr_fits key
statement_fits (Stmt-F.If cond one other) = expr_fits cond && all_fit one && other_fits other
statement_fits (Stmt-F.While cond b) = expr_fits cond && all_fit b
statement_fits (Stmt-F.Each name list b) = expr_fits list && all_fit b
statement_fits (Stmt-F.Try b name handler) = all_fit b && all_fit handler
statement_fits (Stmt-F.Return e) = expr_fits e
statement_fits (Stmt-F.Fail e) = expr_fits e

-- each literal of a statement is a value
abbrev pub stmt_fits : Stmt → Bool
stmt_fits = fold-Stmt Bool statement_fits

abbrev pub body_fits : List Stmt → Bool
body_fits b = all_fit (map stmt_fits b)

-- the name of an item is a text, and each literal in it a value
abbrev pub item_fits : Item → Bool
item_fits (item.Helper name params body) = is_text name && expr_fits body
item_fits (item.Txn serial name params body) = is_text name && body_fits body
item_fits (item.Flow name params body) = is_text name && body_fits body
item_fits i = is_text (name_of i)

-- The names of a program's items and its literals are such as a value can hold.
abbrev pub HoldsValues : List Item → Type 0
HoldsValues items = each_passes item_fits items ≡ true
