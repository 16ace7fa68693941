-- How many expression nodes a program has.
use Rattle.std.specs.Prelude.{ℕ, suc, ◌+◌, List, [], ◌∷◌, map, Option, Some, None}
use Rattle.fn_tree.specs.declared.expr.Expr.{Expr}
use Rattle.fn_tree.specs.declared.expr.Expr.TheOpen.{Expr-F}
use Rattle.fn_tree.specs.declared.expr.Expr.TheFolds.{fold-Expr}
use Rattle.fn_tree.specs.declared.stmt.Ask.{Ask}
use Rattle.fn_tree.specs.declared.stmt.Ask.TheVariants as ask
use Rattle.fn_tree.specs.declared.stmt.Rhs.{Rhs}
use Rattle.fn_tree.specs.declared.stmt.Rhs.TheVariants as rhs
use Rattle.fn_tree.specs.declared.stmt.Stmt.{Stmt}
use Rattle.fn_tree.specs.declared.stmt.Stmt.TheOpen.{Stmt-F}
use Rattle.fn_tree.specs.declared.stmt.Stmt.TheFolds.{fold-Stmt}
use Rattle.fn_tree.specs.declared.program.Item.{Item}
use Rattle.fn_tree.specs.declared.program.Item.TheVariants as item

abbrev pub total : List ℕ → ℕ
total [] = 0
total (n ∷ ns) = n + total ns

-- the nodes in a node's operands
abbrev pub in_operands : Expr-F ℕ → ℕ
in_operands (Expr-F.Int z) = 0
in_operands (Expr-F.Text t) = 0
in_operands Expr-F.Null = 0
in_operands Expr-F.True = 0
in_operands Expr-F.False = 0
in_operands (Expr-F.Name x) = 0
in_operands (Expr-F.Helper name args) = total args
in_operands (Expr-F.List es) = total es
in_operands (Expr-F.Len a) = a
in_operands (Expr-F.Str a) = a
in_operands (Expr-F.Neg a) = a
in_operands (Expr-F.Not a) = a
in_operands (Expr-F.Index a b) = a + b
in_operands (Expr-F.Or a b) = a + b
in_operands (Expr-F.And a b) = a + b
in_operands (Expr-F.Eq a b) = a + b
in_operands (Expr-F.Ne a b) = a + b
in_operands (Expr-F.Lt a b) = a + b
in_operands (Expr-F.Le a b) = a + b
in_operands (Expr-F.Gt a b) = a + b
in_operands (Expr-F.Ge a b) = a + b
in_operands (Expr-F.Add a b) = a + b
in_operands (Expr-F.Sub a b) = a + b
in_operands (Expr-F.Join a b) = a + b
in_operands (Expr-F.Mul a b) = a + b
in_operands (Expr-F.Div a b) = a + b
in_operands (Expr-F.Rem a b) = a + b

-- a node counts one
abbrev pub in_node : Expr-F ℕ → ℕ
in_node x = suc (in_operands x)

abbrev pub in_expression : Expr → ℕ
in_expression = fold-Expr ℕ in_node

abbrev pub in_arguments : List Expr → ℕ
in_arguments es = total (map in_expression es)

abbrev pub in_ask : Ask → ℕ
in_ask (ask.Call name args) = in_arguments args
in_ask (ask.Spawn name args) = in_arguments args
in_ask (ask.Await id) = in_expression id

abbrev pub in_rhs : Rhs → ℕ
in_rhs (rhs.Plain e) = in_expression e
in_rhs (rhs.Ask a) = in_ask a
in_rhs (rhs.Get table key) = in_expression key
in_rhs (rhs.Scan table lo hi) = in_expression lo + in_expression hi

abbrev pub in_no_block_or : Option (List ℕ) → ℕ
in_no_block_or None = 0
in_no_block_or (Some b) = total b

-- the nodes in a statement, with those of each inner statement in its place
abbrev pub among : Stmt-F ℕ → ℕ
among (Stmt-F.Let name r) = in_rhs r
among (Stmt-F.Set name r) = in_rhs r
among (Stmt-F.Do a) = in_ask a
among (Stmt-F.Put table key e) = in_expression key + in_expression e
among (Stmt-F.Delete table key) = in_expression key
among (Stmt-F.If cond one other) = in_expression cond + (total one + in_no_block_or other)
among (Stmt-F.While cond b) = in_expression cond + total b
among (Stmt-F.Each name list b) = in_expression list + total b
among (Stmt-F.Try b name handler) = total b + total handler
among (Stmt-F.Return e) = in_expression e
among (Stmt-F.Fail e) = in_expression e

abbrev pub in_statement : Stmt → ℕ
in_statement = fold-Stmt ℕ among

abbrev pub in_body : List Stmt → ℕ
in_body b = total (map in_statement b)

abbrev pub in_item : Item → ℕ
in_item (item.Helper name params body) = in_expression body
in_item (item.Txn serial name params body) = in_body body
in_item (item.Flow name params body) = in_body body
in_item _ = 0

abbrev pub in_program : List Item → ℕ
in_program items = total (map in_item items)
