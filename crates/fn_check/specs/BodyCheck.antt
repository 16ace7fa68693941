-- The first fault of a body.
use Rattle.std.specs.Prelude.{◌≡◌, ℕ, not, Result, Ok, Err, List, [], ◌∷◌, ◌++◌, length, map, Option, Some, None}
use Rattle.fn_tree.specs.declared.expr.Expr.{Expr}
use Rattle.fn_tree.specs.declared.program.Item.{Item}
use Rattle.fn_tree.specs.declared.stmt.Ask.{Ask}
use Rattle.fn_tree.specs.declared.stmt.Rhs.{Rhs}
use Rattle.fn_tree.specs.declared.stmt.Stmt.{Stmt}
use Rattle.fn_tree.specs.declared.stmt.Stmt.TheFolds.{fold-Stmt}
use Rattle.fn_tree.specs.declared.stmt.Stmt.TheOpen.{Stmt-F}
use Rattle.fn_tree.specs.declared.stmt.Ask.TheVariants as ask
use Rattle.fn_tree.specs.declared.stmt.Rhs.TheVariants as rhs
use Rattle.fn_tree.specs.Soundness.{Scope, contains, Body, OfTxn, OfFlow, is_txn, is_flow}
use Rattle.fn_check.specs.declared.fault.CheckKind.{CheckKind}
use Rattle.fn_check.specs.declared.fault.CheckKind.TheVariants.{DuplicateName, Kind, Unbound}
use Rattle.fn_check.specs.declared.statement.BodyKind.{BodyKind}
use Rattle.fn_check.specs.declared.statement.BodyKind.TheVariants as kind
use Rattle.fn_check.specs.Found.{Check, Binding, then_, needs, none}
use Rattle.fn_check.specs.Uses.{declared, table_use, call_use, spawn_use}
use Rattle.fn_check.specs.ExpressionCheck.{each_check, expr_check}

-- a new name, which isn't bound yet
abbrev pub new_check : List ℕ → Check
new_check name scope = needs (not (contains scope name)) DuplicateName

abbrev pub set_check : List ℕ → Check
set_check name scope = needs (contains scope name) Unbound

-- what binds nothing leaves its scope
abbrev pub leaves : Check → Binding
leaves check scope = then_ (check scope) (λ u. Ok scope)

abbrev pub in_order : List Binding → Binding
in_order [] scope = Ok scope
in_order (s ∷ ss) scope = then_ (s scope) (in_order ss)

-- a block: its bindings end with it
abbrev pub block_check : List Binding → Check
block_check body scope = then_ (in_order body scope) (λ inner. none)

-- a block in which a new name is bound
abbrev pub block_with : List ℕ → List Binding → Check
block_with name body scope = block_check body (scope ++ name ∷ [])

-- rows are read and written in transactions alone
abbrev pub rows_here : Body → Result (Unit {0}) CheckKind
rows_here body = needs (is_txn body) Kind

-- asks stand in flows alone
abbrev pub asks_here : Body → Result (Unit {0}) CheckKind
asks_here body = needs (is_flow body) Kind

-- the kind of body, as the code names it
abbrev pub kind_of : BodyKind → Body
kind_of kind.Txn = OfTxn
kind_of kind.Flow = OfFlow

-- an expression of a body: it may call each helper
abbrev pub value_check : List Item → Expr → Check
value_check items = expr_check items items

abbrev pub args_check : List Item → List Expr → Check
args_check items es = each_check (map (value_check items) es)

abbrev pub pair_check : List Item → Expr → Expr → Check
pair_check items a b scope = then_ (value_check items a scope) (λ u. value_check items b scope)

abbrev pub no_block_or : Option (List Binding) → Check
no_block_or None scope = none
no_block_or (Some b) scope = block_check b scope

module _ (items : List Item) (body : Body) where
  abbrev pub ask_check : Ask → Check
  ask_check (ask.Call name args) scope = then_ (asks_here body) (λ u. then_ (call_use (declared items name) (length args)) (λ u. args_check items args scope))
  ask_check (ask.Spawn name args) scope = then_ (asks_here body) (λ u. then_ (spawn_use (declared items name) (length args)) (λ u. args_check items args scope))
  ask_check (ask.Await id) scope = then_ (asks_here body) (λ u. value_check items id scope)

  -- a table whose rows are read or written here
  abbrev pub table_check : List ℕ → Result (Unit {0}) CheckKind
  table_check name = then_ (rows_here body) (λ u. table_use (declared items name))

  abbrev pub rows_check : List ℕ → Check → Check
  rows_check table keys scope = then_ (table_check table) (λ u. keys scope)

  abbrev pub rhs_check : Rhs → Check
  rhs_check (rhs.Plain e) scope = value_check items e scope
  rhs_check (rhs.Ask a) scope = ask_check a scope
  rhs_check (rhs.Get table key) scope = rows_check table (value_check items key) scope
  rhs_check (rhs.Scan table lo hi) scope = rows_check table (pair_check items lo hi) scope

  -- One statement, with what is found in each inner one. A `do` stands where its ask may stand.
  abbrev pub statement_check : Stmt-F Binding → Binding
  statement_check (Stmt-F.Let name r) scope = then_ (new_check name scope) (λ u. then_ (rhs_check r scope) (λ u. Ok (scope ++ name ∷ [])))
  statement_check (Stmt-F.Set name r) scope = leaves (λ s. then_ (set_check name s) (λ u. rhs_check r s)) scope
  statement_check (Stmt-F.Do a) scope = leaves (ask_check a) scope
  statement_check (Stmt-F.Put table key e) scope = leaves (rows_check table (pair_check items key e)) scope
  statement_check (Stmt-F.Delete table key) scope = leaves (rows_check table (value_check items key)) scope
  statement_check (Stmt-F.If cond one other) scope = leaves (λ s. then_ (value_check items cond s) (λ u. then_ (block_check one s) (λ u. no_block_or other s))) scope
  statement_check (Stmt-F.While cond b) scope = leaves (λ s. then_ (value_check items cond s) (λ u. block_check b s)) scope
  statement_check (Stmt-F.Each name list b) scope = leaves (λ s. then_ (new_check name s) (λ u. then_ (value_check items list s) (λ u. block_with name b s))) scope
  statement_check (Stmt-F.Try b name handler) scope = leaves (λ s. then_ (block_check b s) (λ u. then_ (new_check name s) (λ u. block_with name handler s))) scope
  statement_check (Stmt-F.Return e) scope = leaves (value_check items e) scope
  statement_check (Stmt-F.Fail e) scope = leaves (value_check items e) scope

  abbrev pub stmt_check : Stmt → Binding
  stmt_check = fold-Stmt Binding statement_check

  -- a body, its parameters bound
  abbrev pub body_check : List (List ℕ) → List Stmt → Result (Unit {0}) CheckKind
  body_check params b = block_check (map stmt_check b) params
