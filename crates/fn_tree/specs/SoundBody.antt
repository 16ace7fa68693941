-- Which bodies are sound.
use Rattle.fn_tree.specs.declared.expr.Expr.{Expr}
use Rattle.fn_tree.specs.declared.program.Item.{Item}
use Rattle.fn_tree.specs.declared.stmt.Ask.{Ask}
use Rattle.fn_tree.specs.declared.stmt.Rhs.{Rhs}
use Rattle.fn_tree.specs.declared.stmt.Stmt.{Stmt}
use Rattle.fn_tree.specs.declared.stmt.Stmt.TheFolds.{fold-Stmt}
use Rattle.fn_tree.specs.declared.stmt.Stmt.TheOpen.{Stmt-F}
use Rattle.std.specs.Prelude.{ℕ, Bool, true, false, not, ◌&&◌, List, [], ◌∷◌, ◌++◌, length, map, Option, Some, None, if◌then◌else◌}
use Rattle.fn_tree.specs.declared.stmt.Ask.TheVariants as ask
use Rattle.fn_tree.specs.declared.stmt.Rhs.TheVariants as rhs
use Rattle.fn_tree.specs.Declarations.{contains, is_table, any, called, spawned, is_some}
use Rattle.fn_tree.specs.SoundExpression.{Scope, Test, each_is, expr_is_sound}

-- which kind of body a statement stands in
pub data Body : Type 0 where
  OfTxn : Body
  OfFlow : Body

abbrev pub is_txn : Body → Bool
is_txn OfTxn = true
is_txn OfFlow = false

abbrev pub is_flow : Body → Bool
is_flow b = not (is_txn b)

-- the scope after something that binds nothing, where it is sound
abbrev pub same_if : Bool → Scope → Option Scope
same_if true scope = Some scope
same_if false scope = None

-- the scope after a new name, which wasn't bound
abbrev pub with_new : List ℕ → Scope → Option Scope
with_new name scope = if contains scope name then None else Some (scope ++ name ∷ [])

-- the scope after a statement, where it is sound
abbrev pub Binds : Type 0
Binds = Scope → Option Scope

abbrev pub after : Option Scope → Binds → Option Scope
after None next = None
after (Some scope) next = next scope

abbrev pub all_in_order : List Binds → Binds
all_in_order [] scope = Some scope
all_in_order (s ∷ ss) scope = after (s scope) (all_in_order ss)

-- a block: its bindings end with it
abbrev pub block_is_sound : List Binds → Test
block_is_sound body scope = is_some (all_in_order body scope)

-- a block in which a new name is bound
abbrev pub block_with : List ℕ → List Binds → Test
block_with name body scope = is_some (after (with_new name scope) (all_in_order body))

module _ (items : List Item) (body : Body) where
  abbrev pub exprs_are_sound : List Expr → Test
  exprs_are_sound es = each_is (map (expr_is_sound items) es)

  abbrev pub ask_is_sound : Ask → Test
  ask_is_sound (ask.Call name args) scope = is_some (called items name (length args)) && exprs_are_sound args scope
  ask_is_sound (ask.Spawn name args) scope = is_some (spawned items name (length args)) && exprs_are_sound args scope
  ask_is_sound (ask.Await id) scope = expr_is_sound items id scope

  abbrev pub rhs_is_sound : Rhs → Test
  rhs_is_sound (rhs.Plain e) scope = expr_is_sound items e scope
  rhs_is_sound (rhs.Ask a) scope = is_flow body && ask_is_sound a scope
  rhs_is_sound (rhs.Get table key) scope = is_txn body && any (is_table table) items && expr_is_sound items key scope
  rhs_is_sound (rhs.Scan table lo hi) scope = is_txn body && any (is_table table) items && expr_is_sound items lo scope && expr_is_sound items hi scope

  abbrev pub no_block_or : Option (List Binds) → Test
  no_block_or None scope = true
  no_block_or (Some b) scope = block_is_sound b scope

  -- One statement, with what each inner statement binds in its place.
  abbrev pub statement_binds : Stmt-F Binds → Binds
  statement_binds (Stmt-F.Let name r) scope = if rhs_is_sound r scope then with_new name scope else None
  statement_binds (Stmt-F.Set name r) scope = same_if (contains scope name && rhs_is_sound r scope) scope
  statement_binds (Stmt-F.Do a) scope = same_if (is_flow body && ask_is_sound a scope) scope
  statement_binds (Stmt-F.Put table key e) scope =
      same_if (is_txn body && any (is_table table) items && expr_is_sound items key scope && expr_is_sound items e scope) scope
  statement_binds (Stmt-F.Delete table key) scope = same_if (is_txn body && any (is_table table) items && expr_is_sound items key scope) scope
  statement_binds (Stmt-F.If cond one other) scope = same_if (expr_is_sound items cond scope && block_is_sound one scope && no_block_or other scope) scope
  statement_binds (Stmt-F.While cond b) scope = same_if (expr_is_sound items cond scope && block_is_sound b scope) scope
  statement_binds (Stmt-F.Each name list b) scope = same_if (expr_is_sound items list scope && block_with name b scope) scope
  statement_binds (Stmt-F.Try b name handler) scope = same_if (block_is_sound b scope && block_with name handler scope) scope
  statement_binds (Stmt-F.Return e) scope = same_if (expr_is_sound items e scope) scope
  statement_binds (Stmt-F.Fail e) scope = same_if (expr_is_sound items e scope) scope

  abbrev pub binds : Stmt → Binds
  binds = fold-Stmt Binds statement_binds

  -- a body, its parameters bound
  abbrev pub body_is_sound : List (List ℕ) → List Stmt → Bool
  body_is_sound params b = block_is_sound (map binds b) params
