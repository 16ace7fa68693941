-- The check of a statement, one level at a time, and what it says of soundness.
use Rattle.std.proofs.Common.{◌≡◌, ℕ, Bool, true, false, List, [], ◌∷◌, ◌++◌, Option, Some, None, Result, Ok, Err, refl, ap, sym, subst, ◌∙◌, length, take, append-nil, arith}
use Rattle.std.specs.Prelude.{◌&&◌, not, map, if◌then◌else◌}
use Rattle.std.proofs.lemmas.List.{take_all}
use Rattle.fn_tree.specs.declared.expr.Expr.{Expr}
use Rattle.fn_tree.specs.declared.program.Item.{Item}
use Rattle.fn_tree.specs.declared.stmt.Ask.{Ask}
use Rattle.fn_tree.specs.declared.stmt.Rhs.{Rhs}
use Rattle.fn_tree.specs.declared.stmt.Stmt.{Stmt, roll-Stmt}
use Rattle.fn_tree.specs.declared.stmt.Stmt as variant
use Rattle.fn_tree.specs.declared.stmt.Stmt.TheOpen.{Stmt-F}
use Rattle.fn_tree.specs.declared.stmt.Stmt.TheFolds.{map-Stmt, fold-roll-Stmt}
use Rattle.fn_tree.specs.declared.stmt.Stmt.TheVariants.{rolls-Let, rolls-Set, rolls-Do, rolls-Put, rolls-Delete, rolls-If, rolls-While, rolls-Each, rolls-Try, rolls-Return, rolls-Fail}
use Rattle.fn_tree.specs.declared.stmt.Ask.TheVariants as ask
use Rattle.fn_tree.specs.declared.stmt.Rhs.TheVariants as rhs
use Rattle.fn_tree.specs.Soundness.{Scope, Test, Body, Binds, contains, any, is_table, called, spawned, each_is, is_some, is_txn, is_flow, expr_is_sound, same_if, with_new, after, all_in_order, block_is_sound, block_with as sound_with, no_block_or as sound_or, exprs_are_sound, ask_is_sound, rhs_is_sound, statement_binds, binds, body_is_sound}
use Rattle.fn_meaning.proofs.StatementLemmas.{Shown, by_levels, binds_roll}
use Rattle.fn_check.specs.declared.fault.CheckKind.{CheckKind}
use Rattle.fn_check.specs.declared.fault.CheckKind.TheVariants.{DuplicateName, Kind, Unbound}
use Rattle.fn_check.specs.Found.{Check, Binding, then_, needs, none}
use Rattle.fn_check.specs.Uses.{declared, table_use, call_use, spawn_use}
use Rattle.fn_check.specs.ExpressionCheck.{each_check, expr_check}
use Rattle.fn_check.specs.BodyCheck.{new_check, set_check, leaves, in_order, block_check, block_with, value_check, args_check, pair_check, no_block_or, rows_here, asks_here, ask_check, table_check, rows_check, rhs_check, statement_check, stmt_check, body_check}
use Rattle.fn_check.proofs.BoolLemmas.{and_same, and_assoc, and_swap}
use Rattle.fn_check.proofs.UseLemmas.{ok, ok_then, ok_needs, Apart, HelpersAgree, helpers_agree, table_agrees, call_agrees, spawn_agrees}
use Rattle.fn_check.proofs.ExpressionLemmas.{expr_agrees, exprs_agree}

module _ (items : List Item) (body : Body) where
  pub binding_roll : (x : Stmt-F Stmt) (scope : Scope) → stmt_check items body (roll-Stmt x) scope ≡ statement_check items body (map-Stmt Stmt Binding (stmt_check items body) x) scope
  binding_roll x scope = ap (λ (b : Binding). b scope) (fold-roll-Stmt Binding (statement_check items body) x)

  -- what is found in each statement, at the variant that a `match` names
  finds : (x : Stmt-F Stmt) (s : Stmt) → roll-Stmt x ≡ s → (scope : Scope) → stmt_check items body s scope ≡ statement_check items body (map-Stmt Stmt Binding (stmt_check items body) x) scope
  finds x s is scope = ap (λ s. stmt_check items body s scope) (sym is) ∙ binding_roll x scope

  pub check_let : (name : List ℕ) (r : Rhs) (scope : Scope) → stmt_check items body (variant.Let name r) scope ≡ then_ (new_check name scope) (λ u. then_ (rhs_check items body r scope) (λ u. Ok (scope ++ name ∷ [])))
  check_let name r scope = finds (Stmt-F.Let name r) (variant.Let name r) (rolls-Let name r) scope

  pub check_set : (name : List ℕ) (r : Rhs) (scope : Scope) → stmt_check items body (variant.Set name r) scope ≡ leaves (λ s. then_ (set_check name s) (λ u. rhs_check items body r s)) scope
  check_set name r scope = finds (Stmt-F.Set name r) (variant.Set name r) (rolls-Set name r) scope

  pub check_do : (a : Ask) (scope : Scope) → stmt_check items body (variant.Do a) scope ≡ leaves (ask_check items body a) scope
  check_do a scope = finds (Stmt-F.Do a) (variant.Do a) (rolls-Do a) scope

  pub check_put : (table : List ℕ) (key e : Expr) (scope : Scope) → stmt_check items body (variant.Put table key e) scope ≡ leaves (rows_check items body table (pair_check items key e)) scope
  check_put table key e scope = finds (Stmt-F.Put table key e) (variant.Put table key e) (rolls-Put table key e) scope

  pub check_delete : (table : List ℕ) (key : Expr) (scope : Scope) → stmt_check items body (variant.Delete table key) scope ≡ leaves (rows_check items body table (value_check items key)) scope
  check_delete table key scope = finds (Stmt-F.Delete table key) (variant.Delete table key) (rolls-Delete table key) scope

  pub check_if : (cond : Expr) (one : List Stmt) (scope : Scope) → stmt_check items body (variant.If cond one None) scope ≡ leaves (λ s. then_ (value_check items cond s) (λ u. then_ (block_check (map (stmt_check items body) one) s) (λ u. none))) scope
  check_if cond one scope = finds (Stmt-F.If cond one None) (variant.If cond one None) (rolls-If cond one None) scope

  pub check_if_else : (cond : Expr) (one other : List Stmt) (scope : Scope) → stmt_check items body (variant.If cond one (Some other)) scope ≡ leaves (λ s. then_ (value_check items cond s) (λ u. then_ (block_check (map (stmt_check items body) one) s) (λ u. block_check (map (stmt_check items body) other) s))) scope
  check_if_else cond one other scope = finds (Stmt-F.If cond one (Some other)) (variant.If cond one (Some other)) (rolls-If cond one (Some other)) scope

  pub check_while : (cond : Expr) (b : List Stmt) (scope : Scope) → stmt_check items body (variant.While cond b) scope ≡ leaves (λ s. then_ (value_check items cond s) (λ u. block_check (map (stmt_check items body) b) s)) scope
  check_while cond b scope = finds (Stmt-F.While cond b) (variant.While cond b) (rolls-While cond b) scope

  pub check_each : (name : List ℕ) (list : Expr) (b : List Stmt) (scope : Scope) → stmt_check items body (variant.Each name list b) scope ≡ leaves (λ s. then_ (new_check name s) (λ u. then_ (value_check items list s) (λ u. block_with name (map (stmt_check items body) b) s))) scope
  check_each name list b scope = finds (Stmt-F.Each name list b) (variant.Each name list b) (rolls-Each name list b) scope

  pub check_try : (b : List Stmt) (name : List ℕ) (handler : List Stmt) (scope : Scope) → stmt_check items body (variant.Try b name handler) scope ≡ leaves (λ s. then_ (block_check (map (stmt_check items body) b) s) (λ u. then_ (new_check name s) (λ u. block_with name (map (stmt_check items body) handler) s))) scope
  check_try b name handler scope = finds (Stmt-F.Try b name handler) (variant.Try b name handler) (rolls-Try b name handler) scope

  pub check_return : (e : Expr) (scope : Scope) → stmt_check items body (variant.Return e) scope ≡ leaves (value_check items e) scope
  check_return e scope = finds (Stmt-F.Return e) (variant.Return e) (rolls-Return e) scope

  pub check_fail : (e : Expr) (scope : Scope) → stmt_check items body (variant.Fail e) scope ≡ leaves (value_check items e) scope
  check_fail e scope = finds (Stmt-F.Fail e) (variant.Fail e) (rolls-Fail e) scope

-- the equations of all statements
pub ruleset statement_checks = (check_let, check_set, check_do, check_put, check_delete, check_if, check_if_else, check_while, check_each, check_try, check_return, check_fail)

-- ---- what is left, beside what soundness says of it

abbrev scope_of : Result Scope CheckKind → Option Scope
scope_of (Ok scope) = Some scope
scope_of (Err fault) = None

left : (r : Result (Unit {0}) CheckKind) (scope : Scope) → scope_of (then_ r (λ u. Ok scope)) ≡ same_if (ok r) scope
left (Ok u) scope = refl
left (Err fault) scope = refl

leaves_if : (check : Check) (scope : Scope) (b : Bool) → ok (check scope) ≡ b → scope_of (leaves check scope) ≡ same_if b scope
leaves_if check scope b e = left (check scope) scope ∙ ap (λ (c : Bool). same_if c scope) e

goes_on : (r : Result Scope CheckKind) (o : Option Scope) (next : Binding) (other : Binds) → scope_of r ≡ o → ((s : Scope) → scope_of (next s) ≡ other s) → scope_of (then_ r next) ≡ after o other
goes_on (Ok s) o next other e h = h s ∙ ap (λ (p : Option Scope). after p other) e
goes_on (Err fault) o next other e h = ap (λ (p : Option Scope). after p other) e

ok_block : (r : Result Scope CheckKind) → ok (then_ r (λ inner. none)) ≡ is_some (scope_of r)
ok_block (Ok s) = refl
ok_block (Err fault) = refl

let_by : (c : Bool) (r : Result (Unit {0}) CheckKind) (next : Scope) → scope_of (then_ (needs (not c) DuplicateName) (λ u. then_ r (λ u. Ok next))) ≡ (if ok r then (if c then None else Some next) else None)
let_by true (Ok u) next = refl
let_by true (Err fault) next = refl
let_by false (Ok u) next = refl
let_by false (Err fault) next = refl

-- a block with a new name
with_by : (c : Bool) (next : Scope) (f : Binds) → (not c && is_some (f next)) ≡ is_some (after (if c then None else Some next) f)
with_by true next f = refl
with_by false next f = refl

pub all_callable : (items : List Item) → Apart items → HelpersAgree items items
all_callable items d = subst (λ (xs : List Item). HelpersAgree items xs) (append-nil items) (helpers_agree items [] (subst Apart (sym (append-nil items)) d))

module _ (items : List Item) (body : Body) (apart : Apart items) where
  value_agrees : (e : Expr) (scope : Scope) → ok (value_check items e scope) ≡ expr_is_sound items e scope
  value_agrees e scope = expr_agrees items items (all_callable items apart) e scope

  args_agree : (es : List Expr) (scope : Scope) → ok (args_check items es scope) ≡ exprs_are_sound items body es scope
  args_agree es scope = exprs_agree items items (all_callable items apart) es scope

  pair_agrees : (a b : Expr) (scope : Scope) → ok (pair_check items a b scope) ≡ (expr_is_sound items a scope && expr_is_sound items b scope)
  pair_agrees a b scope = ok_then (value_check items a scope) (λ u. value_check items b scope) ∙ and_same _ _ _ _ (value_agrees a scope) (value_agrees b scope)

  ask_agrees : (a : Ask) (scope : Scope) → ok (ask_check items body a scope) ≡ (is_flow body && ask_is_sound items body a scope)
  ask_agrees (ask.Call name args) scope =
      ok_then (asks_here body) (λ u. then_ (call_use (declared items name) (length args)) (λ u. args_check items args scope))
      ∙ and_same (ok (asks_here body)) (is_flow body) (ok (then_ (call_use (declared items name) (length args)) (λ u. args_check items args scope))) (ask_is_sound items body (ask.Call name args) scope) (ok_needs (is_flow body) Kind)
      (ok_then (call_use (declared items name) (length args)) (λ u. args_check items args scope)
      ∙ and_same (ok (call_use (declared items name) (length args))) (is_some (called items name (length args))) (ok (args_check items args scope)) (exprs_are_sound items body args scope) (call_agrees items apart name (length args)) (args_agree args scope))
  ask_agrees (ask.Spawn name args) scope =
      ok_then (asks_here body) (λ u. then_ (spawn_use (declared items name) (length args)) (λ u. args_check items args scope))
      ∙ and_same (ok (asks_here body)) (is_flow body) (ok (then_ (spawn_use (declared items name) (length args)) (λ u. args_check items args scope))) (ask_is_sound items body (ask.Spawn name args) scope) (ok_needs (is_flow body) Kind)
      (ok_then (spawn_use (declared items name) (length args)) (λ u. args_check items args scope)
      ∙ and_same (ok (spawn_use (declared items name) (length args))) (is_some (spawned items name (length args))) (ok (args_check items args scope)) (exprs_are_sound items body args scope) (spawn_agrees items apart name (length args)) (args_agree args scope))
  ask_agrees (ask.Await id) scope =
      ok_then (asks_here body) (λ u. value_check items id scope)
      ∙ and_same (ok (asks_here body)) (is_flow body) (ok (value_check items id scope)) (expr_is_sound items id scope) (ok_needs (is_flow body) Kind) (value_agrees id scope)

  table_here : (name : List ℕ) → ok (table_check items body name) ≡ (is_txn body && any (is_table name) items)
  table_here name =
      ok_then (rows_here body) (λ u. table_use (declared items name))
      ∙ and_same (ok (rows_here body)) (is_txn body) (ok (table_use (declared items name))) (any (is_table name) items) (ok_needs (is_txn body) Kind) (table_agrees items apart name)

  row_agrees : (name : List ℕ) (key : Expr) (scope : Scope) → ok (rows_check items body name (value_check items key) scope) ≡ (is_txn body && any (is_table name) items && expr_is_sound items key scope)
  row_agrees name key scope =
      ok_then (table_check items body name) (λ u. value_check items key scope)
      ∙ and_same (ok (table_check items body name)) (is_txn body && any (is_table name) items) (ok (value_check items key scope)) (expr_is_sound items key scope) (table_here name) (value_agrees key scope)

  rows_agree : (name : List ℕ) (a b : Expr) (scope : Scope) → ok (rows_check items body name (pair_check items a b) scope) ≡ (is_txn body && any (is_table name) items && expr_is_sound items a scope && expr_is_sound items b scope)
  rows_agree name a b scope =
      ok_then (table_check items body name) (λ u. pair_check items a b scope)
      ∙ and_same (ok (table_check items body name)) (is_txn body && any (is_table name) items) (ok (pair_check items a b scope)) (expr_is_sound items a scope && expr_is_sound items b scope) (table_here name) (pair_agrees a b scope)
      ∙ sym (and_assoc (is_txn body && any (is_table name) items) (expr_is_sound items a scope) (expr_is_sound items b scope))

  rhs_agrees : (r : Rhs) (scope : Scope) → ok (rhs_check items body r scope) ≡ rhs_is_sound items body r scope
  rhs_agrees (rhs.Plain e) scope = value_agrees e scope
  rhs_agrees (rhs.Ask a) scope = ask_agrees a scope
  rhs_agrees (rhs.Get table key) scope = row_agrees table key scope
  rhs_agrees (rhs.Scan table lo hi) scope = rows_agree table lo hi scope

  abbrev P : Stmt → Type 0
  P s = (scope : Scope) → scope_of (stmt_check items body s scope) ≡ binds items body s scope

  abbrev checks : List (Shown P) → List Binding
  checks ss = map (stmt_check items body) (map (λ s. s.0) ss)

  abbrev tests : List (Shown P) → List Binds
  tests ss = map (binds items body) (map (λ s. s.0) ss)

  in_order_agrees : (ss : List (Shown P)) (scope : Scope) → scope_of (in_order (checks ss) scope) ≡ all_in_order (tests ss) scope
  in_order_agrees [] scope = refl
  in_order_agrees (s ∷ ss) scope = goes_on (stmt_check items body s.0 scope) (binds items body s.0 scope) (in_order (checks ss)) (all_in_order (tests ss)) (s.1 scope) (in_order_agrees ss)

  block_agrees : (ss : List (Shown P)) (scope : Scope) → ok (block_check (checks ss) scope) ≡ block_is_sound (tests ss) scope
  block_agrees ss scope = ok_block (in_order (checks ss) scope) ∙ ap (λ (o : Option Scope). is_some o) (in_order_agrees ss scope)

  -- a new name and its block
  with_agrees : (name : List ℕ) (ss : List (Shown P)) (scope : Scope) → (not (contains scope name) && ok (block_with name (checks ss) scope)) ≡ sound_with name (tests ss) scope
  with_agrees name ss scope =
      ap (λ (b : Bool). not (contains scope name) && b) (block_agrees ss (scope ++ name ∷ []))
      ∙ with_by (contains scope name) (scope ++ name ∷ []) (all_in_order (tests ss))

  new_agrees : (name : List ℕ) (scope : Scope) → ok (new_check name scope) ≡ not (contains scope name)
  new_agrees name scope = ok_needs (not (contains scope name)) DuplicateName

  if_agrees : (cond : Expr) (one : List (Shown P)) (other : Option (List (Shown P))) (last : Result (Unit {0}) CheckKind) (b : Bool) (scope : Scope) → ok last ≡ b
      → ok (then_ (value_check items cond scope) (λ u. then_ (block_check (checks one) scope) (λ u. last))) ≡ (expr_is_sound items cond scope && block_is_sound (tests one) scope && b)
  if_agrees cond one other last b scope e =
      ok_then (value_check items cond scope) (λ u. then_ (block_check (checks one) scope) (λ u. last))
      ∙ and_same (ok (value_check items cond scope)) (expr_is_sound items cond scope) (ok (then_ (block_check (checks one) scope) (λ u. last))) (block_is_sound (tests one) scope && b) (value_agrees cond scope)
      (ok_then (block_check (checks one) scope) (λ u. last) ∙ and_same (ok (block_check (checks one) scope)) (block_is_sound (tests one) scope) (ok last) b (block_agrees one scope) e)
      ∙ sym (and_assoc (expr_is_sound items cond scope) (block_is_sound (tests one) scope) b)

  while_agrees : (cond : Expr) (b : List (Shown P)) (scope : Scope) → ok (then_ (value_check items cond scope) (λ u. block_check (checks b) scope)) ≡ (expr_is_sound items cond scope && block_is_sound (tests b) scope)
  while_agrees cond b scope =
      ok_then (value_check items cond scope) (λ u. block_check (checks b) scope)
      ∙ and_same (ok (value_check items cond scope)) (expr_is_sound items cond scope) (ok (block_check (checks b) scope)) (block_is_sound (tests b) scope) (value_agrees cond scope) (block_agrees b scope)

  each_agrees : (name : List ℕ) (list : Expr) (b : List (Shown P)) (scope : Scope) → ok (then_ (new_check name scope) (λ u. then_ (value_check items list scope) (λ u. block_with name (checks b) scope))) ≡ (expr_is_sound items list scope && sound_with name (tests b) scope)
  each_agrees name list b scope =
      ok_then (new_check name scope) (λ u. then_ (value_check items list scope) (λ u. block_with name (checks b) scope))
      ∙ and_same (ok (new_check name scope)) (not (contains scope name)) (ok (then_ (value_check items list scope) (λ u. block_with name (checks b) scope))) (expr_is_sound items list scope && ok (block_with name (checks b) scope)) (new_agrees name scope)
      (ok_then (value_check items list scope) (λ u. block_with name (checks b) scope) ∙ ap (λ (c : Bool). c && ok (block_with name (checks b) scope)) (value_agrees list scope))
      ∙ and_swap (not (contains scope name)) (expr_is_sound items list scope) (ok (block_with name (checks b) scope))
      ∙ ap (λ (c : Bool). expr_is_sound items list scope && c) (with_agrees name b scope)

  try_agrees : (b : List (Shown P)) (name : List ℕ) (handler : List (Shown P)) (scope : Scope) → ok (then_ (block_check (checks b) scope) (λ u. then_ (new_check name scope) (λ u. block_with name (checks handler) scope))) ≡ (block_is_sound (tests b) scope && sound_with name (tests handler) scope)
  try_agrees b name handler scope =
      ok_then (block_check (checks b) scope) (λ u. then_ (new_check name scope) (λ u. block_with name (checks handler) scope))
      ∙ and_same (ok (block_check (checks b) scope)) (block_is_sound (tests b) scope) (ok (then_ (new_check name scope) (λ u. block_with name (checks handler) scope))) (sound_with name (tests handler) scope) (block_agrees b scope)
      (ok_then (new_check name scope) (λ u. block_with name (checks handler) scope) ∙ ap (λ (c : Bool). c && ok (block_with name (checks handler) scope)) (new_agrees name scope) ∙ with_agrees name handler scope)

  set_agrees : (name : List ℕ) (r : Rhs) (scope : Scope) → ok (then_ (set_check name scope) (λ u. rhs_check items body r scope)) ≡ (contains scope name && rhs_is_sound items body r scope)
  set_agrees name r scope =
      ok_then (set_check name scope) (λ u. rhs_check items body r scope)
      ∙ and_same (ok (set_check name scope)) (contains scope name) (ok (rhs_check items body r scope)) (rhs_is_sound items body r scope) (ok_needs (contains scope name) Unbound) (rhs_agrees r scope)

  node_agrees : (y : Stmt-F (Shown P)) (scope : Scope) → scope_of (statement_check items body (map-Stmt Stmt Binding (stmt_check items body) (map-Stmt (Shown P) Stmt (λ s. s.0) y)) scope) ≡ statement_binds items body (map-Stmt Stmt Binds (binds items body) (map-Stmt (Shown P) Stmt (λ s. s.0) y)) scope
  node_agrees (Stmt-F.Let name r) scope =
      let_by (contains scope name) (rhs_check items body r scope) (scope ++ name ∷ []) ∙ ap (λ (b : Bool). if b then with_new name scope else None) (rhs_agrees r scope)
  node_agrees (Stmt-F.Set name r) scope = leaves_if (λ s. then_ (set_check name s) (λ u. rhs_check items body r s)) scope _ (set_agrees name r scope)
  node_agrees (Stmt-F.Do a) scope = leaves_if (ask_check items body a) scope _ (ask_agrees a scope)
  node_agrees (Stmt-F.Put table key e) scope = leaves_if (rows_check items body table (pair_check items key e)) scope _ (rows_agree table key e scope)
  node_agrees (Stmt-F.Delete table key) scope = leaves_if (rows_check items body table (value_check items key)) scope _ (row_agrees table key scope)
  node_agrees (Stmt-F.If cond one None) scope =
      leaves_if (λ s. then_ (value_check items cond s) (λ u. then_ (block_check (checks one) s) (λ u. none))) scope _ (if_agrees cond one None none true scope refl)
  node_agrees (Stmt-F.If cond one (Some other)) scope =
      leaves_if (λ s. then_ (value_check items cond s) (λ u. then_ (block_check (checks one) s) (λ u. block_check (checks other) s))) scope _ (if_agrees cond one None (block_check (checks other) scope) (block_is_sound (tests other) scope) scope (block_agrees other scope))
  node_agrees (Stmt-F.While cond b) scope = leaves_if (λ s. then_ (value_check items cond s) (λ u. block_check (checks b) s)) scope _ (while_agrees cond b scope)
  node_agrees (Stmt-F.Each name list b) scope =
      leaves_if (λ s. then_ (new_check name s) (λ u. then_ (value_check items list s) (λ u. block_with name (checks b) s))) scope _ (each_agrees name list b scope)
  node_agrees (Stmt-F.Try b name handler) scope =
      leaves_if (λ s. then_ (block_check (checks b) s) (λ u. then_ (new_check name s) (λ u. block_with name (checks handler) s))) scope _ (try_agrees b name handler scope)
  node_agrees (Stmt-F.Return e) scope = leaves_if (value_check items e) scope _ (value_agrees e scope)
  node_agrees (Stmt-F.Fail e) scope = leaves_if (value_check items e) scope _ (value_agrees e scope)

  level : (y : Stmt-F (Shown P)) → P (roll-Stmt (map-Stmt (Shown P) Stmt (λ s. s.0) y))
  level y scope =
      let x = map-Stmt (Shown P) Stmt (λ s. s.0) y in
      ap scope_of (binding_roll items body x scope) ∙ node_agrees y scope ∙ sym (binds_roll items body x scope)

  -- a statement has no fault exactly where it is sound, and then it leaves the same scope
  pub stmt_agrees : (s : Stmt) (scope : Scope) → scope_of (stmt_check items body s scope) ≡ binds items body s scope
  stmt_agrees = by_levels P level

  stmts_agree : (ss : List Stmt) (scope : Scope) → scope_of (in_order (map (stmt_check items body) ss) scope) ≡ all_in_order (map (binds items body) ss) scope
  stmts_agree [] scope = refl
  stmts_agree (s ∷ ss) scope = goes_on (stmt_check items body s scope) (binds items body s scope) (in_order (map (stmt_check items body) ss)) (all_in_order (map (binds items body) ss)) (stmt_agrees s scope) (stmts_agree ss)

  pub body_agrees : (params : List (List ℕ)) (b : List Stmt) → ok (body_check items body params b) ≡ body_is_sound items body params b
  body_agrees params b = ok_block (in_order (map (stmt_check items body) b) params) ∙ ap (λ (o : Option Scope). is_some o) (stmts_agree b params)

-- all items may be called
pub value_whole : (items : List Item) (n : ℕ) (e : Expr) (scope : Scope) → n ≡ length items → expr_check (take n items) items e scope ≡ value_check items e scope
value_whole items n e scope same = ap (λ (xs : List Item). expr_check xs items e scope) (take_all n items (omega (arith, same)))

pub args_whole : (items : List Item) (n : ℕ) (es : List Expr) (scope : Scope) → n ≡ length items → each_check (map (expr_check (take n items) items) es) scope ≡ args_check items es scope
args_whole items n es scope same = ap (λ (xs : List Item). each_check (map (expr_check xs items) es) scope) (take_all n items (omega (arith, same)))
