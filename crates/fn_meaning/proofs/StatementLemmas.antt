-- What a statement does, one level at a time, and induction by levels.
use Rattle.std.proofs.Common.{◌≡◌, subst, ℕ, zero, suc, ◌<◌, ◌-◌, Bool, List, ap, sym, ◌∙◌, Option, Some, None, arith}
use Rattle.std.specs.Prelude.{map}
use Rattle.r3_value.specs.declared.value.Val.{Val}
use Rattle.fn_tree.specs.declared.expr.Expr.{Expr}
use Rattle.fn_tree.specs.declared.stmt.Ask.{Ask}
use Rattle.fn_tree.specs.declared.stmt.Rhs.{Rhs}
use Rattle.fn_tree.specs.declared.stmt.Stmt as variant
use Rattle.fn_tree.specs.declared.stmt.Stmt.TheVariants.{rolls-Let, rolls-Set, rolls-Do, rolls-Put, rolls-Delete, rolls-If, rolls-While, rolls-Each, rolls-Try, rolls-Return, rolls-Fail}
use Rattle.fn_tree.specs.declared.stmt.Stmt.{Stmt, roll-Stmt}
use Rattle.fn_tree.specs.declared.stmt.Stmt.TheOpen.{Stmt-F}
use Rattle.fn_tree.specs.declared.stmt.Stmt.TheFolds.{map-Stmt, fold-Stmt, fold-roll-Stmt, ind-Stmt}
use Rattle.fn_tree.specs.declared.program.Item.{Item}
use Rattle.fn_tree.specs.Soundness.{Scope, Body, Binds, statement_binds, binds, names_among}
use Rattle.fn_tree.specs.Expression.{Calls}
use Rattle.fn_tree.specs.Ends.{At, Ends, Goes, Returns, Failed, Effects, Act, and_then, assigned, bind}
use Rattle.fn_tree.specs.Control.{with_unit, block, chosen, turns, for_each, caught}
use Rattle.fn_tree.specs.Statement.{value, condition, list_value, text_value, asked, given, statement, acted}

-- a statement of which P is shown
abbrev pub Shown : (Stmt → Type 0) → Type 0
Shown P = (s : Stmt) × P s

-- what holds of a level whose inner statements have it holds of every statement
pub by_levels : (P : Stmt → Type 0) → ((y : Stmt-F (Shown P)) → P (roll-Stmt (map-Stmt (Shown P) Stmt (λ s. s.0) y))) → (s : Stmt) → P s
by_levels P step = ind-Stmt P (λ x y same. subst (λ z. P (roll-Stmt z)) same (step y))

module _ {Q W : Type 0} (effects : Effects Q W) (calls : Calls) where
  pub acted_roll : (x : Stmt-F Stmt) (at : At W) → acted effects calls (roll-Stmt x) at ≡ statement effects calls (map-Stmt Stmt (Act Q W) (acted effects calls) x) at
  acted_roll x at = ap (λ (a : Act Q W). a at) (fold-roll-Stmt (Act Q W) (statement effects calls) x)

  -- what each statement does, at the variant that a `match` names
  does : (x : Stmt-F Stmt) (s : Stmt) → roll-Stmt x ≡ s → (at : At W) → acted effects calls s at ≡ statement effects calls (map-Stmt Stmt (Act Q W) (acted effects calls) x) at
  does x s is at = ap (λ s. acted effects calls s at) (sym is) ∙ acted_roll x at

  pub acted_let : (name : List ℕ) (r : Rhs) (at : At W) → acted effects calls (variant.Let name r) at ≡ and_then (given effects calls r at) (λ v at. Goes tt (bind name v at))
  acted_let name r at = does (Stmt-F.Let name r) (variant.Let name r) (rolls-Let name r) at

  pub acted_set : (name : List ℕ) (r : Rhs) (at : At W) → acted effects calls (variant.Set name r) at ≡ and_then (given effects calls r at) (λ v at. Goes tt (record at { env = assigned at.env name v }))
  acted_set name r at = does (Stmt-F.Set name r) (variant.Set name r) (rolls-Set name r) at

  pub acted_do : (a : Ask) (at : At W) → acted effects calls (variant.Do a) at ≡ and_then (asked effects calls a at) (λ v. Goes tt)
  acted_do a at = does (Stmt-F.Do a) (variant.Do a) (rolls-Do a) at

  pub acted_put : (table : List ℕ) (key e : Expr) (at : At W) → acted effects calls (variant.Put table key e) at ≡ and_then (value effects calls key at) (λ k at. and_then (value effects calls e at) (effects.put table k))
  acted_put table key e at = does (Stmt-F.Put table key e) (variant.Put table key e) (rolls-Put table key e) at

  pub acted_delete : (table : List ℕ) (key : Expr) (at : At W) → acted effects calls (variant.Delete table key) at ≡ and_then (value effects calls key at) (effects.delete table)
  acted_delete table key at = does (Stmt-F.Delete table key) (variant.Delete table key) (rolls-Delete table key) at

  pub acted_if : (cond : Expr) (one : List Stmt) (at : At W) → acted effects calls (variant.If cond one None) at ≡ and_then (condition effects calls cond at) (λ b. chosen b (block (map (acted effects calls) one)) (Goes tt))
  acted_if cond one at = does (Stmt-F.If cond one None) (variant.If cond one None) (rolls-If cond one None) at

  pub acted_if_else : (cond : Expr) (one other : List Stmt) (at : At W) → acted effects calls (variant.If cond one (Some other)) at ≡ and_then (condition effects calls cond at) (λ b. chosen b (block (map (acted effects calls) one)) (block (map (acted effects calls) other)))
  acted_if_else cond one other at = does (Stmt-F.If cond one (Some other)) (variant.If cond one (Some other)) (rolls-If cond one (Some other)) at

  pub acted_while : (cond : Expr) (body : List Stmt) (at : At W) → acted effects calls (variant.While cond body) at ≡ turns (suc at.units) (condition effects calls cond) (block (map (acted effects calls) body)) at
  acted_while cond body at = does (Stmt-F.While cond body) (variant.While cond body) (rolls-While cond body) at

  pub acted_each : (name : List ℕ) (list : Expr) (body : List Stmt) (at : At W) → acted effects calls (variant.Each name list body) at ≡ and_then (list_value effects calls list at) (λ vs. for_each vs name (map (acted effects calls) body))
  acted_each name list body at = does (Stmt-F.Each name list body) (variant.Each name list body) (rolls-Each name list body) at

  pub acted_try : (body : List Stmt) (name : List ℕ) (handler : List Stmt) (at : At W) → acted effects calls (variant.Try body name handler) at ≡ caught name (map (acted effects calls) handler) (block (map (acted effects calls) body) at)
  acted_try body name handler at = does (Stmt-F.Try body name handler) (variant.Try body name handler) (rolls-Try body name handler) at

  pub acted_return : (e : Expr) (at : At W) → acted effects calls (variant.Return e) at ≡ and_then (value effects calls e at) Returns
  acted_return e at = does (Stmt-F.Return e) (variant.Return e) (rolls-Return e) at

  pub acted_fail : (e : Expr) (at : At W) → acted effects calls (variant.Fail e) at ≡ and_then (text_value effects calls e at) Failed
  acted_fail e at = does (Stmt-F.Fail e) (variant.Fail e) (rolls-Fail e) at

  -- a loop, one turn at a time
  pub turns_one : (n : ℕ) (test : At W → Ends Q W Bool) (body : Act Q W) (at : At W) → 0 < n → turns n test body at ≡ and_then (test at) (λ b. chosen b (with_unit (λ at. and_then (body at) (λ u. turns (n - 1) test body))) (Goes tt))
  turns_one zero test body at lt = absurd (omega arith)
  turns_one (suc n) test body at lt =
      let e : n ≡ suc n - 1 = omega arith in
      ap (λ m. and_then (test at) (λ b. chosen b (with_unit (λ at. and_then (body at) (λ u. turns m test body))) (Goes tt))) e

pub binds_roll : (items : List Item) (body : Body) (x : Stmt-F Stmt) (scope : Scope) → binds items body (roll-Stmt x) scope ≡ statement_binds items body (map-Stmt Stmt Binds (binds items body) x) scope
binds_roll items body x scope = ap (λ (b : Binds). b scope) (fold-roll-Stmt Binds (statement_binds items body) x)

pub names_roll : (x : Stmt-F Stmt) → fold-Stmt (List (List ℕ)) names_among (roll-Stmt x) ≡ names_among (map-Stmt Stmt (List (List ℕ)) (fold-Stmt (List (List ℕ)) names_among) x)
names_roll x = fold-roll-Stmt (List (List ℕ)) names_among x
