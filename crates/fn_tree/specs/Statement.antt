-- What statements do, whatever they act on: a map with versions, or the number of the next ask.
use Rattle.fn_tree.specs.declared.expr.Expr.{Expr}
use Rattle.fn_tree.specs.declared.stmt.Ask.{Ask}
use Rattle.fn_tree.specs.declared.stmt.Rhs.{Rhs}
use Rattle.fn_tree.specs.declared.stmt.Stmt.{Stmt}
use Rattle.fn_tree.specs.declared.stmt.Stmt.TheFolds.{fold-Stmt}
use Rattle.fn_tree.specs.declared.stmt.Stmt.TheOpen.{Stmt-F}
use Rattle.r3_value.specs.declared.value.Val.{Val}
use Rattle.std.specs.Prelude.{ℕ, suc, Bool, List, [], length, map}
use Rattle.fn_tree.specs.declared.stmt.Ask.TheVariants as ask
use Rattle.fn_tree.specs.declared.stmt.Rhs.TheVariants as rhs
use Rattle.fn_tree.specs.Values.{bool_of, text_of, items_of}
use Rattle.fn_tree.specs.Sequences.{list_or_size}
use Rattle.fn_tree.specs.Evaluation.{Calls, values_onto}
use Rattle.fn_tree.specs.Expression.{evaluated}
pub use Rattle.fn_tree.specs.Ends.{At, Ends, Goes, Returns, Failed, Asks, Stuck, and_then, Effects, is_bound, assigned, bind, cut, is_caught, Act}
pub use Rattle.fn_tree.specs.Control.{ended, taken, text_or_type, bool_or_type, list_or_type, one_unit_less, with_unit, closed, in_order, block, block_with, chosen, turns, for_each, caught, block_or_nothing}

module _ {Q W : Type 0} (effects : Effects Q W) (calls : Calls) where
  abbrev pub value : Expr → At W → Ends Q W Val
  value e at = ended at (evaluated calls e at.env at.units at.cost)

  -- a condition, a list and a text
  abbrev pub condition : Expr → At W → Ends Q W Bool
  condition e at = and_then (value e at) (λ v. bool_or_type (bool_of v))

  abbrev pub list_value : Expr → At W → Ends Q W (List Val)
  list_value e at = and_then (value e at) (λ v. list_or_type (items_of v))

  abbrev pub text_value : Expr → At W → Ends Q W (List ℕ)
  text_value e at = and_then (value e at) (λ v. text_or_type (text_of v))

  -- the arguments of an ask, as one list value
  abbrev pub arguments : List Expr → At W → Ends Q W Val
  arguments es at =
      and_then (ended at (values_onto [] (map (evaluated calls) es) at.env at.units at.cost)) (λ vs. taken (list_or_size vs))

  abbrev pub asked : Ask → At W → Ends Q W Val
  asked (ask.Call name args) at = and_then (arguments args at) (effects.call name (length args))
  asked (ask.Spawn name args) at = and_then (arguments args at) (effects.spawn name (length args))
  asked (ask.Await id) at = and_then (text_value id at) effects.await

  abbrev pub given : Rhs → At W → Ends Q W Val
  given (rhs.Plain e) at = value e at
  given (rhs.Ask a) at = asked a at
  given (rhs.Get table key) at = and_then (value key at) (effects.get table)
  given (rhs.Scan table lo hi) at = and_then (value lo at) (λ l at. and_then (value hi at) (effects.scan table l))

  -- One statement, with what each inner statement does in its place.
  abbrev pub statement : Stmt-F (Act Q W) → Act Q W
  statement (Stmt-F.Let name r) at = and_then (given r at) (λ v at. Goes tt (bind name v at))
  statement (Stmt-F.Set name r) at = and_then (given r at) (λ v at. Goes tt (record at { env = assigned at.env name v }))
  statement (Stmt-F.Do a) at = and_then (asked a at) (λ v. Goes tt)
  statement (Stmt-F.Put table key e) at = and_then (value key at) (λ k at. and_then (value e at) (effects.put table k))
  statement (Stmt-F.Delete table key) at = and_then (value key at) (effects.delete table)
  statement (Stmt-F.If cond first second) at = and_then (condition cond at) (λ b. chosen b (block first) (block_or_nothing second))
  statement (Stmt-F.While cond body) at = turns (suc at.units) (condition cond) (block body) at
  statement (Stmt-F.Each name list body) at = and_then (list_value list at) (λ vs. for_each vs name body)
  statement (Stmt-F.Try body name handler) at = caught name handler (block body at)
  statement (Stmt-F.Return e) at = and_then (value e at) Returns
  statement (Stmt-F.Fail e) at = and_then (text_value e at) Failed

  -- what a statement does
  abbrev pub acted : Stmt → Act Q W
  acted = fold-Stmt (Act Q W) statement

  -- what a body does
  abbrev pub body_of : List Stmt → Act Q W
  body_of body = in_order (map acted body)
