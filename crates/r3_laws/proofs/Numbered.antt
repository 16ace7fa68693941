-- The asks of a workflow's body are numbered one after another, whatever they are answered.
use Rattle.std.proofs.Common.{◌≡◌, ◌<◌, subst, ℕ, zero, suc, Bool, true, false, List, [], ◌∷◌, Option, Some, None, refl, sym}
use Rattle.std.specs.Prelude.{map, length, if◌then◌else◌, nat_lt}
use Rattle.std.proofs.lemmas.Bool.{ltb-true}
use Rattle.r3_value.specs.declared.value.Val.{Val}
use Rattle.r3_value.specs.declared.value.Val.TheVariants.{Text}
use Rattle.r3_value.specs.declared.value.Outcome.{Outcome}
use Rattle.r3_value.specs.declared.value.Outcome.TheVariants.{Value, Failure}
use Rattle.fn_tree.specs.declared.expr.Expr.{Expr}
use Rattle.fn_tree.specs.declared.flow.AskKind.{AskKind}
use Rattle.fn_tree.specs.declared.flow.AskKind.TheVariants as kinds
use Rattle.fn_tree.specs.declared.flow.Request.{Request}
use Rattle.fn_tree.specs.declared.program.Item.{Item}
use Rattle.fn_tree.specs.declared.stmt.Ask.{Ask}
use Rattle.fn_tree.specs.declared.stmt.Ask.TheVariants as ask
use Rattle.fn_tree.specs.declared.stmt.Rhs.{Rhs}
use Rattle.fn_tree.specs.declared.stmt.Rhs.TheVariants as rhs
use Rattle.fn_tree.specs.declared.stmt.Stmt.{Stmt}
use Rattle.fn_tree.specs.declared.stmt.Stmt.TheOpen.{Stmt-F}
use Rattle.fn_tree.specs.declared.stmt.Stmt.TheFolds.{map-Stmt}
use Rattle.fn_tree.specs.Values.{bool_of, text_of, items_of}
use Rattle.fn_tree.specs.Sequences.{list_or_size}
use Rattle.fn_tree.specs.Expression.{End, Gives, Fails, Stuck as NoEnd, Calls, evaluated, values_onto}
use Rattle.fn_tree.specs.Statement.{Goes, Returns, Failed, Asks, Stuck, Act, and_then, bind, is_caught, ended, taken, text_or_type, bool_or_type, list_or_type, one_unit_less, with_unit, closed, in_order, block, block_with, chosen, turns, for_each, caught, value, condition, list_value, text_value, arguments, asked, given, statement, acted, body_of}
use Rattle.fn_tree.specs.Declarations.{called, spawned}
use Rattle.fn_tree.specs.Flow.{Place, Left, on_asks, ask_or_stuck}
use Rattle.fn_tree.specs.Flow as flows
use Rattle.fn_meaning.proofs.StatementLemmas.{Shown, by_levels, acted_roll}

-- the next ask has this number, and each later one the number after
abbrev pub Numbered : {A : Type 0} → ℕ → Left A → Type 0
Numbered n (Goes a at) = at.world ≡ n
Numbered n (Returns v at) = Unit {0}
Numbered n (Failed word at) = at.world ≡ n
Numbered n (Asks q at next) = (q.n ≡ n) × (n < 1000) × ((o : Outcome) → Numbered (suc n) (next o))
Numbered n Stuck = Unit {0}

-- a part goes on with the number at which it stands
abbrev pub Part : {A : Type 0} → (Place → Left A) → Type 0
Part f = (n : ℕ) (at : Place) → at.world ≡ n → Numbered n (f at)

abbrev Action : Type 0
Action = Act Request ℕ

on_all : {A B : Type 0} (n : ℕ) (d : Left A) (go : A → Place → Left B) → Numbered n d → ((a : A) → Part (go a)) → Numbered n (and_then d go)
on_all n (Goes a at) go h f = f a n at h
on_all n (Returns v at) go h f = tt
on_all n (Failed word at) go h f = h
on_all n (Asks q at next) go h f = (h.0, h.1, λ o. on_all (suc n) (next o) go (h.2 o) f)
on_all n Stuck go h f = tt

by_if : {A : Type 0} (n : ℕ) (b : Bool) (d e : Left A) → (b ≡ true → Numbered n d) → (b ≡ false → Numbered n e) → Numbered n (if b then d else e)
by_if n true d e h g = h refl
by_if n false d e h g = g refl

ended_all : {A : Type 0} (n : ℕ) (at : Place) (d : End A) → at.world ≡ n → Numbered n (ended at d)
ended_all n at (Gives a units cost) h = h
ended_all n at (Fails word units cost) h = h
ended_all n at NoEnd h = tt

taken_all : (o : Outcome) → Part (taken o)
taken_all (Value v) n at h = h
taken_all (Failure word) n at h = h

text_all : (o : Option (List ℕ)) → Part (text_or_type o)
text_all (Some t) n at h = h
text_all None n at h = h

bool_all : (o : Option Bool) → Part (bool_or_type o)
bool_all (Some t) n at h = h
bool_all None n at h = h

list_all : (o : Option (List Val)) → Part (list_or_type o)
list_all (Some t) n at h = h
list_all None n at h = h

less_all : (units : ℕ) (go : Action) (n : ℕ) (at : Place) → Part go → at.world ≡ n → Numbered n (one_unit_less units at go)
less_all zero go n at h i = i
less_all (suc units) go n at h i = h n (record at { units = units }) i

unit_all : (go : Action) → Part go → Part (with_unit go)
unit_all go h n at i = less_all at.units go n at h i

chosen_all : (b : Bool) (one two : Action) → Part one → Part two → Part (chosen b one two)
chosen_all true one two h g = h
chosen_all false one two h g = g

closed_all : (n k : ℕ) (d : Left (Unit {0})) → Numbered n d → Numbered n (closed k d)
closed_all n k (Goes a at) h = h
closed_all n k (Returns v at) h = tt
closed_all n k (Failed word at) h = h
closed_all n k (Asks q at next) h = (h.0, h.1, λ o. closed_all (suc n) k (next o) (h.2 o))
closed_all n k Stuck h = tt

abbrev AllParts : List Action → Type 0
AllParts [] = Unit {0}
AllParts (a ∷ rest) = Part a × AllParts rest

order_all : (body : List Action) → AllParts body → Part (in_order body)
order_all [] h = λ n at i. i
order_all (s ∷ rest) h = λ n at i. on_all n (s at) (λ u. in_order rest) (h.0 n at i) (λ u. order_all rest h.1)

block_all : (body : List Action) → AllParts body → Part (block body)
block_all body h n at i = closed_all n (length at.env) (in_order body at) (order_all body h n at i)

block_with_all : (name : List ℕ) (v : Val) (body : List Action) → AllParts body → Part (block_with name v body)
block_with_all name v body h n at i = closed_all n (length at.env) (in_order body (bind name v at)) (order_all body h n (bind name v at) i)

turns_all : (most : ℕ) (test : Place → Left Bool) (body : Action) → Part test → Part body → Part (turns most test body)
turns_all zero test body ht hb = λ n at i. i
turns_all (suc most) test body ht hb = λ n at i.
    on_all n (test at) _ (ht n at i) (λ b. chosen_all b _ (Goes tt) (unit_all _ (λ n at i. on_all n (body at) _ (hb n at i) (λ u. turns_all most test body ht hb))) (λ n at i. i))

each_all : (vs : List Val) (name : List ℕ) (body : List Action) → AllParts body → Part (for_each vs name body)
each_all [] name body h = λ n at i. i
each_all (v ∷ vs) name body h = λ n at i. on_all n (with_unit (block_with name v body) at) _ (unit_all (block_with name v body) (block_with_all name v body h) n at i) (λ u. each_all vs name body h)

caught_all : (name : List ℕ) (handler : List Action) → AllParts handler → (n : ℕ) (d : Left (Unit {0})) → Numbered n d → Numbered n (caught name handler d)
caught_all name handler h n (Goes a at) i = i
caught_all name handler h n (Returns v at) i = tt
caught_all name handler h n (Failed word at) i = by_if n (is_caught word) _ _ (λ t. block_with_all name (Text word) handler h n at i) (λ f. i)
caught_all name handler h n (Asks q at next) i = (i.0, i.1, λ o. caught_all name handler h (suc n) (next o) (i.2 o))
caught_all name handler h n Stuck i = tt

module _ (items : List Item) (calls : Calls) where
  ask_all : (k : AskKind) (name : List ℕ) (args : Val) → Part (flows.ask k name args)
  ask_all k name args n at i =
      by_if n (nat_lt at.world 1000) _ _
      (λ few. let less : at.world < 1000 = ltb-true at.world 1000 few in (i, subst (λ (m : ℕ). m < 1000) i less, λ o. taken_all o (suc n) (record at { world = suc at.world }) (λ j. suc (i j))))
      (λ many. i)

  ask_or_stuck_all : (k : Option AskKind) (name : List ℕ) (args : Val) → Part (ask_or_stuck k name args)
  ask_or_stuck_all (Some k) name args n at i = ask_all k name args n at i
  ask_or_stuck_all None name args n at i = tt

  value_all : (e : Expr) → Part (value (on_asks items) calls e)
  value_all e n at i = ended_all n at (evaluated calls e at.env at.units at.cost) i

  condition_all : (e : Expr) → Part (condition (on_asks items) calls e)
  condition_all e n at i = on_all n (value (on_asks items) calls e at) _ (value_all e n at i) (λ v. bool_all (bool_of v))

  list_value_all : (e : Expr) → Part (list_value (on_asks items) calls e)
  list_value_all e n at i = on_all n (value (on_asks items) calls e at) _ (value_all e n at i) (λ v. list_all (items_of v))

  text_value_all : (e : Expr) → Part (text_value (on_asks items) calls e)
  text_value_all e n at i = on_all n (value (on_asks items) calls e at) _ (value_all e n at i) (λ v. text_all (text_of v))

  arguments_all : (es : List Expr) → Part (arguments (on_asks items) calls es)
  arguments_all es n at i = on_all n (ended at (values_onto [] (map (evaluated calls) es) at.env at.units at.cost)) _ (ended_all n at _ i) (λ vs. taken_all (list_or_size vs))

  asked_all : (a : Ask) → Part (asked (on_asks items) calls a)
  asked_all (ask.Call name args) n at i = on_all n (arguments (on_asks items) calls args at) _ (arguments_all args n at i) (λ vs. ask_or_stuck_all (called items name (length args)) name vs)
  asked_all (ask.Spawn name args) n at i = on_all n (arguments (on_asks items) calls args at) _ (arguments_all args n at i) (λ vs. ask_or_stuck_all (spawned items name (length args)) name vs)
  asked_all (ask.Await id) n at i = on_all n (text_value (on_asks items) calls id at) _ (text_value_all id n at i) (λ t. ask_all kinds.Await _ (Text t))

  given_all : (r : Rhs) → Part (given (on_asks items) calls r)
  given_all (rhs.Plain e) n at i = value_all e n at i
  given_all (rhs.Ask a) n at i = asked_all a n at i
  given_all (rhs.Get table key) n at i = on_all n (value (on_asks items) calls key at) _ (value_all key n at i) (λ k n at i. tt)
  given_all (rhs.Scan table lo hi) n at i = on_all n (value (on_asks items) calls lo at) _ (value_all lo n at i) (λ l n at i. on_all n (value (on_asks items) calls hi at) _ (value_all hi n at i) (λ k n at i. tt))

  abbrev P : Stmt → Type 0
  P s = Part (acted (on_asks items) calls s)

  abbrev acts : List (Shown P) → List Action
  acts ss = map (acted (on_asks items) calls) (map (λ s. s.0) ss)

  acts_all : (ss : List (Shown P)) → AllParts (acts ss)
  acts_all [] = tt
  acts_all (s ∷ ss) = (s.1, acts_all ss)

  statement_all : (y : Stmt-F (Shown P)) → Part (statement (on_asks items) calls (map-Stmt Stmt Action (acted (on_asks items) calls) (map-Stmt (Shown P) Stmt (λ s. s.0) y)))
  statement_all (Stmt-F.Let name r) = λ n at i. on_all n (given (on_asks items) calls r at) _ (given_all r n at i) (λ v n at i. i)
  statement_all (Stmt-F.Set name r) = λ n at i. on_all n (given (on_asks items) calls r at) _ (given_all r n at i) (λ v n at i. i)
  statement_all (Stmt-F.Do a) = λ n at i. on_all n (asked (on_asks items) calls a at) _ (asked_all a n at i) (λ v n at i. i)
  statement_all (Stmt-F.Put table key e) = λ n at i. on_all n (value (on_asks items) calls key at) _ (value_all key n at i) (λ k n at i. on_all n (value (on_asks items) calls e at) _ (value_all e n at i) (λ v n at i. tt))
  statement_all (Stmt-F.Delete table key) = λ n at i. on_all n (value (on_asks items) calls key at) _ (value_all key n at i) (λ k n at i. tt)
  statement_all (Stmt-F.If cond one None) = λ n at i. on_all n (condition (on_asks items) calls cond at) _ (condition_all cond n at i) (λ b. chosen_all b (block (acts one)) (Goes tt) (block_all (acts one) (acts_all one)) (λ n at i. i))
  statement_all (Stmt-F.If cond one (Some two)) = λ n at i. on_all n (condition (on_asks items) calls cond at) _ (condition_all cond n at i) (λ b. chosen_all b (block (acts one)) (block (acts two)) (block_all (acts one) (acts_all one)) (block_all (acts two) (acts_all two)))
  statement_all (Stmt-F.While cond b) = λ n at i. turns_all (suc at.units) (condition (on_asks items) calls cond) (block (acts b)) (condition_all cond) (block_all (acts b) (acts_all b)) n at i
  statement_all (Stmt-F.Each name list b) = λ n at i. on_all n (list_value (on_asks items) calls list at) _ (list_value_all list n at i) (λ vs. each_all vs name (acts b) (acts_all b))
  statement_all (Stmt-F.Try b name handler) = λ n at i. caught_all name (acts handler) (acts_all handler) n (block (acts b) at) (block_all (acts b) (acts_all b) n at i)
  statement_all (Stmt-F.Return e) = λ n at i. on_all n (value (on_asks items) calls e at) _ (value_all e n at i) (λ v n at i. tt)
  statement_all (Stmt-F.Fail e) = λ n at i. on_all n (text_value (on_asks items) calls e at) _ (text_value_all e n at i) (λ t n at i. i)

  act_all : (s : Stmt) → P s
  act_all = by_levels P (λ y n at i. subst (λ (d : Left (Unit {0})). Numbered n d) (sym (acted_roll (on_asks items) calls (map-Stmt (Shown P) Stmt (λ s. s.0) y) at)) (statement_all y n at i))

  all_acts : (b : List Stmt) → AllParts (map (acted (on_asks items) calls) b)
  all_acts [] = tt
  all_acts (s ∷ b) = (act_all s, all_acts b)

  pub body-numbered : (b : List Stmt) → Part (body_of (on_asks items) calls b)
  body-numbered b = order_all (map (acted (on_asks items) calls) b) (all_acts b)
