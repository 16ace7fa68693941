-- What holds of the world that a body acts on, where each effect keeps it, holds wherever the body ends or asks.
use Rattle.std.proofs.Common.{◌≡◌, subst, ℕ, zero, suc, Bool, true, false, List, [], ◌∷◌, Option, Some, None, sym}
use Rattle.std.specs.Prelude.{map, length, if◌then◌else◌}
use Rattle.r3_value.specs.declared.value.Val.{Val}
use Rattle.r3_value.specs.declared.value.Val.TheVariants.{Text}
use Rattle.r3_value.specs.declared.value.Outcome.{Outcome}
use Rattle.r3_value.specs.declared.value.Outcome.TheVariants.{Value, Failure}
use Rattle.fn_tree.specs.declared.expr.Expr.{Expr}
use Rattle.fn_tree.specs.declared.stmt.Ask.{Ask}
use Rattle.fn_tree.specs.declared.stmt.Ask.TheVariants as ask
use Rattle.fn_tree.specs.declared.stmt.Rhs.{Rhs}
use Rattle.fn_tree.specs.declared.stmt.Rhs.TheVariants as rhs
use Rattle.fn_tree.specs.declared.stmt.Stmt.{Stmt}
use Rattle.fn_tree.specs.declared.stmt.Stmt.TheOpen.{Stmt-F}
use Rattle.fn_tree.specs.declared.stmt.Stmt.TheFolds.{map-Stmt}
use Rattle.fn_tree.specs.Values.{bool_of, text_of, items_of}
use Rattle.fn_tree.specs.Sequences.{list_or_size}
use Rattle.fn_tree.specs.Expression.{End, Gives, Fails, Stuck as NoEnd, Calls, evaluated, values_onto}
use Rattle.fn_tree.specs.Statement.{At, Ends, Goes, Returns, Failed, Asks, Stuck, Effects, Act, and_then, bind, is_caught, ended, taken, text_or_type, bool_or_type, list_or_type, one_unit_less, with_unit, closed, in_order, block, block_with, chosen, turns, for_each, caught, value, condition, list_value, text_value, arguments, asked, given, statement, acted, body_of}
use Rattle.fn_meaning.proofs.StatementLemmas.{Shown, by_levels, acted_roll}

abbrev pub Holds : {Q W A : Type 0} → (W → Type 0) → Ends Q W A → Type 0
Holds I (Goes a at) = I at.world
Holds I (Returns v at) = I at.world
Holds I (Failed word at) = I at.world
Holds I (Asks q at next) = (o : Outcome) → Holds I (next o)
Holds I Stuck = Unit {0}

-- a part keeps it
abbrev pub Part : {Q W A : Type 0} → (W → Type 0) → (At W → Ends Q W A) → Type 0
Part {W = W} I f = (at : At W) → I at.world → Holds I (f at)

pub holds_on : {Q W A B : Type 0} (I : W → Type 0) (d : Ends Q W A) (go : A → At W → Ends Q W B) → Holds I d → ((a : A) → Part I (go a)) → Holds I (and_then d go)
holds_on I (Goes a at) go h f = f a at h
holds_on I (Returns v at) go h f = h
holds_on I (Failed word at) go h f = h
holds_on I (Asks q at next) go h f = λ o. holds_on I (next o) go (h o) f
holds_on I Stuck go h f = tt

pub holds_if : {Q W A : Type 0} (I : W → Type 0) (b : Bool) (d e : Ends Q W A) → (b ≡ true → Holds I d) → (b ≡ false → Holds I e) → Holds I (if b then d else e)
holds_if I true d e h g = h refl'
  where
    refl' : true ≡ true
    refl' = λ i. true
holds_if I false d e h g = g refl'
  where
    refl' : false ≡ false
    refl' = λ i. false

module _ (Q : Type 0) {W : Type 0} (I : W → Type 0) where
  ended_holds : {A : Type 0} (at : At W) (d : End A) → I at.world → Holds {Q = Q} I (ended at d)
  ended_holds at (Gives a units cost) h = h
  ended_holds at (Fails word units cost) h = h
  ended_holds at NoEnd h = tt

  pub taken_holds : (o : Outcome) → Part {Q = Q} I (taken o)
  taken_holds (Value v) at h = h
  taken_holds (Failure word) at h = h

  text_holds : (o : Option (List ℕ)) → Part {Q = Q} I (text_or_type o)
  text_holds (Some t) at h = h
  text_holds None at h = h

  bool_holds : (o : Option Bool) → Part {Q = Q} I (bool_or_type o)
  bool_holds (Some t) at h = h
  bool_holds None at h = h

  list_holds : (o : Option (List Val)) → Part {Q = Q} I (list_or_type o)
  list_holds (Some t) at h = h
  list_holds None at h = h

module _ {Q W : Type 0} (I : W → Type 0) where
  less_holds : (n : ℕ) (go : Act Q W) (at : At W) → Part I go → I at.world → Holds I (one_unit_less n at go)
  less_holds zero go at h i = i
  less_holds (suc n) go at h i = h (record at { units = n }) i

  unit_holds : (go : Act Q W) → Part I go → Part I (with_unit go)
  unit_holds go h at i = less_holds at.units go at h i

  chosen_holds : (b : Bool) (one two : Act Q W) → Part I one → Part I two → Part I (chosen b one two)
  chosen_holds true one two h g = h
  chosen_holds false one two h g = g

  closed_holds : (n : ℕ) (d : Ends Q W (Unit {0})) → Holds I d → Holds I (closed n d)
  closed_holds n (Goes a at) h = h
  closed_holds n (Returns v at) h = h
  closed_holds n (Failed word at) h = h
  closed_holds n (Asks q at next) h = λ o. closed_holds n (next o) (h o)
  closed_holds n Stuck h = tt

  abbrev pub AllParts : List (Act Q W) → Type 0
  AllParts [] = Unit {0}
  AllParts (a ∷ rest) = Part I a × AllParts rest

  order_holds : (body : List (Act Q W)) → AllParts body → Part I (in_order body)
  order_holds [] h = λ at i. i
  order_holds (s ∷ rest) h = λ at i. holds_on I (s at) (λ u. in_order rest) (h.0 at i) (λ u. order_holds rest h.1)

  block_holds : (body : List (Act Q W)) → AllParts body → Part I (block body)
  block_holds body h at i = closed_holds (length at.env) (in_order body at) (order_holds body h at i)

  block_with_holds : (name : List ℕ) (v : Val) (body : List (Act Q W)) → AllParts body → Part I (block_with name v body)
  block_with_holds name v body h at i = closed_holds (length at.env) (in_order body (bind name v at)) (order_holds body h (bind name v at) i)

  turns_hold : (n : ℕ) (test : At W → Ends Q W Bool) (body : Act Q W) → Part I test → Part I body → Part I (turns n test body)
  turns_hold zero test body ht hb = λ at i. i
  turns_hold (suc n) test body ht hb = λ at i.
      holds_on I (test at) _ (ht at i) (λ b. chosen_holds b _ (Goes tt) (unit_holds _ (λ at i. holds_on I (body at) _ (hb at i) (λ u. turns_hold n test body ht hb))) (λ at i. i))

  each_holds : (vs : List Val) (name : List ℕ) (body : List (Act Q W)) → AllParts body → Part I (for_each vs name body)
  each_holds [] name body h = λ at i. i
  each_holds (v ∷ vs) name body h = λ at i. holds_on I (with_unit (block_with name v body) at) _ (unit_holds (block_with name v body) (block_with_holds name v body h) at i) (λ u. each_holds vs name body h)

  caught_holds : (name : List ℕ) (handler : List (Act Q W)) → AllParts handler → (d : Ends Q W (Unit {0})) → Holds I d → Holds I (caught name handler d)
  caught_holds name handler h (Goes a at) i = i
  caught_holds name handler h (Returns v at) i = i
  caught_holds name handler h (Failed word at) i = holds_if I (is_caught word) _ _ (λ t. block_with_holds name (Text word) handler h at i) (λ f. i)
  caught_holds name handler h (Asks q at next) i = λ o. caught_holds name handler h (next o) (i o)
  caught_holds name handler h Stuck i = tt

-- each effect keeps it
pub record EffectsKeep {Q W : Type 0} (I : W → Type 0) (effects : Effects Q W) : Type 0 where
  pub get : (table : List ℕ) (k : Val) → Part I (effects.get table k)
  pub scan : (table : List ℕ) (lo hi : Val) → Part I (effects.scan table lo hi)
  pub put : (table : List ℕ) (k v : Val) → Part I (effects.put table k v)
  pub delete : (table : List ℕ) (k : Val) → Part I (effects.delete table k)
  pub call : (name : List ℕ) (n : ℕ) (args : Val) → Part I (effects.call name n args)
  pub spawn : (name : List ℕ) (n : ℕ) (args : Val) → Part I (effects.spawn name n args)
  pub await : (id : List ℕ) → Part I (effects.await id)

module _ {Q W : Type 0} (I : W → Type 0) (effects : Effects Q W) (calls : Calls) (keep : EffectsKeep I effects) where
  value_holds : (e : Expr) → Part I (value effects calls e)
  value_holds e at i = ended_holds Q I at (evaluated calls e at.env at.units at.cost) i

  condition_holds : (e : Expr) → Part I (condition effects calls e)
  condition_holds e at i = holds_on I (value effects calls e at) _ (value_holds e at i) (λ v. bool_holds Q I (bool_of v))

  list_value_holds : (e : Expr) → Part I (list_value effects calls e)
  list_value_holds e at i = holds_on I (value effects calls e at) _ (value_holds e at i) (λ v. list_holds Q I (items_of v))

  text_value_holds : (e : Expr) → Part I (text_value effects calls e)
  text_value_holds e at i = holds_on I (value effects calls e at) _ (value_holds e at i) (λ v. text_holds Q I (text_of v))

  arguments_hold : (es : List Expr) → Part I (arguments effects calls es)
  arguments_hold es at i = holds_on I (ended at (values_onto [] (map (evaluated calls) es) at.env at.units at.cost)) _ (ended_holds Q I at _ i) (λ vs. taken_holds Q I (list_or_size vs))

  asked_holds : (a : Ask) → Part I (asked effects calls a)
  asked_holds (ask.Call name args) at i = holds_on I (arguments effects calls args at) _ (arguments_hold args at i) (λ vs. keep.call name (length args) vs)
  asked_holds (ask.Spawn name args) at i = holds_on I (arguments effects calls args at) _ (arguments_hold args at i) (λ vs. keep.spawn name (length args) vs)
  asked_holds (ask.Await id) at i = holds_on I (text_value effects calls id at) _ (text_value_holds id at i) keep.await

  given_holds : (r : Rhs) → Part I (given effects calls r)
  given_holds (rhs.Plain e) at i = value_holds e at i
  given_holds (rhs.Ask a) at i = asked_holds a at i
  given_holds (rhs.Get table key) at i = holds_on I (value effects calls key at) _ (value_holds key at i) (keep.get table)
  given_holds (rhs.Scan table lo hi) at i = holds_on I (value effects calls lo at) _ (value_holds lo at i) (λ l at i. holds_on I (value effects calls hi at) _ (value_holds hi at i) (keep.scan table l))

  abbrev P : Stmt → Type 0
  P s = Part I (acted effects calls s)

  abbrev acts : List (Shown P) → List (Act Q W)
  acts ss = map (acted effects calls) (map (λ s. s.0) ss)

  acts_hold : (ss : List (Shown P)) → AllParts I (acts ss)
  acts_hold [] = tt
  acts_hold (s ∷ ss) = (s.1, acts_hold ss)

  statement_holds : (y : Stmt-F (Shown P)) → Part I (statement effects calls (map-Stmt Stmt (Act Q W) (acted effects calls) (map-Stmt (Shown P) Stmt (λ s. s.0) y)))
  statement_holds (Stmt-F.Let name r) = λ at i. holds_on I (given effects calls r at) _ (given_holds r at i) (λ v at i. i)
  statement_holds (Stmt-F.Set name r) = λ at i. holds_on I (given effects calls r at) _ (given_holds r at i) (λ v at i. i)
  statement_holds (Stmt-F.Do a) = λ at i. holds_on I (asked effects calls a at) _ (asked_holds a at i) (λ v at i. i)
  statement_holds (Stmt-F.Put table key e) = λ at i. holds_on I (value effects calls key at) _ (value_holds key at i) (λ k at i. holds_on I (value effects calls e at) _ (value_holds e at i) (keep.put table k))
  statement_holds (Stmt-F.Delete table key) = λ at i. holds_on I (value effects calls key at) _ (value_holds key at i) (keep.delete table)
  statement_holds (Stmt-F.If cond one None) = λ at i. holds_on I (condition effects calls cond at) _ (condition_holds cond at i) (λ b. chosen_holds I b (block (acts one)) (Goes tt) (block_holds I (acts one) (acts_hold one)) (λ at i. i))
  statement_holds (Stmt-F.If cond one (Some two)) = λ at i. holds_on I (condition effects calls cond at) _ (condition_holds cond at i) (λ b. chosen_holds I b (block (acts one)) (block (acts two)) (block_holds I (acts one) (acts_hold one)) (block_holds I (acts two) (acts_hold two)))
  statement_holds (Stmt-F.While cond b) = λ at i. turns_hold I (suc at.units) (condition effects calls cond) (block (acts b)) (condition_holds cond) (block_holds I (acts b) (acts_hold b)) at i
  statement_holds (Stmt-F.Each name list b) = λ at i. holds_on I (list_value effects calls list at) _ (list_value_holds list at i) (λ vs. each_holds I vs name (acts b) (acts_hold b))
  statement_holds (Stmt-F.Try b name handler) = λ at i. caught_holds I name (acts handler) (acts_hold handler) (block (acts b) at) (block_holds I (acts b) (acts_hold b) at i)
  statement_holds (Stmt-F.Return e) = λ at i. holds_on I (value effects calls e at) _ (value_holds e at i) (λ v at i. i)
  statement_holds (Stmt-F.Fail e) = λ at i. holds_on I (text_value effects calls e at) _ (text_value_holds e at i) (λ t at i. i)

  act_holds : (s : Stmt) → P s
  act_holds = by_levels P (λ y at i. subst (Holds {Q = Q} I) (sym (acted_roll effects calls (map-Stmt (Shown P) Stmt (λ s. s.0) y) at)) (statement_holds y at i))

  all_acts_hold : (b : List Stmt) → AllParts I (map (acted effects calls) b)
  all_acts_hold [] = tt
  all_acts_hold (s ∷ b) = (act_holds s, all_acts_hold b)

  pub body_holds : (b : List Stmt) → Part I (body_of effects calls b)
  body_holds b = order_holds I (map (acted effects calls) b) (all_acts_hold b)
