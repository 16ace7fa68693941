-- A statement from a later count.
use Rattle.std.proofs.Common.{◌≡◌, ℕ, zero, suc, Bool, true, false, List, [], ◌∷◌, Option, Some, None, ap, sym, ◌∙◌, refl}
use Rattle.std.specs.Prelude.{map, length, if◌then◌else◌}
use Rattle.r3_value.specs.declared.value.Val.{Val}
use Rattle.r3_value.specs.declared.value.Val.TheVariants.{Text}
use Rattle.r3_value.specs.declared.value.Outcome.{Outcome}
use Rattle.r3_value.specs.declared.value.Outcome.TheVariants.{Value, Failure}
use Rattle.fn_tree.specs.declared.expr.Expr.{Expr}
use Rattle.fn_tree.specs.declared.stmt.Ask.{Ask}
use Rattle.fn_tree.specs.declared.stmt.Ask.TheVariants as ask
use Rattle.fn_tree.specs.declared.stmt.Rhs.{Rhs}
use Rattle.fn_tree.specs.declared.stmt.Rhs.TheVariants as rhs
use Rattle.fn_tree.specs.declared.stmt.Stmt.{Stmt, roll-Stmt}
use Rattle.fn_tree.specs.declared.stmt.Stmt.TheOpen.{Stmt-F}
use Rattle.fn_tree.specs.declared.stmt.Stmt.TheFolds.{map-Stmt}
use Rattle.fn_tree.specs.Values.{bool_of, text_of, items_of}
use Rattle.fn_tree.specs.Sequences.{list_or_size}
use Rattle.fn_tree.specs.Expression.{End, Gives, Fails, Stuck as NoEnd, Calls, evaluated, values_onto}
use Rattle.fn_tree.specs.Statement.{At, Ends, Goes, Returns, Failed, Asks, Stuck, Effects, Act, and_then, assigned, bind, is_caught, ended, taken, text_or_type, bool_or_type, list_or_type, one_unit_less, with_unit, closed, in_order, block, block_with, chosen, turns, for_each, caught, value, condition, list_value, text_value, arguments, asked, given, statement, acted, body_of}
use Rattle.fn_tree.specs.Cost.{raised, later, raised_ends}
use Rattle.fn_meaning.proofs.ExpressionCost.{CallsShift, expression_shifts, AllShift, values_shift}
use Rattle.fn_meaning.proofs.StatementLemmas.{Shown, by_levels, acted_roll}

-- from a later count it is the same with the count raised
abbrev pub Shifts : {Q W A : Type 0} → (At W → Ends Q W A) → Type 0
Shifts {W = W} go = (at : At W) (k : ℕ) → go (later k at) ≡ raised_ends k (go at)

pub after_raised : {Q W A B : Type 0} (k : ℕ) (d : Ends Q W A) (go : A → At W → Ends Q W B) → ((a : A) → Shifts (go a)) → and_then (raised_ends k d) go ≡ raised_ends k (and_then d go)
after_raised k (Goes a at) go h = h a at k
after_raised k (Returns v at) go h = refl
after_raised k (Failed word at) go h = refl
after_raised k (Asks q at next) go h = λ i. Asks q (later k at) (λ o. after_raised k (next o) go h i)
after_raised k Stuck go h = refl

-- a part, and what is done with what it gives
pub and_then_shifts : {Q W A B : Type 0} (part : At W → Ends Q W A) (go : A → At W → Ends Q W B) → Shifts part → ((a : A) → Shifts (go a)) → Shifts (λ at. and_then (part at) go)
and_then_shifts part go hp hgo at k = ap (λ d. and_then d go) (hp at k) ∙ after_raised k (part at) go hgo

module _ {Q W : Type 0} where
  pub taken_shifts : (o : Outcome) → Shifts {Q = Q} {W = W} (taken o)
  taken_shifts (Value v) at k = refl
  taken_shifts (Failure word) at k = refl

  ended_raised : {A : Type 0} (at : At W) (k : ℕ) (d : End A) → ended {Q = Q} (later k at) (raised k d) ≡ raised_ends k (ended at d)
  ended_raised at k (Gives a units cost) = refl
  ended_raised at k (Fails word units cost) = refl
  ended_raised at k NoEnd = refl

  text_shifts : (o : Option (List ℕ)) → Shifts {Q = Q} {W = W} (text_or_type o)
  text_shifts (Some t) at k = refl
  text_shifts None at k = refl

  bool_shifts : (o : Option Bool) → Shifts {Q = Q} {W = W} (bool_or_type o)
  bool_shifts (Some b) at k = refl
  bool_shifts None at k = refl

  list_shifts : (o : Option (List Val)) → Shifts {Q = Q} {W = W} (list_or_type o)
  list_shifts (Some vs) at k = refl
  list_shifts None at k = refl

  less_shifts : (n : ℕ) (go : Act Q W) → Shifts go → (at : At W) (k : ℕ) → one_unit_less n (later k at) go ≡ raised_ends k (one_unit_less n at go)
  less_shifts zero go h at k = refl
  less_shifts (suc n) go h at k = h (record at { units = n }) k

  unit_shifts : (go : Act Q W) → Shifts go → Shifts (with_unit go)
  unit_shifts go h at k = less_shifts at.units go h at k

  closed_raised : (n k : ℕ) (d : Ends Q W (Unit {0})) → closed n (raised_ends k d) ≡ raised_ends k (closed n d)
  closed_raised n k (Goes a at) = refl
  closed_raised n k (Returns v at) = refl
  closed_raised n k (Failed word at) = refl
  closed_raised n k (Asks q at next) = λ i. Asks q (later k at) (λ o. closed_raised n k (next o) i)
  closed_raised n k Stuck = refl

  -- each of several acts
  abbrev pub AllShift' : List (Act Q W) → Type 0
  AllShift' [] = Unit {0}
  AllShift' (a ∷ as') = Shifts a × AllShift' as'

  order_shifts : (body : List (Act Q W)) → AllShift' body → Shifts (in_order body)
  order_shifts [] h = λ at k. refl
  order_shifts (s ∷ rest) h = and_then_shifts s (λ u. in_order rest) h.0 (λ u. order_shifts rest h.1)

  block_shifts : (body : List (Act Q W)) → AllShift' body → Shifts (block body)
  block_shifts body h at k = ap (closed (length at.env)) (order_shifts body h at k) ∙ closed_raised (length at.env) k (in_order body at)

  block_with_shifts : (name : List ℕ) (v : Val) (body : List (Act Q W)) → AllShift' body → Shifts (block_with name v body)
  block_with_shifts name v body h at k = ap (closed (length at.env)) (order_shifts body h (bind name v at) k) ∙ closed_raised (length at.env) k (in_order body (bind name v at))

  chosen_shifts : (b : Bool) (first second : Act Q W) → Shifts first → Shifts second → Shifts (chosen b first second)
  chosen_shifts true first second h g = h
  chosen_shifts false first second h g = g

  goes_shifts : Shifts {Q = Q} {W = W} {A = Unit {0}} (Goes tt)
  goes_shifts at k = refl

  turns_shift : (n : ℕ) (test : At W → Ends Q W Bool) (body : Act Q W) → Shifts test → Shifts body → Shifts (turns n test body)
  turns_shift zero test body ht hb = λ at k. refl
  turns_shift (suc n) test body ht hb =
      and_then_shifts test (λ b. chosen b (with_unit (λ at. and_then (body at) (λ u. turns n test body))) (Goes tt)) ht
      (λ b. chosen_shifts b _ (Goes tt) (unit_shifts _ (and_then_shifts body (λ u. turns n test body) hb (λ u. turns_shift n test body ht hb))) goes_shifts)

  each_shifts : (vs : List Val) (name : List ℕ) (body : List (Act Q W)) → AllShift' body → Shifts (for_each vs name body)
  each_shifts [] name body h = λ at k. refl
  each_shifts (v ∷ vs) name body h =
      and_then_shifts (with_unit (block_with name v body)) (λ u. for_each vs name body) (unit_shifts _ (block_with_shifts name v body h)) (λ u. each_shifts vs name body h)

  pub if_raised : {A : Type 0} (b : Bool) (k : ℕ) (d e x y : Ends Q W A) → d ≡ raised_ends k x → e ≡ raised_ends k y → (if b then d else e) ≡ raised_ends k (if b then x else y)
  if_raised true k d e x y p q = p
  if_raised false k d e x y p q = q

  caught_raised : (name : List ℕ) (handler : List (Act Q W)) → AllShift' handler → (k : ℕ) (d : Ends Q W (Unit {0})) → caught name handler (raised_ends k d) ≡ raised_ends k (caught name handler d)
  caught_raised name handler h k (Goes a at) = refl
  caught_raised name handler h k (Returns v at) = refl
  caught_raised name handler h k (Failed word at) = if_raised (is_caught word) k _ _ _ _ (block_with_shifts name (Text word) handler h at k) refl
  caught_raised name handler h k (Asks q at next) = λ i. Asks q (later k at) (λ o. caught_raised name handler h k (next o) i)
  caught_raised name handler h k Stuck = refl

-- what the body acts on doesn't look at the count
pub record EffectsShift {Q W : Type 0} (effects : Effects Q W) : Type 0 where
  pub get : (table : List ℕ) (k : Val) → Shifts (effects.get table k)
  pub scan : (table : List ℕ) (lo hi : Val) → Shifts (effects.scan table lo hi)
  pub put : (table : List ℕ) (k v : Val) → Shifts (effects.put table k v)
  pub delete : (table : List ℕ) (k : Val) → Shifts (effects.delete table k)
  pub call : (name : List ℕ) (n : ℕ) (args : Val) → Shifts (effects.call name n args)
  pub spawn : (name : List ℕ) (n : ℕ) (args : Val) → Shifts (effects.spawn name n args)
  pub await : (id : List ℕ) → Shifts (effects.await id)

module _ {Q W : Type 0} (effects : Effects Q W) (calls : Calls) (he : EffectsShift effects) (hc : CallsShift calls) where
  value_shifts : (e : Expr) → Shifts (value effects calls e)
  value_shifts e at k = ap (ended (later k at)) (expression_shifts calls hc e at.env at.units at.cost k) ∙ ended_raised at k (evaluated calls e at.env at.units at.cost)

  condition_shifts : (e : Expr) → Shifts (condition effects calls e)
  condition_shifts e = and_then_shifts (value effects calls e) (λ v. bool_or_type (bool_of v)) (value_shifts e) (λ v. bool_shifts (bool_of v))

  list_value_shifts : (e : Expr) → Shifts (list_value effects calls e)
  list_value_shifts e = and_then_shifts (value effects calls e) (λ v. list_or_type (items_of v)) (value_shifts e) (λ v. list_shifts (items_of v))

  text_value_shifts : (e : Expr) → Shifts (text_value effects calls e)
  text_value_shifts e = and_then_shifts (value effects calls e) (λ v. text_or_type (text_of v)) (value_shifts e) (λ v. text_shifts (text_of v))

  runs_shift : (es : List Expr) → AllShift (map (evaluated calls) es)
  runs_shift [] = tt
  runs_shift (e ∷ es) = (expression_shifts calls hc e, runs_shift es)

  arguments_shift : (es : List Expr) → Shifts (arguments effects calls es)
  arguments_shift es =
      and_then_shifts (λ at. ended at (values_onto [] (map (evaluated calls) es) at.env at.units at.cost)) (λ vs. taken (list_or_size vs))
      (λ at k. ap (ended (later k at)) (values_shift [] _ (runs_shift es) at.env at.units at.cost k) ∙ ended_raised at k (values_onto [] (map (evaluated calls) es) at.env at.units at.cost))
      (λ vs. taken_shifts (list_or_size vs))

  asked_shifts : (a : Ask) → Shifts (asked effects calls a)
  asked_shifts (ask.Call name args) = and_then_shifts (arguments effects calls args) (effects.call name (length args)) (arguments_shift args) (he.call name (length args))
  asked_shifts (ask.Spawn name args) = and_then_shifts (arguments effects calls args) (effects.spawn name (length args)) (arguments_shift args) (he.spawn name (length args))
  asked_shifts (ask.Await id) = and_then_shifts (text_value effects calls id) effects.await (text_value_shifts id) he.await

  given_shifts : (r : Rhs) → Shifts (given effects calls r)
  given_shifts (rhs.Plain e) = value_shifts e
  given_shifts (rhs.Ask a) = asked_shifts a
  given_shifts (rhs.Get table key) = and_then_shifts (value effects calls key) (effects.get table) (value_shifts key) (he.get table)
  given_shifts (rhs.Scan table lo hi) =
      and_then_shifts (value effects calls lo) (λ l at. and_then (value effects calls hi at) (effects.scan table l)) (value_shifts lo)
      (λ l. and_then_shifts (value effects calls hi) (effects.scan table l) (value_shifts hi) (he.scan table l))

  abbrev P : Stmt → Type 0
  P s = Shifts (acted effects calls s)

  abbrev acts : List (Shown P) → List (Act Q W)
  acts ss = map (acted effects calls) (map (λ s. s.0) ss)

  acts_shift : (ss : List (Shown P)) → AllShift' (acts ss)
  acts_shift [] = tt
  acts_shift (s ∷ ss) = (s.1, acts_shift ss)

  statement_shifts : (y : Stmt-F (Shown P)) → Shifts (statement effects calls (map-Stmt Stmt (Act Q W) (acted effects calls) (map-Stmt (Shown P) Stmt (λ s. s.0) y)))
  statement_shifts (Stmt-F.Let name r) = and_then_shifts (given effects calls r) (λ v at. Goes tt (bind name v at)) (given_shifts r) (λ v at k. refl)
  statement_shifts (Stmt-F.Set name r) = and_then_shifts (given effects calls r) (λ v at. Goes tt (record at { env = assigned at.env name v })) (given_shifts r) (λ v at k. refl)
  statement_shifts (Stmt-F.Do a) = and_then_shifts (asked effects calls a) (λ v. Goes tt) (asked_shifts a) (λ v at k. refl)
  statement_shifts (Stmt-F.Put table key e) =
      and_then_shifts (value effects calls key) (λ k at. and_then (value effects calls e at) (effects.put table k)) (value_shifts key)
      (λ k. and_then_shifts (value effects calls e) (effects.put table k) (value_shifts e) (he.put table k))
  statement_shifts (Stmt-F.Delete table key) = and_then_shifts (value effects calls key) (effects.delete table) (value_shifts key) (he.delete table)
  statement_shifts (Stmt-F.If cond one None) =
      and_then_shifts (condition effects calls cond) (λ b. chosen b (block (acts one)) (Goes tt)) (condition_shifts cond)
      (λ b. chosen_shifts b _ _ (block_shifts (acts one) (acts_shift one)) goes_shifts)
  statement_shifts (Stmt-F.If cond one (Some two)) =
      and_then_shifts (condition effects calls cond) (λ b. chosen b (block (acts one)) (block (acts two))) (condition_shifts cond)
      (λ b. chosen_shifts b _ _ (block_shifts (acts one) (acts_shift one)) (block_shifts (acts two) (acts_shift two)))
  statement_shifts (Stmt-F.While cond body) = λ at k. turns_shift (suc at.units) (condition effects calls cond) (block (acts body)) (condition_shifts cond) (block_shifts (acts body) (acts_shift body)) at k
  statement_shifts (Stmt-F.Each name list body) =
      and_then_shifts (list_value effects calls list) (λ vs. for_each vs name (acts body)) (list_value_shifts list) (λ vs. each_shifts vs name (acts body) (acts_shift body))
  statement_shifts (Stmt-F.Try body name handler) = λ at k.
      ap (caught name (acts handler)) (block_shifts (acts body) (acts_shift body) at k) ∙ caught_raised name (acts handler) (acts_shift handler) k (block (acts body) at)
  statement_shifts (Stmt-F.Return e) = and_then_shifts (value effects calls e) Returns (value_shifts e) (λ v at k. refl)
  statement_shifts (Stmt-F.Fail e) = and_then_shifts (text_value effects calls e) Failed (text_value_shifts e) (λ t at k. refl)

  level : (y : Stmt-F (Shown P)) → P (roll-Stmt (map-Stmt (Shown P) Stmt (λ s. s.0) y))
  level y at k =
      let x = map-Stmt (Shown P) Stmt (λ s. s.0) y in
      acted_roll effects calls x (later k at) ∙ statement_shifts y at k ∙ ap (raised_ends k) (sym (acted_roll effects calls x at))

  pub act_shifts : (s : Stmt) → Shifts (acted effects calls s)
  act_shifts = by_levels P level

  all_acts_shift : (body : List Stmt) → AllShift' (map (acted effects calls) body)
  all_acts_shift [] = tt
  all_acts_shift (s ∷ body) = (act_shifts s, all_acts_shift body)

  pub body_shifts : (body : List Stmt) → Shifts (body_of effects calls body)
  body_shifts body = order_shifts (map (acted effects calls) body) (all_acts_shift body)
