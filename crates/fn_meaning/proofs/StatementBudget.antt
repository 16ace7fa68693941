-- What a statement spends.
use Rattle.std.proofs.Common.{◌≡◌, ◌≤◌, ℕ, ◌+◌, ◌*◌, zero, suc, Bool, true, false, List, [], ◌∷◌, ◌++◌, Option, Some, None, subst, sym, arith}
use Rattle.std.specs.Prelude.{map, length, if◌then◌else◌}
use Rattle.r3_value.specs.declared.value.Val.{Val}
use Rattle.r3_value.specs.declared.value.Val.TheVariants.{Text}
use Rattle.r3_value.specs.declared.value.Outcome.{Outcome}
use Rattle.r3_value.specs.declared.value.Outcome.TheVariants.{Value, Failure}
use Rattle.fn_tree.specs.declared.expr.Expr.{Expr}
use Rattle.fn_tree.specs.declared.stmt.Ask.{Ask}
use Rattle.fn_tree.specs.declared.stmt.Ask.TheVariants as ask
use Rattle.fn_tree.specs.declared.stmt.Rhs.{Rhs}
use Rattle.fn_tree.specs.declared.stmt.Rhs.TheVariants as rhs
use Rattle.fn_tree.specs.declared.stmt.Stmt.{Stmt, roll-Stmt}
use Rattle.fn_tree.specs.declared.stmt.Stmt.TheOpen.{Stmt-F}
use Rattle.fn_tree.specs.declared.stmt.Stmt.TheFolds.{map-Stmt, fold-roll-Stmt}
use Rattle.fn_tree.specs.Values.{bool_of, text_of, items_of}
use Rattle.fn_tree.specs.Sequences.{list_or_size}
use Rattle.fn_tree.specs.Evaluation.{End, Gives, Fails, Stuck as NoEnd, Calls, values_onto}
use Rattle.fn_tree.specs.Expression.{evaluated}
use Rattle.fn_tree.specs.Ends.{At, Ends, Goes, Returns, Failed, Asks, Stuck, Effects, Act, and_then, assigned, bind, cut, is_caught}
use Rattle.fn_tree.specs.Control.{ended, taken, text_or_type, bool_or_type, list_or_type, one_unit_less, with_unit, closed, in_order, block, block_with, chosen, turns, for_each, caught}
use Rattle.fn_tree.specs.Statement.{value, condition, list_value, text_value, arguments, asked, given, statement, acted, body_of}
use Rattle.fn_meaning.specs.Nodes.{total, in_expression, in_arguments, in_ask, in_rhs, in_no_block_or, among, in_statement, in_body}
use Rattle.fn_meaning.specs.Budget.{load, Spends}
use Rattle.fn_meaning.proofs.ExpressionBudget.{le_self, le_then, le_first, le_second, le_none, le_some, le_zero, le_less, pays, RunPart, CallsPart, expression_part, then_part, then_free}
use Rattle.fn_meaning.proofs.ExpressionBudget as expression
use Rattle.fn_meaning.proofs.StatementLemmas.{Shown, by_levels, acted_roll}

-- wherever a part ends or asks, it has spent at most a bound
abbrev pub Spent : {Q W A : Type 0} → ℕ → ℕ → Ends Q W A → Type 0
Spent each b (Goes a at) = load each at.units at.cost ≤ b
Spent each b (Returns v at) = load each at.units at.cost ≤ b
Spent each b (Failed word at) = load each at.units at.cost ≤ b
Spent each b (Asks q at next) = (load each at.units at.cost ≤ b) × ((o : Outcome) → Spent each b (next o))
Spent each b Stuck = Unit {0}

-- from any place, a part spends at most n more than it has
abbrev pub Part : {Q W A : Type 0} → ℕ → ℕ → (At W → Ends Q W A) → Type 0
Part {W = W} each n go = (b : ℕ) (at : At W) → load each at.units at.cost + n ≤ b → Spent each b (go at)

le_head : (n m b : ℕ) → n + m ≤ b → n ≤ b
le_head n m b h = omega (arith, h)

le_tail : (n m b : ℕ) → n + m ≤ b → m ≤ b
le_tail n m b h = omega (arith, h)

le_parts : (a n m b : ℕ) → n ≤ m → a + m ≤ b → a + n ≤ b
le_parts a n m b h g = omega (arith, h, g)

le_left : (n m : ℕ) → n ≤ n + m
le_left n m = omega arith

module _ (each : ℕ) where
  bounded : {Q W A B : Type 0} (b c : ℕ) (d : Ends Q W A) (go : A → At W → Ends Q W B) → b ≤ c → Spent each b d → ((a : A) (at : At W) → load each at.units at.cost ≤ b → Spent each c (go a at)) → Spent each c (and_then d go)
  bounded b c (Goes a at) go le h f = f a at h
  bounded b c (Returns v at) go le h f = le_then (load each at.units at.cost) b c h le
  bounded b c (Failed word at) go le h f = le_then (load each at.units at.cost) b c h le
  bounded b c (Asks q at next) go le h f = (le_then (load each at.units at.cost) b c h.0 le, λ o. bounded b c (next o) go le (h.1 o) f)
  bounded b c Stuck go le h f = tt

  pub spent_if : {Q W A : Type 0} (b : ℕ) (c : Bool) (d e : Ends Q W A) → Spent each b d → Spent each b e → Spent each b (if c then d else e)
  spent_if b true d e h g = h
  spent_if b false d e h g = g

  seq : {Q W A B : Type 0} (n m : ℕ) (part : At W → Ends Q W A) (go : A → At W → Ends Q W B) → Part each n part → ((a : A) → Part each m (go a)) → Part each (n + m) (λ at. and_then (part at) go)
  seq n m part go hp hgo b at h =
      bounded (load each at.units at.cost + n) b (part at) go (le_first (load each at.units at.cost) n m b h) (hp (load each at.units at.cost + n) at (le_self (load each at.units at.cost + n)))
      (λ a place g. hgo a b place (le_second (load each at.units at.cost) (load each place.units place.cost) n m b h g))

  free : {Q W A B : Type 0} (n : ℕ) (part : At W → Ends Q W A) (go : A → At W → Ends Q W B) → Part each n part → ((a : A) → Part each 0 (go a)) → Part each n (λ at. and_then (part at) go)
  free n part go hp hgo b at h =
      bounded b b (part at) go (le_self b) (hp b at h) (λ a place g. hgo a b place (le_zero (load each place.units place.cost) b g))

  weaker : {Q W A : Type 0} (n m : ℕ) (part : At W → Ends Q W A) → n ≤ m → Part each n part → Part each m part
  weaker n m part le h b at g = h b at (le_parts (load each at.units at.cost) n m b le g)

module _ (Q W : Type 0) (each : ℕ) where
  done_part : Part {Q = Q} {W = W} {A = Unit {0}} each 0 (Goes tt)
  done_part b at h = le_none (load each at.units at.cost) b h

  ended_spent : {A : Type 0} (b : ℕ) (at : At W) (d : End A) → Spends each b d → Spent {Q = Q} each b (ended at d)
  ended_spent b at (Gives a units cost) h = h
  ended_spent b at (Fails word units cost) h = h
  ended_spent b at NoEnd h = tt

  pub taken_part : (o : Outcome) → Part {Q = Q} {W = W} each 0 (taken o)
  taken_part (Value v) b at h = le_none (load each at.units at.cost) b h
  taken_part (Failure word) b at h = le_none (load each at.units at.cost) b h

  text_part : (o : Option (List ℕ)) → Part {Q = Q} {W = W} each 0 (text_or_type o)
  text_part (Some t) b at h = le_none (load each at.units at.cost) b h
  text_part None b at h = le_none (load each at.units at.cost) b h

  bool_part : (o : Option Bool) → Part {Q = Q} {W = W} each 0 (bool_or_type o)
  bool_part (Some t) b at h = le_none (load each at.units at.cost) b h
  bool_part None b at h = le_none (load each at.units at.cost) b h

  list_part : (o : Option (List Val)) → Part {Q = Q} {W = W} each 0 (list_or_type o)
  list_part (Some t) b at h = le_none (load each at.units at.cost) b h
  list_part None b at h = le_none (load each at.units at.cost) b h

module _ {Q W : Type 0} (each : ℕ) where
  less_spent : (n units : ℕ) (go : Act Q W) (at : At W) (b : ℕ) → n ≤ each → Part each n go → load each units at.cost ≤ b → at.units ≡ units → Spent each b (one_unit_less units at go)
  less_spent n zero go at b le h g is = subst (λ u. load each u at.cost ≤ b) (sym is) g
  less_spent n (suc units) go at b le h g is =
      h b (record at { units = units }) (le_less (load each (suc units) at.cost) (load each units at.cost) n each b le (pays each units at.cost) g)

  -- a unit pays for what it leads to
  unit_part : (n : ℕ) (go : Act Q W) → n ≤ each → Part each n go → Part each 0 (with_unit go)
  unit_part n go le h b at g = less_spent n at.units go at b le h (le_none (load each at.units at.cost) b g) (λ i. at.units)

  chosen_part : (n m : ℕ) (c : Bool) (one two : Act Q W) → Part each n one → Part each m two → Part each (n + m) (chosen c one two)
  chosen_part n m true one two h g = weaker each n (n + m) one (le_left n m) h
  chosen_part n m false one two h g = weaker each m (n + m) two (le_right n m) g
    where
      le_right : (n m : ℕ) → m ≤ n + m
      le_right n m = omega arith

  closed_spent : (b n : ℕ) (d : Ends Q W (Unit {0})) → Spent each b d → Spent each b (closed n d)
  closed_spent b n (Goes a at) h = h
  closed_spent b n (Returns v at) h = h
  closed_spent b n (Failed word at) h = h
  closed_spent b n (Asks q at next) h = (h.0, λ o. closed_spent b n (next o) (h.1 o))
  closed_spent b n Stuck h = tt

  block_part : (n : ℕ) (body : List (Act Q W)) → Part each n (in_order body) → Part each n (block body)
  block_part n body h b at g = closed_spent b (length at.env) (in_order body at) (h b at g)

  block_with_part : (n : ℕ) (name : List ℕ) (v : Val) (body : List (Act Q W)) → Part each n (in_order body) → Part each n (block_with name v body)
  block_with_part n name v body h b at g = closed_spent b (length at.env) (in_order body (bind name v at)) (h b (bind name v at) g)

  -- each turn but the last test is paid for by its unit
  turns_part : (n t m : ℕ) (test : At W → Ends Q W Bool) (body : Act Q W) → t + m ≤ each → Part each t test → Part each m body → Part each t (turns n test body)
  turns_part zero t m test body le ht hb = λ b at h. le_some (load each at.units at.cost) t b h
  turns_part (suc n) t m test body le ht hb =
      free each t test (λ c. chosen c (with_unit (λ at. and_then (body at) (λ u. turns n test body))) (Goes tt)) ht
      (λ c. chosen_part 0 0 c _ (Goes tt)
      (unit_part (m + t) (λ at. and_then (body at) (λ u. turns n test body)) (turned t m each le) (seq each m t body (λ u. turns n test body) hb (λ u. turns_part n t m test body le ht hb)))
      (done_part Q W each))
    where
      turned : (t m b : ℕ) → t + m ≤ b → m + t ≤ b
      turned t m b h = omega (arith, h)

  each_part : (vs : List Val) (m : ℕ) (name : List ℕ) (body : List (Act Q W)) → m ≤ each → Part each m (in_order body) → Part each 0 (for_each vs name body)
  each_part [] m name body le h = done_part Q W each
  each_part (v ∷ vs) m name body le h =
      free each 0 (with_unit (block_with name v body)) (λ u. for_each vs name body) (unit_part m (block_with name v body) le (block_with_part m name v body h)) (λ u. each_part vs m name body le h)

  caught_spent : (m b c : ℕ) (name : List ℕ) (handler : List (Act Q W)) → b + m ≤ c → Part each m (in_order handler) → (d : Ends Q W (Unit {0})) → Spent each b d → Spent each c (caught name handler d)
  caught_spent m b c name handler le h (Goes a at) g = le_then (load each at.units at.cost) b c g (le_some b m c le)
  caught_spent m b c name handler le h (Returns v at) g = le_then (load each at.units at.cost) b c g (le_some b m c le)
  caught_spent m b c name handler le h (Failed word at) g =
      spent_if each c (is_caught word) _ _ (block_with_part m name (Text word) handler h c at (more (load each at.units at.cost) m b c g le)) (le_then (load each at.units at.cost) b c g (le_some b m c le))
    where
      more : (a m b c : ℕ) → a ≤ b → b + m ≤ c → a + m ≤ c
      more a m b c h g = omega (arith, h, g)
  caught_spent m b c name handler le h (Asks q at next) g = (le_then (load each at.units at.cost) b c g.0 (le_some b m c le), λ o. caught_spent m b c name handler le h (next o) (g.1 o))
  caught_spent m b c name handler le h Stuck g = tt

  caught_part : (n m : ℕ) (name : List ℕ) (handler : List (Act Q W)) (part : Act Q W) → Part each n part → Part each m (in_order handler) → Part each (n + m) (λ at. caught name handler (part at))
  caught_part n m name handler part hp h b at g =
      caught_spent m (load each at.units at.cost + n) b name handler (both_parts (load each at.units at.cost) n m b g) h (part at) (hp (load each at.units at.cost + n) at (le_self (load each at.units at.cost + n)))
    where
      both_parts : (a n m b : ℕ) → a + (n + m) ≤ b → a + n + m ≤ b
      both_parts a n m b h = omega (arith, h)

-- what the body acts on spends nothing
pub record EffectsFree {Q W : Type 0} (each : ℕ) (effects : Effects Q W) : Type 0 where
  pub get : (table : List ℕ) (k : Val) → Part each 0 (effects.get table k)
  pub scan : (table : List ℕ) (lo hi : Val) → Part each 0 (effects.scan table lo hi)
  pub put : (table : List ℕ) (k v : Val) → Part each 0 (effects.put table k v)
  pub delete : (table : List ℕ) (k : Val) → Part each 0 (effects.delete table k)
  pub call : (name : List ℕ) (n : ℕ) (args : Val) → Part each 0 (effects.call name n args)
  pub spawn : (name : List ℕ) (n : ℕ) (args : Val) → Part each 0 (effects.spawn name n args)
  pub await : (id : List ℕ) → Part each 0 (effects.await id)

module _ {Q W : Type 0} (each : ℕ) (effects : Effects Q W) (calls : Calls) (he : EffectsFree each effects) (hc : CallsPart each calls) where
  value_part : (e : Expr) → Part each (in_expression e) (value effects calls e)
  value_part e b at h = ended_spent Q W each b at (evaluated calls e at.env at.units at.cost) (expression_part each calls hc e at.env b at.units at.cost h)

  condition_part : (e : Expr) → Part each (in_expression e) (condition effects calls e)
  condition_part e = free each (in_expression e) (value effects calls e) (λ v. bool_or_type (bool_of v)) (value_part e) (λ v. bool_part Q W each (bool_of v))

  list_value_part : (e : Expr) → Part each (in_expression e) (list_value effects calls e)
  list_value_part e = free each (in_expression e) (value effects calls e) (λ v. list_or_type (items_of v)) (value_part e) (λ v. list_part Q W each (items_of v))

  text_value_part : (e : Expr) → Part each (in_expression e) (text_value effects calls e)
  text_value_part e = free each (in_expression e) (value effects calls e) (λ v. text_or_type (text_of v)) (value_part e) (λ v. text_part Q W each (text_of v))

  values_part : (done : List Val) (es : List Expr) (env : List (List ℕ × Val)) → expression.Part each (in_arguments es) (values_onto done (map (evaluated calls) es) env)
  values_part done [] env = λ b units cost h. le_none (load each units cost) b h
  values_part done (e ∷ es) env =
      then_part each (in_expression e) (in_arguments es) (evaluated calls e env) (λ v. values_onto (done ++ v ∷ []) (map (evaluated calls) es) env) (expression_part each calls hc e env) (λ v. values_part (done ++ v ∷ []) es env)

  arguments_part : (es : List Expr) → Part each (in_arguments es) (arguments effects calls es)
  arguments_part es =
      free each (in_arguments es) (λ at. ended at (values_onto [] (map (evaluated calls) es) at.env at.units at.cost)) (λ vs. taken (list_or_size vs))
      (λ b at h. ended_spent Q W each b at (values_onto [] (map (evaluated calls) es) at.env at.units at.cost) (values_part [] es at.env b at.units at.cost h))
      (λ vs. taken_part Q W each (list_or_size vs))

  asked_part : (a : Ask) → Part each (in_ask a) (asked effects calls a)
  asked_part (ask.Call name args) = free each (in_arguments args) (arguments effects calls args) (effects.call name (length args)) (arguments_part args) (he.call name (length args))
  asked_part (ask.Spawn name args) = free each (in_arguments args) (arguments effects calls args) (effects.spawn name (length args)) (arguments_part args) (he.spawn name (length args))
  asked_part (ask.Await id) = free each (in_expression id) (text_value effects calls id) effects.await (text_value_part id) he.await

  given_part : (r : Rhs) → Part each (in_rhs r) (given effects calls r)
  given_part (rhs.Plain e) = value_part e
  given_part (rhs.Ask a) = asked_part a
  given_part (rhs.Get table key) = free each (in_expression key) (value effects calls key) (effects.get table) (value_part key) (he.get table)
  given_part (rhs.Scan table lo hi) =
      seq each (in_expression lo) (in_expression hi) (value effects calls lo) (λ l at. and_then (value effects calls hi at) (effects.scan table l)) (value_part lo)
      (λ l. free each (in_expression hi) (value effects calls hi) (effects.scan table l) (value_part hi) (he.scan table l))

  abbrev P : Stmt → Type 0
  P s = in_statement s ≤ each → Part each (in_statement s) (acted effects calls s)

  abbrev plain : List (Shown P) → List Stmt
  plain ss = map (λ s. s.0) ss

  abbrev acts : List (Shown P) → List (Act Q W)
  acts ss = map (acted effects calls) (plain ss)

  acts_part : (ss : List (Shown P)) → in_body (plain ss) ≤ each → Part each (in_body (plain ss)) (in_order (acts ss))
  acts_part [] le = done_part Q W each
  acts_part (s ∷ ss) le =
      seq each (in_statement s.0) (in_body (plain ss)) (acted effects calls s.0) (λ u. in_order (acts ss)) (s.1 (le_head (in_statement s.0) (in_body (plain ss)) each le))
      (λ u. acts_part ss (le_tail (in_statement s.0) (in_body (plain ss)) each le))

  blocked : (ss : List (Shown P)) → in_body (plain ss) ≤ each → Part each (in_body (plain ss)) (block (acts ss))
  blocked ss le = block_part each (in_body (plain ss)) (acts ss) (acts_part ss le)

  abbrev nodes : Stmt-F (Shown P) → ℕ
  nodes y = among (map-Stmt Stmt ℕ in_statement (map-Stmt (Shown P) Stmt (λ s. s.0) y))

  statement_part : (y : Stmt-F (Shown P)) → nodes y ≤ each → Part each (nodes y) (statement effects calls (map-Stmt Stmt (Act Q W) (acted effects calls) (map-Stmt (Shown P) Stmt (λ s. s.0) y)))
  statement_part (Stmt-F.Let name r) le = free each (in_rhs r) (given effects calls r) (λ v at. Goes tt (bind name v at)) (given_part r) (λ v b at h. le_none (load each at.units at.cost) b h)
  statement_part (Stmt-F.Set name r) le = free each (in_rhs r) (given effects calls r) (λ v at. Goes tt (record at { env = assigned at.env name v })) (given_part r) (λ v b at h. le_none (load each at.units at.cost) b h)
  statement_part (Stmt-F.Do a) le = free each (in_ask a) (asked effects calls a) (λ v. Goes tt) (asked_part a) (λ v. done_part Q W each)
  statement_part (Stmt-F.Put table key e) le =
      seq each (in_expression key) (in_expression e) (value effects calls key) (λ k at. and_then (value effects calls e at) (effects.put table k)) (value_part key)
      (λ k. free each (in_expression e) (value effects calls e) (effects.put table k) (value_part e) (he.put table k))
  statement_part (Stmt-F.Delete table key) le = free each (in_expression key) (value effects calls key) (effects.delete table) (value_part key) (he.delete table)
  statement_part (Stmt-F.If cond one None) le =
      seq each (in_expression cond) (in_body (plain one) + 0) (condition effects calls cond) (λ c. chosen c (block (acts one)) (Goes tt)) (condition_part cond)
      (λ c. chosen_part each (in_body (plain one)) 0 c (block (acts one)) (Goes tt) (blocked one (le_head (in_body (plain one)) 0 each (le_tail (in_expression cond) (in_body (plain one) + 0) each le))) (done_part Q W each))
  statement_part (Stmt-F.If cond one (Some two)) le =
      let both = le_tail (in_expression cond) (in_body (plain one) + in_body (plain two)) each le in
      seq each (in_expression cond) (in_body (plain one) + in_body (plain two)) (condition effects calls cond) (λ c. chosen c (block (acts one)) (block (acts two))) (condition_part cond)
      (λ c. chosen_part each (in_body (plain one)) (in_body (plain two)) c (block (acts one)) (block (acts two)) (blocked one (le_head (in_body (plain one)) (in_body (plain two)) each both)) (blocked two (le_tail (in_body (plain one)) (in_body (plain two)) each both)))
  statement_part (Stmt-F.While cond body) le = λ b at h.
      turns_part each (suc at.units) (in_expression cond) (in_body (plain body)) (condition effects calls cond) (block (acts body)) le (condition_part cond) (blocked body (le_tail (in_expression cond) (in_body (plain body)) each le)) b at
      (le_first (load each at.units at.cost) (in_expression cond) (in_body (plain body)) b h)
  statement_part (Stmt-F.Each name list body) le =
      let small = le_tail (in_expression list) (in_body (plain body)) each le in
      weaker each (in_expression list) (in_expression list + in_body (plain body)) (λ at. and_then (list_value effects calls list at) (λ vs. for_each vs name (acts body))) (le_left (in_expression list) (in_body (plain body)))
      (free each (in_expression list) (list_value effects calls list) (λ vs. for_each vs name (acts body)) (list_value_part list) (λ vs. each_part each vs (in_body (plain body)) name (acts body) small (acts_part body small)))
  statement_part (Stmt-F.Try body name handler) le =
      caught_part each (in_body (plain body)) (in_body (plain handler)) name (acts handler) (block (acts body)) (blocked body (le_head (in_body (plain body)) (in_body (plain handler)) each le)) (acts_part handler (le_tail (in_body (plain body)) (in_body (plain handler)) each le))
  statement_part (Stmt-F.Return e) le = free each (in_expression e) (value effects calls e) Returns (value_part e) (λ v b at h. le_none (load each at.units at.cost) b h)
  statement_part (Stmt-F.Fail e) le = free each (in_expression e) (text_value effects calls e) Failed (text_value_part e) (λ t b at h. le_none (load each at.units at.cost) b h)

  level : (y : Stmt-F (Shown P)) → P (roll-Stmt (map-Stmt (Shown P) Stmt (λ s. s.0) y))
  level y le b at h =
      let x = map-Stmt (Shown P) Stmt (λ s. s.0) y in
      let is = fold-roll-Stmt ℕ among x in
      let le' : nodes y ≤ each = subst (λ n. n ≤ each) is le in
      let h' : load each at.units at.cost + nodes y ≤ b = subst (λ n. load each at.units at.cost + n ≤ b) is h in
      subst (Spent each b) (sym (acted_roll effects calls x at)) (statement_part y le' b at h')

  act_part : (s : Stmt) → P s
  act_part = by_levels P level

  pub body_part : (body : List Stmt) → in_body body ≤ each → Part each (in_body body) (body_of effects calls body)
  body_part [] le = done_part Q W each
  body_part (s ∷ body) le =
      seq each (in_statement s) (in_body body) (acted effects calls s) (λ u. in_order (map (acted effects calls) body)) (act_part s (le_head (in_statement s) (in_body body) each le))
      (λ u. body_part body (le_tail (in_statement s) (in_body body) each le))
