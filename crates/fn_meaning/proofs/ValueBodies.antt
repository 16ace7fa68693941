-- A body of a sound program keeps the values that are bound within the limits, wherever it ends or asks.
use Rattle.std.proofs.Common.{◌≡◌, subst, ℕ, zero, suc, ◌+◌, Bool, true, false, not, List, [], ◌∷◌, ◌++◌, Option, Some, None, refl, ap, sym, ◌∙◌, length, take, arith}
use Rattle.std.specs.Prelude.{map, if◌then◌else◌, ◌&&◌, ◌||◌}
use Rattle.std.specs.Str.{bytes_eq}
use Rattle.r3_value.specs.View.{items_of}
use Rattle.r3_value.specs.declared.value.Outcome.{Outcome}
use Rattle.r3_value.specs.declared.value.Outcome.TheVariants.{Value, Failure}
use Rattle.r3_value.specs.declared.value.Val.{Val}
use Rattle.r3_value.specs.declared.value.Val.TheVariants.{Text, List as ListOf}
use Rattle.fn_tree.specs.declared.expr.Expr.{Expr}
use Rattle.fn_tree.specs.declared.program.Item.{Item}
use Rattle.fn_tree.specs.declared.stmt.Ask.{Ask}
use Rattle.fn_tree.specs.declared.stmt.Ask.TheVariants as ask
use Rattle.fn_tree.specs.declared.stmt.Rhs.{Rhs}
use Rattle.fn_tree.specs.declared.stmt.Rhs.TheVariants as rhs
use Rattle.fn_tree.specs.declared.stmt.Stmt.{Stmt, roll-Stmt}
use Rattle.fn_tree.specs.declared.stmt.Stmt.TheOpen.{Stmt-F}
use Rattle.fn_tree.specs.declared.stmt.Stmt.TheFolds.{map-Stmt, fold-roll-Stmt}
use Rattle.fn_tree.specs.Expression.{Binding, End, Gives, Fails, Stuck as NoEnd, Calls, evaluated, values_onto}
use Rattle.fn_tree.specs.Literals.{all_fit, expr_fits, exprs_fit, ask_fits, rhs_fits, statement_fits, stmt_fits, body_fits}
use Rattle.fn_tree.specs.Sequences.{list_or_size}
use Rattle.fn_tree.specs.Soundness.{Scope, Body, Binds, contains, any, is_table, is_some, is_txn, expr_is_sound, same_if, with_new, after, all_in_order, block_is_sound, block_with as block_sound_with, rhs_is_sound, statement_binds, binds, body_is_sound}
use Rattle.fn_tree.specs.Statement.{At, Ends, Goes, Returns, Failed, Asks, Stuck, Effects, Act, and_then, is_bound, assigned, bind, is_caught, ended, taken, text_or_type, bool_or_type, list_or_type, one_unit_less, with_unit, closed, in_order, block, block_with, chosen, turns, for_each, caught, value, condition, list_value, text_value, arguments, asked, given, statement, acted, body_of}
use Rattle.fn_tree.specs.Values.{bool_of, text_of, items_of as list_of}
use Rattle.fn_meaning.specs.ValueLimits.{IsVal, AreVals, IsWord, IsOutcome, AreBindings, GivesWithin}
use Rattle.fn_meaning.proofs.SoundExpression.{Anything, and_first, and_second}
use Rattle.fn_meaning.proofs.StatementLemmas.{Shown, by_levels, acted_roll}
use Rattle.fn_meaning.proofs.ValueExpressions.{CallsWithin, SoMany, expression_within, arguments_within}
use Rattle.fn_meaning.proofs.ValueLemmas.{TextFits, ListFits, ListsAs, text_fits, list_fits, lists_as, are_proper, text_val, type_word, budget_word}

-- what is bound is within the limits, and so is the world
abbrev pub AtWithin : {W : Type 0} → (W → Type 0) → At W → Type 0
AtWithin J at = AreBindings at.env × J at.world

-- what a part gives is as wanted, what it asks too, and all else is within the limits, whatever is answered within them
abbrev pub Stays : {Q W A : Type 0} → (W → Type 0) → (Q → Type 0) → (A → Type 0) → Ends Q W A → Type 0
Stays J R good (Goes a at) = good a × AtWithin J at
Stays J R good (Returns v at) = IsVal v × J at.world
Stays J R good (Failed word at) = IsWord word × AtWithin J at
Stays J R good (Asks q at next) = R q × ((o : Outcome) → IsOutcome o → Stays J R good (next o))
Stays J R good Stuck = Unit {0}

pub stays_on : {Q W A B : Type 0} (J : W → Type 0) (R : Q → Type 0) (good : A → Type 0) (better : B → Type 0) (d : Ends Q W A) (go : A → At W → Ends Q W B) → Stays J R good d → ((a : A) (at : At W) → good a → AtWithin J at → Stays J R better (go a at)) → Stays J R better (and_then d go)
stays_on J R good better (Goes a at) go h f = f a at h.0 h.1
stays_on J R good better (Returns v at) go h f = h
stays_on J R good better (Failed word at) go h f = h
stays_on J R good better (Asks q at next) go h f = (h.0, λ o i. stays_on J R good better (next o) go (h.1 o i) f)
stays_on J R good better Stuck go h f = tt

pub stays_if : {Q W A : Type 0} (J : W → Type 0) (R : Q → Type 0) (good : A → Type 0) (b : Bool) (d e : Ends Q W A) → (b ≡ true → Stays J R good d) → (b ≡ false → Stays J R good e) → Stays J R good (if b then d else e)
stays_if J R good true d e h g = h refl
stays_if J R good false d e h g = g refl

-- ---- bindings

bindings_last : (env : List Binding) (name : List ℕ) (v : Val) → AreBindings env → IsVal v → AreBindings (env ++ (name, v) ∷ [])
bindings_last [] name v h g = (g, tt)
bindings_last (b ∷ env) name v h g = (h.0, bindings_last env name v h.1 g)

bindings_taken : (n : ℕ) (env : List Binding) → AreBindings env → AreBindings (take n env)
bindings_taken zero [] h = tt
bindings_taken zero (b ∷ env) h = tt
bindings_taken (suc n) [] h = tt
bindings_taken (suc n) (b ∷ env) h = (h.0, bindings_taken n env h.1)

assigned_by : (c : Bool) (b : Binding) (v : Val) (env others : List Binding) → AreBindings (b ∷ env) → AreBindings others → IsVal v → AreBindings (if c then b ∷ others else (b.0, v) ∷ env)
assigned_by true b v env others h k g = (h.0, k)
assigned_by false b v env others h k g = (g, h.1)

bindings_assigned : (env : List Binding) (name : List ℕ) (v : Val) → AreBindings env → IsVal v → AreBindings (assigned env name v)
bindings_assigned [] name v h g = tt
bindings_assigned (b ∷ env) name v h g = assigned_by (is_bound env name || not (bytes_eq b.0 name)) b v env (assigned env name v) h (bindings_assigned env name v h.1 g) g

-- a list value of so many items
pub record HasItems (n : ℕ) (v : Val) : Type 0 where
  pub val : IsVal v
  pub items : List Val
  pub is : v ≡ ListOf (items_of items)
  pub many : length items ≡ n

-- ---- blocks, loops and handlers

module _ {Q W : Type 0} (J : W → Type 0) (R : Q → Type 0) where
  -- an act that stays within the limits
  abbrev pub ActKept : Act Q W → Type 0
  ActKept a = (at : At W) → AtWithin J at → Stays J R Anything (a at)

  ended_kept : {A : Type 0} (good : A → Type 0) (at : At W) (d : End A) → GivesWithin good d → AtWithin J at → Stays J R good (ended at d)
  ended_kept good at (Gives a units cost) h i = (h, i)
  ended_kept good at (Fails word units cost) h i = (h, i)
  ended_kept good at NoEnd h i = tt

  pub taken_kept : (o : Outcome) → IsOutcome o → (at : At W) → AtWithin J at → Stays J R IsVal (taken o at)
  taken_kept (Value v) h at i = (h, i)
  taken_kept (Failure word) h at i = (h, i)

  text_kept : (o : Option (List ℕ)) → TextFits o → (at : At W) → AtWithin J at → Stays J R IsWord (text_or_type o at)
  text_kept (Some t) h at i = (h, i)
  text_kept None h at i = (type_word, i)

  bool_kept : (o : Option Bool) (at : At W) → AtWithin J at → Stays J R Anything (bool_or_type o at)
  bool_kept (Some b) at i = (tt, i)
  bool_kept None at i = (type_word, i)

  list_kept : (o : Option (List Val)) → ListFits o → (at : At W) → AtWithin J at → Stays J R AreVals (list_or_type o at)
  list_kept (Some vs) h at i = (h, i)
  list_kept None h at i = (type_word, i)

  items_kept : (n : ℕ) (vs : List Val) → length vs ≡ n → (o : Outcome) → ListsAs vs o → (at : At W) → AtWithin J at → Stays J R (HasItems n) (taken o at)
  items_kept n vs same (Value v) h at i = (record { val = h.0; items = vs; is = h.1; many = same }, i)
  items_kept n vs same (Failure word) h at i = (h, i)

  less_kept : (n : ℕ) (go : Act Q W) (at : At W) → ActKept go → AtWithin J at → Stays J R Anything (one_unit_less n at go)
  less_kept zero go at h i = (budget_word, i)
  less_kept (suc n) go at h i = h (record at { units = n }) i

  unit_kept : (go : Act Q W) → ActKept go → ActKept (with_unit go)
  unit_kept go h at i = less_kept at.units go at h i

  chosen_kept : (b : Bool) (one two : Act Q W) → ActKept one → ActKept two → ActKept (chosen b one two)
  chosen_kept true one two h g = h
  chosen_kept false one two h g = g

  closed_kept : (n : ℕ) (d : Ends Q W (Unit {0})) → Stays J R Anything d → Stays J R Anything (closed n d)
  closed_kept n (Goes a at) h = (h.0, (bindings_taken n at.env h.1.0, h.1.1))
  closed_kept n (Returns v at) h = h
  closed_kept n (Failed word at) h = (h.0, (bindings_taken n at.env h.1.0, h.1.1))
  closed_kept n (Asks q at next) h = (h.0, λ o i. closed_kept n (next o) (h.1 o i))
  closed_kept n Stuck h = tt

  abbrev pub AllKept : List (Act Q W) → Type 0
  AllKept [] = Unit {0}
  AllKept (a ∷ rest) = ActKept a × AllKept rest

  pub order_kept : (body : List (Act Q W)) → AllKept body → ActKept (in_order body)
  order_kept [] h = λ at i. (tt, i)
  order_kept (s ∷ rest) h = λ at i. stays_on J R Anything Anything (s at) (λ u. in_order rest) (h.0 at i) (λ u at k i. order_kept rest h.1 at i)

  block_kept : (body : List (Act Q W)) → AllKept body → ActKept (block body)
  block_kept body h at i = closed_kept (length at.env) (in_order body at) (order_kept body h at i)

  block_with_kept : (name : List ℕ) (v : Val) → IsVal v → (body : List (Act Q W)) → AllKept body → ActKept (block_with name v body)
  block_with_kept name v g body h at i = closed_kept (length at.env) (in_order body (bind name v at)) (order_kept body h (bind name v at) (bindings_last at.env name v i.0 g, i.1))

  turns_kept : (n : ℕ) (test : At W → Ends Q W Bool) (body : Act Q W) → ((at : At W) → AtWithin J at → Stays J R Anything (test at)) → ActKept body → ActKept (turns n test body)
  turns_kept zero test body ht hb = λ at i. (budget_word, i)
  turns_kept (suc n) test body ht hb = λ at i.
      stays_on J R Anything Anything (test at) _ (ht at i)
      (λ b at k i. chosen_kept b _ (Goes tt) (unit_kept _ (λ at i. stays_on J R Anything Anything (body at) _ (hb at i) (λ u at k i. turns_kept n test body ht hb at i))) (λ at i. (tt, i)) at i)

  each_kept : (vs : List Val) → AreVals vs → (name : List ℕ) (body : List (Act Q W)) → AllKept body → ActKept (for_each vs name body)
  each_kept [] g name body h = λ at i. (tt, i)
  each_kept (v ∷ vs) g name body h = λ at i.
      stays_on J R Anything Anything (with_unit (block_with name v body) at) _ (unit_kept (block_with name v body) (block_with_kept name v g.0 body h) at i) (λ u at k i. each_kept vs g.1 name body h at i)

  caught_kept : (name : List ℕ) (handler : List (Act Q W)) → AllKept handler → (d : Ends Q W (Unit {0})) → Stays J R Anything d → Stays J R Anything (caught name handler d)
  caught_kept name handler h (Goes a at) g = g
  caught_kept name handler h (Returns v at) g = g
  caught_kept name handler h (Failed word at) g =
      stays_if J R Anything (is_caught word) _ _ (λ e. block_with_kept name (Text word) (text_val word g.0) handler h at g.1) (λ e. g)
  caught_kept name handler h (Asks q at next) g = (g.0, λ o i. caught_kept name handler h (next o) (g.1 o i))
  caught_kept name handler h Stuck g = tt

-- each effect stays within the limits, at a table that is declared
pub record EffectsWithin {Q W : Type 0} (items : List Item) (J : W → Type 0) (R : Q → Type 0) (effects : Effects Q W) : Type 0 where
  pub get : (table : List ℕ) → any (is_table table) items ≡ true → (k : Val) → IsVal k → (at : At W) → AtWithin J at → Stays J R IsVal (effects.get table k at)
  pub scan : (table : List ℕ) → any (is_table table) items ≡ true → (lo hi : Val) → IsVal lo → IsVal hi → (at : At W) → AtWithin J at → Stays J R IsVal (effects.scan table lo hi at)
  pub put : (table : List ℕ) → any (is_table table) items ≡ true → (k v : Val) → IsVal k → IsVal v → (at : At W) → AtWithin J at → Stays J R Anything (effects.put table k v at)
  pub delete : (table : List ℕ) → any (is_table table) items ≡ true → (k : Val) → IsVal k → (at : At W) → AtWithin J at → Stays J R Anything (effects.delete table k at)
  pub call : (name : List ℕ) (n : ℕ) (args : Val) → HasItems n args → (at : At W) → AtWithin J at → Stays J R IsVal (effects.call name n args at)
  pub spawn : (name : List ℕ) (n : ℕ) (args : Val) → HasItems n args → (at : At W) → AtWithin J at → Stays J R IsVal (effects.spawn name n args at)
  pub await : (id : List ℕ) → IsWord id → (at : At W) → AtWithin J at → Stays J R IsVal (effects.await id at)

-- ---- what soundness says of each part

after_some : (o : Option Scope) (f : Binds) → is_some (after o f) ≡ true → (mid : Scope) × (is_some o ≡ true) × (is_some (f mid) ≡ true)
after_some (Some s) f e = (s, refl, e)
after_some None f e = absurd cc

let_some : (b : Bool) (o : Option Scope) → is_some (if b then o else None) ≡ true → b ≡ true
let_some true o e = refl
let_some false o e = absurd cc

same_some : (b : Bool) (scope : Scope) → is_some (same_if b scope) ≡ true → b ≡ true
same_some true scope e = refl
same_some false scope e = absurd cc

module _ {Q W : Type 0} (effects : Effects Q W) (calls : Calls) (items : List Item) (body : Body) (J : W → Type 0) (R : Q → Type 0) (keep : EffectsWithin items J R effects) (within : CallsWithin calls) where
  value_kept : (e : Expr) → expr_fits e ≡ true → (at : At W) → AtWithin J at → Stays J R IsVal (value effects calls e at)
  value_kept e fit at i = ended_kept J R IsVal at (evaluated calls e at.env at.units at.cost) (expression_within calls within e fit at.env i.0 at.units at.cost) i

  condition_kept : (e : Expr) → expr_fits e ≡ true → (at : At W) → AtWithin J at → Stays J R Anything (condition effects calls e at)
  condition_kept e fit at i = stays_on J R IsVal Anything (value effects calls e at) _ (value_kept e fit at i) (λ v at h i. bool_kept J R (bool_of v) at i)

  list_value_kept : (e : Expr) → expr_fits e ≡ true → (at : At W) → AtWithin J at → Stays J R AreVals (list_value effects calls e at)
  list_value_kept e fit at i = stays_on J R IsVal AreVals (value effects calls e at) _ (value_kept e fit at i) (λ v at h i. list_kept J R (list_of v) (list_fits v h) at i)

  text_value_kept : (e : Expr) → expr_fits e ≡ true → (at : At W) → AtWithin J at → Stays J R IsWord (text_value effects calls e at)
  text_value_kept e fit at i = stays_on J R IsVal IsWord (value effects calls e at) _ (value_kept e fit at i) (λ v at h i. text_kept J R (text_of v) (text_fits v h) at i)

  arguments_kept : (es : List Expr) → exprs_fit es ≡ true → (at : At W) → AtWithin J at → Stays J R (HasItems (length es)) (arguments effects calls es at)
  arguments_kept es fit at i =
      stays_on J R (SoMany (length es)) (HasItems (length es)) (ended at (values_onto [] (map (evaluated calls) es) at.env at.units at.cost)) _
      (ended_kept J R (SoMany (length es)) at (values_onto [] (map (evaluated calls) es) at.env at.units at.cost) (arguments_within calls within [] es fit at.env i.0 tt (length es) (omega arith) at.units at.cost) i)
      (λ vs at h i. items_kept J R (length es) vs h.1 (list_or_size vs) (lists_as vs (are_proper vs h.0)) at i)

  asked_kept : (a : Ask) → ask_fits a ≡ true → (at : At W) → AtWithin J at → Stays J R IsVal (asked effects calls a at)
  asked_kept (ask.Call name args) fit at i = stays_on J R (HasItems (length args)) IsVal (arguments effects calls args at) _ (arguments_kept args fit at i) (λ v at h i. keep.call name (length args) v h at i)
  asked_kept (ask.Spawn name args) fit at i = stays_on J R (HasItems (length args)) IsVal (arguments effects calls args at) _ (arguments_kept args fit at i) (λ v at h i. keep.spawn name (length args) v h at i)
  asked_kept (ask.Await id) fit at i = stays_on J R IsWord IsVal (text_value effects calls id at) _ (text_value_kept id fit at i) (λ t at h i. keep.await t h at i)

  -- the first two of three or four tests: the kind of body, and that the table is declared
  declared : (table : List ℕ) (rest : Bool) → (is_txn body && any (is_table table) items && rest) ≡ true → any (is_table table) items ≡ true
  declared table rest e = and_second (is_txn body) (any (is_table table) items) (and_first (is_txn body && any (is_table table) items) rest e)

  given_kept : (r : Rhs) (scope : Scope) → rhs_is_sound items body r scope ≡ true → rhs_fits r ≡ true → (at : At W) → AtWithin J at → Stays J R IsVal (given effects calls r at)
  given_kept (rhs.Plain e) scope sound fit at i = value_kept e fit at i
  given_kept (rhs.Ask a) scope sound fit at i = asked_kept a fit at i
  given_kept (rhs.Get table key) scope sound fit at i =
      stays_on J R IsVal IsVal (value effects calls key at) _ (value_kept key fit at i) (λ k at h i. keep.get table (declared table (expr_is_sound items key scope) sound) k h at i)
  given_kept (rhs.Scan table lo hi) scope sound fit at i =
      let front = and_first (is_txn body && any (is_table table) items && expr_is_sound items lo scope) (expr_is_sound items hi scope) sound in
      stays_on J R IsVal IsVal (value effects calls lo at) _ (value_kept lo (and_first (expr_fits lo) (expr_fits hi) fit) at i)
      (λ l at h i. stays_on J R IsVal IsVal (value effects calls hi at) _ (value_kept hi (and_second (expr_fits lo) (expr_fits hi) fit) at i)
      (λ u at k i. keep.scan table (declared table (expr_is_sound items lo scope) front) l u h k at i))

  abbrev P : Stmt → Type 0
  P s = (scope : Scope) → is_some (binds items body s scope) ≡ true → stmt_fits s ≡ true → (at : At W) → AtWithin J at → Stays J R Anything (acted effects calls s at)

  abbrev acts : List (Shown P) → List (Act Q W)
  acts ss = map (acted effects calls) (map (λ s. s.0) ss)

  abbrev steps : List (Shown P) → List Binds
  steps ss = map (binds items body) (map (λ s. s.0) ss)

  abbrev fits : List (Shown P) → List Bool
  fits ss = map stmt_fits (map (λ s. s.0) ss)

  acts_kept : (ss : List (Shown P)) (scope : Scope) → is_some (all_in_order (steps ss) scope) ≡ true → all_fit (fits ss) ≡ true → AllKept J R (acts ss)
  acts_kept [] scope e f = tt
  acts_kept (s ∷ ss) scope e f =
      let parts = after_some (binds items body s.0 scope) (all_in_order (steps ss)) e in
      (s.1 scope parts.1 (and_first (stmt_fits s.0) (all_fit (fits ss)) f), acts_kept ss parts.0 parts.2 (and_second (stmt_fits s.0) (all_fit (fits ss)) f))

  -- the same of a block in which a name is bound
  with_kept : (ss : List (Shown P)) (name : List ℕ) (scope : Scope) → block_sound_with name (steps ss) scope ≡ true → all_fit (fits ss) ≡ true → AllKept J R (acts ss)
  with_kept ss name scope e f = let parts = after_some (with_new name scope) (all_in_order (steps ss)) e in acts_kept ss parts.0 parts.2 f

  statement_kept : (y : Stmt-F (Shown P)) (scope : Scope) → is_some (statement_binds items body (map-Stmt Stmt Binds (binds items body) (map-Stmt (Shown P) Stmt (λ s. s.0) y)) scope) ≡ true
      → statement_fits (map-Stmt Stmt Bool stmt_fits (map-Stmt (Shown P) Stmt (λ s. s.0) y)) ≡ true → (at : At W) → AtWithin J at
      → Stays J R Anything (statement effects calls (map-Stmt Stmt (Act Q W) (acted effects calls) (map-Stmt (Shown P) Stmt (λ s. s.0) y)) at)
  statement_kept (Stmt-F.Let name r) scope e f = λ at i.
      stays_on J R IsVal Anything (given effects calls r at) _ (given_kept r scope (let_some (rhs_is_sound items body r scope) (with_new name scope) e) f at i) (λ v at h i. (tt, (bindings_last at.env name v i.0 h, i.1)))
  statement_kept (Stmt-F.Set name r) scope e f = λ at i.
      stays_on J R IsVal Anything (given effects calls r at) _
      (given_kept r scope (and_second (contains scope name) (rhs_is_sound items body r scope) (same_some (contains scope name && rhs_is_sound items body r scope) scope e)) f at i)
      (λ v at h i. (tt, (bindings_assigned at.env name v i.0 h, i.1)))
  statement_kept (Stmt-F.Do a) scope e f = λ at i. stays_on J R IsVal Anything (asked effects calls a at) _ (asked_kept a f at i) (λ v at h i. (tt, i))
  statement_kept (Stmt-F.Put table key e') scope e f = λ at i.
      let front = is_txn body && any (is_table table) items && expr_is_sound items key scope in
      let sound : front ≡ true = and_first front (expr_is_sound items e' scope) (same_some (front && expr_is_sound items e' scope) scope e) in
      stays_on J R IsVal Anything (value effects calls key at) _ (value_kept key (and_first (expr_fits key) (expr_fits e') f) at i)
      (λ k at h i. stays_on J R IsVal Anything (value effects calls e' at) _ (value_kept e' (and_second (expr_fits key) (expr_fits e') f) at i)
      (λ v at g i. keep.put table (declared table (expr_is_sound items key scope) sound) k v h g at i))
  statement_kept (Stmt-F.Delete table key) scope e f = λ at i.
      let front = is_txn body && any (is_table table) items && expr_is_sound items key scope in
      stays_on J R IsVal Anything (value effects calls key at) _ (value_kept key f at i)
      (λ k at h i. keep.delete table (declared table (expr_is_sound items key scope) (same_some front scope e)) k h at i)
  statement_kept (Stmt-F.If cond one None) scope e f = λ at i.
      let front = expr_is_sound items cond scope && block_is_sound (steps one) scope in
      let sound = and_first front true (same_some (front && true) scope e) in
      let fit = and_first (expr_fits cond && all_fit (fits one)) true f in
      stays_on J R Anything Anything (condition effects calls cond at) _ (condition_kept cond (and_first (expr_fits cond) (all_fit (fits one)) fit) at i)
      (λ b at h i. chosen_kept J R b (block (acts one)) (Goes tt) (block_kept J R (acts one) (acts_kept one scope (and_second (expr_is_sound items cond scope) (block_is_sound (steps one) scope) sound) (and_second (expr_fits cond) (all_fit (fits one)) fit)))
      (λ at i. (tt, i)) at i)
  statement_kept (Stmt-F.If cond one (Some two)) scope e f = λ at i.
      let front = expr_is_sound items cond scope && block_is_sound (steps one) scope in
      let whole = same_some (front && block_is_sound (steps two) scope) scope e in
      let sound = and_first front (block_is_sound (steps two) scope) whole in
      let fit = and_first (expr_fits cond && all_fit (fits one)) (all_fit (fits two)) f in
      stays_on J R Anything Anything (condition effects calls cond at) _ (condition_kept cond (and_first (expr_fits cond) (all_fit (fits one)) fit) at i)
      (λ b at h i. chosen_kept J R b (block (acts one)) (block (acts two))
      (block_kept J R (acts one) (acts_kept one scope (and_second (expr_is_sound items cond scope) (block_is_sound (steps one) scope) sound) (and_second (expr_fits cond) (all_fit (fits one)) fit)))
      (block_kept J R (acts two) (acts_kept two scope (and_second front (block_is_sound (steps two) scope) whole) (and_second (expr_fits cond && all_fit (fits one)) (all_fit (fits two)) f))) at i)
  statement_kept (Stmt-F.While cond b) scope e f = λ at i.
      turns_kept J R (suc at.units) (condition effects calls cond) (block (acts b)) (condition_kept cond (and_first (expr_fits cond) (all_fit (fits b)) f))
      (block_kept J R (acts b) (acts_kept b scope (and_second (expr_is_sound items cond scope) (block_is_sound (steps b) scope) (same_some (expr_is_sound items cond scope && block_is_sound (steps b) scope) scope e)) (and_second (expr_fits cond) (all_fit (fits b)) f))) at i
  statement_kept (Stmt-F.Each name list b) scope e f = λ at i.
      let sound = and_second (expr_is_sound items list scope) (block_sound_with name (steps b) scope) (same_some (expr_is_sound items list scope && block_sound_with name (steps b) scope) scope e) in
      stays_on J R AreVals Anything (list_value effects calls list at) _ (list_value_kept list (and_first (expr_fits list) (all_fit (fits b)) f) at i)
      (λ vs at h i. each_kept J R vs h name (acts b) (with_kept b name scope sound (and_second (expr_fits list) (all_fit (fits b)) f)) at i)
  statement_kept (Stmt-F.Try b name handler) scope e f = λ at i.
      let sound = same_some (block_is_sound (steps b) scope && block_sound_with name (steps handler) scope) scope e in
      caught_kept J R name (acts handler) (with_kept handler name scope (and_second (block_is_sound (steps b) scope) (block_sound_with name (steps handler) scope) sound) (and_second (all_fit (fits b)) (all_fit (fits handler)) f))
      (block (acts b) at) (block_kept J R (acts b) (acts_kept b scope (and_first (block_is_sound (steps b) scope) (block_sound_with name (steps handler) scope) sound) (and_first (all_fit (fits b)) (all_fit (fits handler)) f)) at i)
  statement_kept (Stmt-F.Return e') scope e f = λ at i. stays_on J R IsVal Anything (value effects calls e' at) _ (value_kept e' f at i) (λ v at h i. (h, i.1))
  statement_kept (Stmt-F.Fail e') scope e f = λ at i. stays_on J R IsWord Anything (text_value effects calls e' at) _ (text_value_kept e' f at i) (λ t at h i. (h, i))

  level : (y : Stmt-F (Shown P)) → P (roll-Stmt (map-Stmt (Shown P) Stmt (λ s. s.0) y))
  level y scope e f at i =
      let x = map-Stmt (Shown P) Stmt (λ s. s.0) y in
      let same = ap (λ (b : Binds). is_some (b scope)) (fold-roll-Stmt Binds (statement_binds items body) x) in
      subst (λ (d : Ends Q W (Unit {0})). Stays J R Anything d) (sym (acted_roll effects calls x at)) (statement_kept y scope (sym same ∙ e) (sym (fold-roll-Stmt Bool statement_fits x) ∙ f) at i)

  act_kept : (s : Stmt) → P s
  act_kept = by_levels P level

  all_acts_kept : (b : List Stmt) (scope : Scope) → is_some (all_in_order (map (binds items body) b) scope) ≡ true → body_fits b ≡ true → AllKept J R (map (acted effects calls) b)
  all_acts_kept [] scope e f = tt
  all_acts_kept (s ∷ b) scope e f =
      let parts = after_some (binds items body s scope) (all_in_order (map (binds items body) b)) e in
      (act_kept s scope parts.1 (and_first (stmt_fits s) (body_fits b) f), all_acts_kept b parts.0 parts.2 (and_second (stmt_fits s) (body_fits b) f))

  pub body_kept : (params : List (List ℕ)) (b : List Stmt) → body_is_sound items body params b ≡ true → body_fits b ≡ true → (at : At W) → AtWithin J at → Stays J R Anything (body_of effects calls b at)
  body_kept params b e f = order_kept J R (map (acted effects calls) b) (all_acts_kept b params e f)
