-- A workflow's run asks for a transaction only where the program has it, on as many arguments as it has parameters.
use Rattle.std.proofs.Common.{◌≡◌, ℕ, zero, suc, ◌+◌, Bool, true, false, List, [], ◌∷◌, ◌++◌, length, Option, Some, None, refl, sym, subst, ap, ◌∙◌, length-append, arith}
use Rattle.std.specs.Prelude.{map, if◌then◌else◌, nat_lt, nat_eq, IsSome, Ok, Err}
use Rattle.std.specs.Str.{bytes_eq}
use Rattle.r3_value.specs.declared.fault.ValFault.{ValFault}
use Rattle.r3_value.specs.declared.value.Val.{Val}
use Rattle.r3_value.specs.declared.value.Val.TheVariants.{Text, List as ListOf}
use Rattle.r3_value.specs.declared.value.Outcome.{Outcome}
use Rattle.r3_value.specs.declared.value.Outcome.TheVariants.{Value, Failure}
use Rattle.r3_value.specs.Value as meant
use Rattle.r3_value.specs.View as views
use Rattle.r3_value.proofs.ItemsLemmas.{vals_of-items_of}
use Rattle.fn_tree.specs.declared.expr.Expr.{Expr}
use Rattle.fn_tree.specs.declared.flow.Answer.{Answer}
use Rattle.fn_tree.specs.declared.flow.AskKind.{AskKind}
use Rattle.fn_tree.specs.declared.flow.AskKind.TheVariants as kinds
use Rattle.fn_tree.specs.declared.flow.FlowEnd.{FlowEnd}
use Rattle.fn_tree.specs.declared.flow.FlowEnd.TheVariants as flow
use Rattle.fn_tree.specs.declared.flow.Request.{Request}
use Rattle.fn_tree.specs.declared.program.Item.{Item}
use Rattle.fn_tree.specs.declared.program.Item.TheVariants as item
use Rattle.fn_tree.specs.declared.stmt.Ask.{Ask}
use Rattle.fn_tree.specs.declared.stmt.Ask.TheVariants as ask
use Rattle.fn_tree.specs.declared.stmt.Rhs.{Rhs}
use Rattle.fn_tree.specs.declared.stmt.Rhs.TheVariants as rhs
use Rattle.fn_tree.specs.declared.stmt.Stmt.{Stmt}
use Rattle.fn_tree.specs.declared.stmt.Stmt.TheOpen.{Stmt-F}
use Rattle.fn_tree.specs.declared.stmt.Stmt.TheFolds.{map-Stmt}
use Rattle.fn_tree.specs.Declarations.{called, spawned, first, spawn_of, or_else}
use Rattle.fn_tree.specs.Evaluation.{Run, then_do}
use Rattle.fn_tree.specs.Expression.{End, Gives, Fails, Stuck as NoEnd, Calls, calls_of, evaluated, values_onto}
use Rattle.fn_tree.specs.Flow.{Place, Left, on_asks, ask_or_stuck, answered, flow_begun, begun_on, begun_among, flow_of}
use Rattle.fn_tree.specs.Flow as flows
use Rattle.fn_tree.specs.Sequences.{list_or_size, value_or_size}
use Rattle.fn_tree.specs.Statement.{Goes, Returns, Failed, Asks, Stuck, Act, and_then, bind, is_caught, ended, taken, text_or_type, bool_or_type, list_or_type, one_unit_less, with_unit, closed, in_order, block, block_with, chosen, turns, for_each, caught, value, condition, list_value, text_value, arguments, asked, given, statement, acted, body_of}
use Rattle.fn_tree.specs.Transaction.{Counted}
use Rattle.fn_tree.specs.Values.{bool_of, text_of, items_of}
use Rattle.fn_meaning.proofs.StatementLemmas.{Shown, by_levels, acted_roll}
use Rattle.fn_txn.specs.Runs.{arguments_of}
use Rattle.r3_model.specs.Functions.{end_of, language_of}
use Rattle.r3_turns.specs.Asks.{IsCall}

abbrev IsThere : List Item → Request → Type 0
IsThere items q = q.kind ≡ kinds.Txn → IsCall items q

-- every ask is there, and what a part goes on with has G
abbrev Fits : {A : Type 0} → List Item → (A → Type 0) → Left A → Type 0
Fits items G (Goes a at) = G a
Fits items G (Returns v at) = Unit {0}
Fits items G (Failed word at) = Unit {0}
Fits items G (Asks q at next) = IsThere items q × ((o : Outcome) → Fits items G (next o))
Fits items G Stuck = Unit {0}

abbrev Any : {A : Type 0} → A → Type 0
Any a = Unit {0}

abbrev Action : Type 0
Action = Act Request ℕ

-- a list of so many values
record IsListOf (n : ℕ) (v : Val) : Type 0 where
  list : List Val
  is : items_of v ≡ Some list
  long : length list ≡ n

-- ---- as many values as expressions

abbrev Lists : ℕ → End (List Val) → Type 0
Lists n (Gives vs units cost) = length vs ≡ n
Lists n (Fails word units cost) = Unit {0}
Lists n NoEnd = Unit {0}

then-lists : (n : ℕ) (d : End Val) (go : Val → ℕ → ℕ → End (List Val)) → ((v : Val) (units cost : ℕ) → Lists n (go v units cost)) → Lists n (then_do d go)
then-lists n (Gives v units cost) go f = f v units cost
then-lists n (Fails word units cost) go f = tt
then-lists n NoEnd go f = tt

lists-onto : (es : List Run) (done : List Val) (n : ℕ) → length done + length es ≡ n → (env : List (List ℕ × Val)) (units cost : ℕ) → Lists n (values_onto done es env units cost)
lists-onto [] done n is env units cost = omega arith
lists-onto (e ∷ es) done n is env units cost =
    then-lists n (e env units cost) _ (λ v u c. lists-onto es (done ++ v ∷ []) n (omega (arith, is, length-append done (v ∷ []))) env u c)

mapped-length : (calls : Calls) (es : List Expr) → length (map (evaluated calls) es) ≡ length es
mapped-length calls [] = refl
mapped-length calls (e ∷ es) = let rest = mapped-length calls es in omega arith

-- ---- parts of bodies

module _ (items : List Item) where
  abbrev Part : {A : Type 0} → (Place → Left A) → Type 0
  Part f = (at : Place) → Fits items Any (f at)

  then-fits : {A B : Type 0} (G : A → Type 0) (H : B → Type 0) (d : Left A) (go : A → Place → Left B) → Fits items G d → ((a : A) → G a → (at : Place) → Fits items H (go a at)) → Fits items H (and_then d go)
  then-fits G H (Goes a at) go h f = f a h at
  then-fits G H (Returns v at) go h f = tt
  then-fits G H (Failed word at) go h f = tt
  then-fits G H (Asks q at next) go h f = (h.0, λ o. then-fits G H (next o) go (h.1 o) f)
  then-fits G H Stuck go h f = tt

  on-all : {A B : Type 0} (d : Left A) (go : A → Place → Left B) → Fits items Any d → ((a : A) → Part (go a)) → Fits items Any (and_then d go)
  on-all d go h f = then-fits Any Any d go h (λ a any. f a)

  by-if : {A : Type 0} (b : Bool) (d e : Left A) → Fits items Any d → Fits items Any e → Fits items Any (if b then d else e)
  by-if true d e h g = h
  by-if false d e h g = g

  ended-all : {A : Type 0} (at : Place) (d : End A) → Fits items Any (ended at d)
  ended-all at (Gives a units cost) = tt
  ended-all at (Fails word units cost) = tt
  ended-all at NoEnd = tt

  ended-lists : (n : ℕ) (at : Place) (d : End (List Val)) → Lists n d → Fits items (λ vs. length vs ≡ n) (ended at d)
  ended-lists n at (Gives vs units cost) h = h
  ended-lists n at (Fails word units cost) h = tt
  ended-lists n at NoEnd h = tt

  taken-all : (o : Outcome) → Part (taken o)
  taken-all (Value v) at = tt
  taken-all (Failure word) at = tt

  text-all : (o : Option (List ℕ)) → Part (text_or_type o)
  text-all (Some t) at = tt
  text-all None at = tt

  bool-all : (o : Option Bool) → Part (bool_or_type o)
  bool-all (Some t) at = tt
  bool-all None at = tt

  list-all : (o : Option (List Val)) → Part (list_or_type o)
  list-all (Some t) at = tt
  list-all None at = tt

  less-all : (units : ℕ) (go : Action) (at : Place) → Part go → Fits items Any (one_unit_less units at go)
  less-all zero go at h = tt
  less-all (suc units) go at h = h (record at { units = units })

  unit-all : (go : Action) → Part go → Part (with_unit go)
  unit-all go h at = less-all at.units go at h

  chosen-all : (b : Bool) (one two : Action) → Part one → Part two → Part (chosen b one two)
  chosen-all true one two h g = h
  chosen-all false one two h g = g

  closed-all : (k : ℕ) (d : Left (Unit {0})) → Fits items Any d → Fits items Any (closed k d)
  closed-all k (Goes a at) h = tt
  closed-all k (Returns v at) h = tt
  closed-all k (Failed word at) h = tt
  closed-all k (Asks q at next) h = (h.0, λ o. closed-all k (next o) (h.1 o))
  closed-all k Stuck h = tt

  abbrev AllParts : List Action → Type 0
  AllParts [] = Unit {0}
  AllParts (a ∷ rest) = Part a × AllParts rest

  order-all : (body : List Action) → AllParts body → Part (in_order body)
  order-all [] h = λ at. tt
  order-all (s ∷ rest) h = λ at. on-all (s at) (λ u. in_order rest) (h.0 at) (λ u. order-all rest h.1)

  block-all : (body : List Action) → AllParts body → Part (block body)
  block-all body h at = closed-all (length at.env) (in_order body at) (order-all body h at)

  block_with-all : (name : List ℕ) (v : Val) (body : List Action) → AllParts body → Part (block_with name v body)
  block_with-all name v body h at = closed-all (length at.env) (in_order body (bind name v at)) (order-all body h (bind name v at))

  turns-all : (most : ℕ) (test : Place → Left Bool) (body : Action) → Part test → Part body → Part (turns most test body)
  turns-all zero test body ht hb = λ at. tt
  turns-all (suc most) test body ht hb = λ at.
      on-all (test at) _ (ht at) (λ b. chosen-all b _ (Goes tt) (unit-all _ (λ at. on-all (body at) _ (hb at) (λ u. turns-all most test body ht hb))) (λ at. tt))

  each-all : (vs : List Val) (name : List ℕ) (body : List Action) → AllParts body → Part (for_each vs name body)
  each-all [] name body h = λ at. tt
  each-all (v ∷ vs) name body h = λ at. on-all (with_unit (block_with name v body) at) _ (unit-all (block_with name v body) (block_with-all name v body h) at) (λ u. each-all vs name body h)

  caught-all : (name : List ℕ) (handler : List Action) → AllParts handler → (d : Left (Unit {0})) → Fits items Any d → Fits items Any (caught name handler d)
  caught-all name handler h (Goes a at) i = tt
  caught-all name handler h (Returns v at) i = tt
  caught-all name handler h (Failed word at) i = by-if (is_caught word) _ _ (block_with-all name (Text word) handler h at) tt
  caught-all name handler h (Asks q at next) i = (i.0, λ o. caught-all name handler h (next o) (i.1 o))
  caught-all name handler h Stuck i = tt

  -- ---- the asks

  ask-fits : (k : AskKind) (name : List ℕ) (args : Val) → ((n : ℕ) → IsThere items (record { n = n; kind = k; name = name; args = args })) → Part (flows.ask k name args)
  ask-fits k name args there at = by-if (nat_lt at.world 1000) _ _ (there at.world, λ o. taken-all o (record at { world = suc at.world })) tt

  listed : (name : List ℕ) (n : ℕ) (args : Val) → IsListOf n args → called items name n ≡ Some kinds.Txn → (at : ℕ) → IsCall items (record { n = at; kind = kinds.Txn; name = name; args = args })
  listed name n args is call at = record {
    list = subst (λ (o : Option (List Val)). IsSome o) (sym is.is) refl;
    called = subst (λ (o : Option (List Val)). called items name (length (arguments_of o)) ≡ Some kinds.Txn) (sym is.is) (ap (λ (m : ℕ). called items name m) is.long ∙ call);
  }

  moved : (k : AskKind) (name : List ℕ) (n : ℕ) (args : Val) → IsListOf n args → called items name n ≡ Some k → (at : ℕ) → IsThere items (record { n = at; kind = k; name = name; args = args })
  moved k name n args is call at same =
      let there = listed name n args is (call ∙ ap (λ (k : AskKind). Some k) same) at in record { list = there.list; called = there.called }

  call-fits : (o : Option AskKind) (name : List ℕ) (n : ℕ) (args : Val) → IsListOf n args → called items name n ≡ o → Part (ask_or_stuck o name args)
  call-fits (Some k) name n args is call = ask-fits k name args (moved k name n args is call)
  call-fits None name n args is call = λ at. tt

  spawns-by : (b : Bool) (o : Option AskKind) (k : AskKind) → or_else (if b then Some kinds.Child else None) o ≡ Some k → (o ≡ Some k → k ≡ kinds.Child) → k ≡ kinds.Child
  spawns-by true o k is rest = let z : Some kinds.Child ≡ Some k = is in cc
  spawns-by false o k is rest = rest is

  spawns-child : (rest : List Item) (name : List ℕ) (n : ℕ) (k : AskKind) → first (spawn_of name n) rest ≡ Some k → k ≡ kinds.Child
  spawns-child [] name n k is = absurd (let z : None ≡ Some k = is in cc)
  spawns-child (item.Flow x params body ∷ rest) name n k is = spawns-by _ (first (spawn_of name n) rest) k is (spawns-child rest name n k)
  spawns-child (item.Table x ∷ rest) name n k is = spawns-child rest name n k is
  spawns-child (item.Queue x bound ∷ rest) name n k is = spawns-child rest name n k is
  spawns-child (item.Outside x params ∷ rest) name n k is = spawns-child rest name n k is
  spawns-child (item.Helper x params body ∷ rest) name n k is = spawns-child rest name n k is
  spawns-child (item.Txn serial x params body ∷ rest) name n k is = spawns-child rest name n k is

  no-child : (q : Request) (k : AskKind) → k ≡ kinds.Child → k ≡ kinds.Txn → IsCall items q
  no-child q k child same = absurd (let z : kinds.Child ≡ kinds.Txn = sym child ∙ same in cc)

  no-await : (q : Request) → kinds.Await ≡ kinds.Txn → IsCall items q
  no-await q same = absurd (let z : kinds.Await ≡ kinds.Txn = same in cc)

  spawn-fits : (o : Option AskKind) (name : List ℕ) (n : ℕ) (args : Val) → spawned items name n ≡ o → Part (ask_or_stuck o name args)
  spawn-fits (Some k) name n args is = ask-fits k name args (λ at. no-child _ k (spawns-child items name n k is))
  spawn-fits None name n args is = λ at. tt

module _ (items : List Item) (calls : Calls) where
  value-all : (e : Expr) → Part items (value (on_asks items) calls e)
  value-all e at = ended-all items at (evaluated calls e at.env at.units at.cost)

  condition-all : (e : Expr) → Part items (condition (on_asks items) calls e)
  condition-all e at = on-all items (value (on_asks items) calls e at) _ (value-all e at) (λ v. bool-all items (bool_of v))

  list_value-all : (e : Expr) → Part items (list_value (on_asks items) calls e)
  list_value-all e at = on-all items (value (on_asks items) calls e at) _ (value-all e at) (λ v. list-all items (items_of v))

  text_value-all : (e : Expr) → Part items (text_value (on_asks items) calls e)
  text_value-all e at = on-all items (value (on_asks items) calls e at) _ (value-all e at) (λ v. text-all items (text_of v))

  sized : (n : ℕ) (a b : Bool) (vs : List Val) (f g : ValFault) (at : Place) → length vs ≡ n
      → Fits items (IsListOf n) (taken (value_or_size (if a then Err f else if b then Err g else Ok (ListOf (views.items_of vs)))) at)
  sized n true b vs f g at long = tt
  sized n false true vs f g at long = tt
  sized n false false vs f g at long = record { list = views.vals_of (views.items_of vs); is = refl; long = ap (λ (x : List Val). length x) (vals_of-items_of vs) ∙ long }

  list-fits : (n : ℕ) (vs : List Val) (at : Place) → length vs ≡ n → Fits items (IsListOf n) (taken (list_or_size vs) at)
  unfolding list_or_size
  list-fits n vs at long =
      sized n (nat_lt 4096 (meant.weight (meant.list (views.items_of vs)))) (nat_lt 16 (meant.depth (meant.list (views.items_of vs)))) vs _ _ at long

  arguments-fit : (es : List Expr) (at : Place) → Fits items (IsListOf (length es)) (arguments (on_asks items) calls es at)
  arguments-fit es at =
      then-fits items (λ vs. length vs ≡ length es) (IsListOf (length es)) (ended at (values_onto [] (map (evaluated calls) es) at.env at.units at.cost)) _
      (ended-lists items (length es) at _ (lists-onto (map (evaluated calls) es) [] (length es) (omega (arith, mapped-length calls es)) at.env at.units at.cost))
      (λ vs long at. list-fits (length es) vs at long)

  asked-all : (a : Ask) → Part items (asked (on_asks items) calls a)
  asked-all (ask.Call name args) at =
      then-fits items (IsListOf (length args)) Any (arguments (on_asks items) calls args at) _ (arguments-fit args at)
      (λ v is. call-fits items (called items name (length args)) name (length args) v is refl)
  asked-all (ask.Spawn name args) at =
      then-fits items (IsListOf (length args)) Any (arguments (on_asks items) calls args at) _ (arguments-fit args at)
      (λ v is. spawn-fits items (spawned items name (length args)) name (length args) v refl)
  asked-all (ask.Await id) at = on-all items (text_value (on_asks items) calls id at) _ (text_value-all id at) (λ t. ask-fits items kinds.Await _ (Text t) (λ n. no-await items _))

  given-all : (r : Rhs) → Part items (given (on_asks items) calls r)
  given-all (rhs.Plain e) at = value-all e at
  given-all (rhs.Ask a) at = asked-all a at
  given-all (rhs.Get table key) at = on-all items (value (on_asks items) calls key at) _ (value-all key at) (λ k at. tt)
  given-all (rhs.Scan table lo hi) at = on-all items (value (on_asks items) calls lo at) _ (value-all lo at) (λ l at. on-all items (value (on_asks items) calls hi at) _ (value-all hi at) (λ k at. tt))

  abbrev P : Stmt → Type 0
  P s = Part items (acted (on_asks items) calls s)

  abbrev acts : List (Shown P) → List Action
  acts ss = map (acted (on_asks items) calls) (map (λ s. s.0) ss)

  acts-all : (ss : List (Shown P)) → AllParts items (acts ss)
  acts-all [] = tt
  acts-all (s ∷ ss) = (s.1, acts-all ss)

  statement-all : (y : Stmt-F (Shown P)) → Part items (statement (on_asks items) calls (map-Stmt Stmt Action (acted (on_asks items) calls) (map-Stmt (Shown P) Stmt (λ s. s.0) y)))
  statement-all (Stmt-F.Let name r) = λ at. on-all items (given (on_asks items) calls r at) _ (given-all r at) (λ v at. tt)
  statement-all (Stmt-F.Set name r) = λ at. on-all items (given (on_asks items) calls r at) _ (given-all r at) (λ v at. tt)
  statement-all (Stmt-F.Do a) = λ at. on-all items (asked (on_asks items) calls a at) _ (asked-all a at) (λ v at. tt)
  statement-all (Stmt-F.Put table key e) = λ at. on-all items (value (on_asks items) calls key at) _ (value-all key at) (λ k at. on-all items (value (on_asks items) calls e at) _ (value-all e at) (λ v at. tt))
  statement-all (Stmt-F.Delete table key) = λ at. on-all items (value (on_asks items) calls key at) _ (value-all key at) (λ k at. tt)
  statement-all (Stmt-F.If cond one None) = λ at. on-all items (condition (on_asks items) calls cond at) _ (condition-all cond at) (λ b. chosen-all items b (block (acts one)) (Goes tt) (block-all items (acts one) (acts-all one)) (λ at. tt))
  statement-all (Stmt-F.If cond one (Some two)) = λ at. on-all items (condition (on_asks items) calls cond at) _ (condition-all cond at) (λ b. chosen-all items b (block (acts one)) (block (acts two)) (block-all items (acts one) (acts-all one)) (block-all items (acts two) (acts-all two)))
  statement-all (Stmt-F.While cond b) = λ at. turns-all items (suc at.units) (condition (on_asks items) calls cond) (block (acts b)) (condition-all cond) (block-all items (acts b) (acts-all b)) at
  statement-all (Stmt-F.Each name list b) = λ at. on-all items (list_value (on_asks items) calls list at) _ (list_value-all list at) (λ vs. each-all items vs name (acts b) (acts-all b))
  statement-all (Stmt-F.Try b name handler) = λ at. caught-all items name (acts handler) (acts-all handler) (block (acts b) at) (block-all items (acts b) (acts-all b) at)
  statement-all (Stmt-F.Return e) = λ at. on-all items (value (on_asks items) calls e at) _ (value-all e at) (λ v at. tt)
  statement-all (Stmt-F.Fail e) = λ at. on-all items (text_value (on_asks items) calls e at) _ (text_value-all e at) (λ t at. tt)

  act-all : (s : Stmt) → P s
  act-all = by_levels P (λ y at. subst (λ (d : Left (Unit {0})). Fits items Any d) (sym (acted_roll (on_asks items) calls (map-Stmt (Shown P) Stmt (λ s. s.0) y) at)) (statement-all y at))

  all-acts : (b : List Stmt) → AllParts items (map (acted (on_asks items) calls) b)
  all-acts [] = tt
  all-acts (s ∷ b) = (act-all s, all-acts b)

  body-all : (b : List Stmt) → Part items (body_of (on_asks items) calls b)
  body-all b = order-all items (map (acted (on_asks items) calls) b) (all-acts b)

-- ---- the runs

module _ (items : List Item) where
  on-fits : (params : List (List ℕ)) (body : List Stmt) (args : Option (List Val)) → Fits items Any (begun_on items params body args)
  on-fits params body None = tt
  on-fits params body (Some args) = by-if items (nat_eq (length params) (length args)) (flow_begun items params body args) _ (body-all items (calls_of items) body _) tt

  among-fits : (rest : List Item) (name : List ℕ) (args : Option (List Val)) → Fits items Any (begun_among items rest name args)
  among-fits [] name args = tt
  among-fits (item.Flow x params body ∷ rest) name args =
      by-if items (bytes_eq x name) (begun_on items params body args) (begun_among items rest name args) (on-fits params body args) (among-fits rest name args)
  among-fits (item.Table x ∷ rest) name args = among-fits rest name args
  among-fits (item.Queue x n ∷ rest) name args = among-fits rest name args
  among-fits (item.Outside x params ∷ rest) name args = among-fits rest name args
  among-fits (item.Helper x params body ∷ rest) name args = among-fits rest name args
  among-fits (item.Txn serial x params body ∷ rest) name args = among-fits rest name args

  by-test : {A : Type 0} (b : Bool) (x y : Option (Counted FlowEnd)) (q : Request) → end_of (if b then x else y) ≡ flow.Asks q → (end_of x ≡ flow.Asks q → A) → (end_of y ≡ flow.Asks q → A) → A
  by-test true x y q is h g = h is
  by-test false x y q is h g = g is

  asks-there : (d : Left (Unit {0})) (answers : List Answer) (q : Request) → Fits items Any d → end_of (answered d answers) ≡ flow.Asks q → IsThere items q
  asks-there (Goes a at) answers q h is = absurd cc
  asks-there (Returns v at) answers q h is = absurd cc
  asks-there (Failed word at) answers q h is = absurd cc
  asks-there (Asks p at next) [] q h is = let same : p ≡ q = (let z : flow.Asks p ≡ flow.Asks q = is in cc) in subst (λ (r : Request). IsThere items r) same h.0
  asks-there (Asks p at next) (a ∷ answers) q h is =
      by-test (bytes_eq a.name p.name) (answered (next a.outcome) answers) _ q is (asks-there (next a.outcome) answers q (h.1 a.outcome))
      (λ z. absurd (let clash : flow.Unexpected p.n a.name p.name ≡ flow.Asks q = z in cc))
  asks-there Stuck answers q h is = absurd cc

  pub asked-called : (f : List ℕ) (args : Val) (answers : List Answer) (q : Request) → (language_of items).flow f args answers ≡ flow.Asks q → q.kind ≡ kinds.Txn → IsCall items q
  asked-called f args answers q is = asks-there (flow_of items f args) answers q (among-fits items f (items_of args)) is
