-- An expression of a sound program is never stuck.
use Rattle.std.proofs.Common.{◌≡◌, subst, ℕ, ◌+◌, zero, suc, Bool, true, false, List, [], ◌∷◌, ◌++◌, Option, Some, None, ap, sym, ◌∙◌, refl, arith, length, length-append, append-nil}
use Rattle.std.specs.Prelude.{map, if◌then◌else◌, ◌&&◌, ◌||◌, nat_eq}
use Rattle.std.specs.Str.{bytes_eq}
use Rattle.std.specs.List.{fold}
use Rattle.std.proofs.lemmas.Bool.{eqb-true}
use Rattle.std.proofs.lemmas.List.{append_assoc}
use Rattle.r3_value.specs.declared.value.Val.{Val}
use Rattle.r3_value.specs.declared.value.Outcome.{Outcome}
use Rattle.r3_value.specs.declared.value.Outcome.TheVariants.{Value, Failure}
use Rattle.fn_tree.specs.Expression.{Binding}
use Rattle.fn_tree.specs.declared.program.Item.{Item}
use Rattle.fn_tree.specs.declared.program.Item.TheVariants as item
use Rattle.fn_tree.specs.declared.expr.Expr.{Expr, roll-Expr}
use Rattle.fn_tree.specs.declared.expr.Expr.TheOpen.{Expr-F}
use Rattle.fn_tree.specs.declared.expr.Expr.TheFolds.{map-Expr, fold-roll-Expr}
use Rattle.fn_tree.specs.Values.{bool_of}
use Rattle.fn_tree.specs.Comparison.{truth}
use Rattle.fn_tree.specs.Arithmetic.{type_failure}
use Rattle.fn_tree.specs.Sequences.{list_or_size}
use Rattle.fn_tree.specs.Expression.{End, Gives, Fails, Stuck, Run, Calls, opened, evaluated, values_onto, then_do, with_unit, ends, bound_or_stuck, both_by, either_by, unary, both, binary, extended, no_calls, calls_of, look_up, look_up_or, bound}
use Rattle.fn_tree.specs.Soundness.{Scope, Test, contains, any, is_helper, each_is, is_some, node_is_sound, expr_is_sound, params_of, is_distinct, item_is_sound, items_are_sound}
use Rattle.fn_meaning.proofs.ExpressionLemmas.{Shown, by_levels, evaluated_roll}

pub and_first : (a b : Bool) → (a && b) ≡ true → a ≡ true
and_first true b e = refl
and_first false b e = absurd cc

pub and_second : (a b : Bool) → (a && b) ≡ true → b ≡ true
and_second true b e = e
and_second false b e = absurd cc

-- what was given is as wanted, and nothing is stuck
abbrev pub GivesTo : {A : Type 0} → (A → Type 0) → End A → Type 0
GivesTo good (Gives a units cost) = good a
GivesTo good (Fails word units cost) = Unit {0}
GivesTo good Stuck = ⊥

abbrev pub Anything : {A : Type 0} → A → Type 0
Anything a = Unit {0}

abbrev pub NotStuck : {A : Type 0} → End A → Type 0
NotStuck d = GivesTo Anything d

then_gives : {A B : Type 0} (good : A → Type 0) (better : B → Type 0) (d : End A) (go : A → ℕ → ℕ → End B) → GivesTo good d → ((a : A) (units cost : ℕ) → good a → GivesTo better (go a units cost)) → GivesTo better (then_do d go)
then_gives good better (Gives a units cost) go h f = f a units cost h
then_gives good better (Fails word units cost) go h f = tt
then_gives good better Stuck go h f = absurd h

ends_gives : (o : Outcome) (units cost : ℕ) → NotStuck (ends o units cost)
ends_gives (Value v) units cost = tt
ends_gives (Failure word) units cost = tt

-- a run that isn't stuck in these bindings
abbrev pub Runs : Run → List Binding → Type 0
Runs r env = (units cost : ℕ) → NotStuck (r env units cost)

unary_runs : (f : Val → Outcome) (a : Run) (env : List Binding) → Runs a env → Runs (unary f a) env
unary_runs f a env h units cost = then_gives Anything Anything (a env units cost) (λ x. ends (f x)) (h units cost) (λ x u c g. ends_gives (f x) u c)

binary_runs : (f : Val → Val → Outcome) (a b : Run) (env : List Binding) → Runs a env → Runs b env → Runs (binary f a b) env
binary_runs f a b env h k units cost =
    then_gives Anything Anything (both a b env units cost) (λ p. ends (f p.0 p.1))
    (then_gives Anything Anything (a env units cost) (λ x units cost. then_do (b env units cost) (λ y. Gives (x, y))) (h units cost)
    (λ x u c g. then_gives Anything Anything (b env u c) (λ y. Gives (x, y)) (k u c) (λ y u c g. tt)))
    (λ p u c g. ends_gives (f p.0 p.1) u c)

both_runs : (o : Option Bool) (units cost : ℕ) (rest : ℕ → ℕ → End Val) → ((units cost : ℕ) → NotStuck (rest units cost)) → NotStuck (both_by o units cost rest)
both_runs None units cost rest h = ends_gives type_failure units cost
both_runs (Some true) units cost rest h = h units cost
both_runs (Some false) units cost rest h = tt

either_runs : (o : Option Bool) (units cost : ℕ) (rest : ℕ → ℕ → End Val) → ((units cost : ℕ) → NotStuck (rest units cost)) → NotStuck (either_by o units cost rest)
either_runs None units cost rest h = ends_gives type_failure units cost
either_runs (Some true) units cost rest h = tt
either_runs (Some false) units cost rest h = h units cost

with_unit_runs : (units cost : ℕ) (go : ℕ → ℕ → End Val) → ((units cost : ℕ) → NotStuck (go units cost)) → NotStuck (with_unit units cost go)
with_unit_runs zero cost go h = tt
with_unit_runs (suc units) cost go h = h units cost

-- the names of bindings
abbrev pub names : List Binding → Scope
names env = map (λ b. b.0) env

found_now : (c : Bool) (w v : Val) (env : List Binding) (x : List ℕ) → ((u : Val) → is_some (look_up_or (Some u) env x) ≡ true) → is_some (look_up_or (if c then Some w else Some v) env x) ≡ true
found_now true w v env x h = h w
found_now false w v env x h = h v

found_later : (v : Val) (env : List Binding) (x : List ℕ) → is_some (look_up_or (Some v) env x) ≡ true
found_later v [] x = refl
found_later v (b ∷ env) x = found_now (bytes_eq b.0 x) b.1 v env x (λ u. found_later u env x)

found_by : (c : Bool) (v : Val) (o : Option Val) (env : List Binding) (x : List ℕ) → (contains (names env) x ≡ true → is_some (look_up_or o env x) ≡ true) → (c || contains (names env) x) ≡ true → is_some (look_up_or (if c then Some v else o) env x) ≡ true
found_by true v o env x h e = found_later v env x
found_by false v o env x h e = h e

found_in : (o : Option Val) (env : List Binding) (x : List ℕ) → contains (names env) x ≡ true → is_some (look_up_or o env x) ≡ true
found_in o [] x e = absurd cc
found_in o (b ∷ env) x e = found_by (bytes_eq b.0 x) b.1 o env x (found_in o env x) e

bound_runs : (o : Option Val) → is_some o ≡ true → (units cost : ℕ) → NotStuck (bound_or_stuck o units cost)
bound_runs (Some v) e units cost = tt
bound_runs None e units cost = absurd cc

-- the calls are those of the helpers among the items
abbrev pub CallsFit : Calls → List Item → Type 0
CallsFit calls items = (name : List ℕ) (vs : List Val) → any (is_helper name (length vs)) items ≡ true → (units cost : ℕ) → NotStuck (calls name vs units cost)

moved : (d : End (List Val)) (m n : ℕ) → m ≡ n → GivesTo (λ vs. length vs ≡ m) d → GivesTo (λ vs. length vs ≡ n) d
moved d m n e h = subst (λ k. GivesTo (λ vs. length vs ≡ k) d) e h

module _ (calls : Calls) (items : List Item) (fit : CallsFit calls items) where
  abbrev P : Expr → Type 0
  P e = (env : List Binding) → expr_is_sound items e (names env) ≡ true → Runs (evaluated calls e) env

  abbrev runs : List (Shown P) → List Run
  runs ss = map (evaluated calls) (map (λ s. s.0) ss)

  abbrev tests : List (Shown P) → List Test
  tests ss = map (expr_is_sound items) (map (λ s. s.0) ss)

  values_run : (done : List Val) (ss : List (Shown P)) (env : List Binding) → each_is (tests ss) (names env) ≡ true → (units cost : ℕ) → GivesTo (λ vs. length vs ≡ length done + length (tests ss)) (values_onto done (runs ss) env units cost)
  values_run done [] env e units cost = omega arith
  values_run done (s ∷ ss) env e units cost =
      then_gives Anything (λ vs. length vs ≡ length done + suc (length (tests ss))) (evaluated calls s.0 env units cost) _
      (s.1 env (and_first (expr_is_sound items s.0 (names env)) _ e) units cost)
      (λ v u c g. moved (values_onto (done ++ v ∷ []) (runs ss) env u c) (length (done ++ v ∷ []) + length (tests ss)) _ (omega (arith, length-append done (v ∷ []))) (values_run (done ++ v ∷ []) ss env (and_second (expr_is_sound items s.0 (names env)) _ e) u c))

  -- the values of all, as many as they are
  args_run : (ss : List (Shown P)) (env : List Binding) → each_is (tests ss) (names env) ≡ true → (units cost : ℕ) → GivesTo (λ vs. length vs ≡ length (tests ss)) (values_onto [] (runs ss) env units cost)
  args_run ss env e units cost = moved _ (0 + length (tests ss)) _ (omega arith) (values_run [] ss env e units cost)

  abbrev both_sound : Shown P → Shown P → List Binding → Type 0
  both_sound a b env = (expr_is_sound items a.0 (names env) && expr_is_sound items b.0 (names env)) ≡ true

  two_run : (f : Val → Val → Outcome) (a b : Shown P) (env : List Binding) → both_sound a b env → Runs (binary f (evaluated calls a.0) (evaluated calls b.0)) env
  two_run f a b env e = binary_runs f (evaluated calls a.0) (evaluated calls b.0) env (a.1 env (and_first _ _ e)) (b.1 env (and_second (expr_is_sound items a.0 (names env)) _ e))

  one_runs : (f : Val → Outcome) (a : Shown P) (env : List Binding) → expr_is_sound items a.0 (names env) ≡ true → Runs (unary f (evaluated calls a.0)) env
  one_runs f a env e = unary_runs f (evaluated calls a.0) env (a.1 env e)

  opened_runs : (y : Expr-F (Shown P)) (env : List Binding) → node_is_sound items (map-Expr Expr Test (expr_is_sound items) (map-Expr (Shown P) Expr (λ s. s.0) y)) (names env) ≡ true → Runs (opened calls (map-Expr Expr Run (evaluated calls) (map-Expr (Shown P) Expr (λ s. s.0) y))) env
  opened_runs (Expr-F.Int z) env e = λ units cost. tt
  opened_runs (Expr-F.Text t) env e = λ units cost. tt
  opened_runs Expr-F.Null env e = λ units cost. tt
  opened_runs Expr-F.True env e = λ units cost. tt
  opened_runs Expr-F.False env e = λ units cost. tt
  opened_runs (Expr-F.Name x) env e = bound_runs (look_up env x) (found_in None env x e)
  opened_runs (Expr-F.Helper name args) env e = λ units cost.
      then_gives (λ vs. length vs ≡ length (tests args)) Anything (values_onto [] (runs args) env units cost) _ (args_run args env (and_second (any (is_helper name (length (tests args))) items) _ e) units cost)
      (λ vs u c same. with_unit_runs u c (calls name vs) (fit name vs (subst (λ n. any (is_helper name n) items ≡ true) (sym same) (and_first (any (is_helper name (length (tests args))) items) _ e))))
  opened_runs (Expr-F.List es) env e = λ units cost.
      then_gives (λ vs. length vs ≡ length (tests es)) Anything (values_onto [] (runs es) env units cost) _ (args_run es env e units cost) (λ vs u c same. ends_gives (list_or_size vs) u c)
  opened_runs (Expr-F.Index a b) env e = two_run _ a b env e
  opened_runs (Expr-F.Neg a) env e = one_runs _ a env e
  opened_runs (Expr-F.Not a) env e = one_runs _ a env e
  opened_runs (Expr-F.Or a b) env e = λ units cost.
      then_gives Anything Anything (evaluated calls a.0 env units cost) _ (a.1 env (and_first _ _ e) units cost)
      (λ x u c g. either_runs (bool_of x) u c (unary truth (evaluated calls b.0) env) (one_runs truth b env (and_second (expr_is_sound items a.0 (names env)) _ e)))
  opened_runs (Expr-F.And a b) env e = λ units cost.
      then_gives Anything Anything (evaluated calls a.0 env units cost) _ (a.1 env (and_first _ _ e) units cost)
      (λ x u c g. both_runs (bool_of x) u c (unary truth (evaluated calls b.0) env) (one_runs truth b env (and_second (expr_is_sound items a.0 (names env)) _ e)))
  opened_runs (Expr-F.Eq a b) env e = two_run _ a b env e
  opened_runs (Expr-F.Ne a b) env e = two_run _ a b env e
  opened_runs (Expr-F.Lt a b) env e = two_run _ a b env e
  opened_runs (Expr-F.Le a b) env e = two_run _ a b env e
  opened_runs (Expr-F.Gt a b) env e = two_run _ a b env e
  opened_runs (Expr-F.Ge a b) env e = two_run _ a b env e
  opened_runs (Expr-F.Add a b) env e = two_run _ a b env e
  opened_runs (Expr-F.Sub a b) env e = two_run _ a b env e
  opened_runs (Expr-F.Join a b) env e = two_run _ a b env e
  opened_runs (Expr-F.Mul a b) env e = two_run _ a b env e
  opened_runs (Expr-F.Div a b) env e = two_run _ a b env e
  opened_runs (Expr-F.Rem a b) env e = two_run _ a b env e
  opened_runs (Expr-F.Len a) env e = one_runs _ a env e
  opened_runs (Expr-F.Str a) env e = one_runs _ a env e

  level : (y : Expr-F (Shown P)) → P (roll-Expr (map-Expr (Shown P) Expr (λ s. s.0) y))
  level y env e units cost =
      let x = map-Expr (Shown P) Expr (λ s. s.0) y in
      let same = ap (λ (t : Test). t (names env)) (fold-roll-Expr Test (node_is_sound items) x) in
      subst NotStuck (sym (evaluated_roll calls x env units cost)) (opened_runs y env (sym same ∙ e) units (suc cost))

  pub expression_runs : (e : Expr) (env : List Binding) → expr_is_sound items e (names env) ≡ true → Runs (evaluated calls e) env
  expression_runs = by_levels P level

  pub arguments_run : (done : List Val) (es : List Expr) (env : List Binding) → each_is (map (expr_is_sound items) es) (names env) ≡ true → (units cost : ℕ) → NotStuck (values_onto done (map (evaluated calls) es) env units cost)
  arguments_run done [] env e units cost = tt
  arguments_run done (x ∷ es) env e units cost =
      then_gives Anything Anything (evaluated calls x env units cost) _ (expression_runs x env (and_first (expr_is_sound items x (names env)) _ e) units cost)
      (λ v u c g. arguments_run (done ++ v ∷ []) es env (and_second (expr_is_sound items x (names env)) _ e) u c)

-- the names of the parameters, bound to as many arguments
pub names_bound : (params : List (List ℕ)) (vs : List Val) → length params ≡ length vs → names (bound params vs) ≡ params
names_bound [] vs e = refl
names_bound (x ∷ xs) [] e = absurd (omega (arith, e))
names_bound (x ∷ xs) (v ∷ vs) e = ap (λ ys. x ∷ ys) (names_bound xs vs (omega (arith, e)))

any_by : (b : Bool) (x y : Bool) → (x ≡ true → y ≡ true) → (b || x) ≡ true → (b || y) ≡ true
any_by true x y h e = refl
any_by false x y h e = h e

any_none : (b : Bool) → (b || false) ≡ true → b ≡ false → ⊥
any_none true e f = cc
any_none false e f = cc

-- a test that the last item doesn't pass is passed by an earlier one
any_last : (p : Item → Bool) (items : List Item) (i : Item) → any p (items ++ i ∷ []) ≡ true → p i ≡ false → any p items ≡ true
any_last p [] i e f = absurd (any_none (p i) e f)
any_last p (j ∷ items) i e f = any_by (p j) (any p (items ++ i ∷ [])) (any p items) (λ h. any_last p items i h f) e

length_same : (params : List (List ℕ)) (vs : List Val) (asked name : List ℕ) → (bytes_eq name asked && nat_eq (length params) (length vs)) ≡ true → length params ≡ length vs
length_same params vs asked name e = eqb-true (length params) (length vs) (and_second (bytes_eq name asked) _ e)

-- a call of the last helper, or an earlier one
call_by : (b : Bool) (r s : ℕ → ℕ → End Val) → (b ≡ true → (units cost : ℕ) → NotStuck (r units cost)) → (b ≡ false → (units cost : ℕ) → NotStuck (s units cost)) → (units cost : ℕ) → NotStuck (if b then r units cost else s units cost)
call_by true r s h g = h refl
call_by false r s h g = g refl

fits_more : (calls : Calls) (before items : List Item) (i : Item) → CallsFit calls before → item_is_sound before items i ≡ true → CallsFit (extended calls i) (before ++ i ∷ [])
fits_more calls before items (item.Helper name params body) fit e asked vs h =
    call_by (bytes_eq name asked && nat_eq (length params) (length vs)) (evaluated calls body (bound params vs)) (calls asked vs)
    (λ t. expression_runs calls before fit body (bound params vs) (subst (λ scope. expr_is_sound before body scope ≡ true) (sym (names_bound params vs (length_same params vs asked name t))) e))
    (λ f. fit asked vs (any_last (is_helper asked (length vs)) before (item.Helper name params body) h f))
fits_more calls before items (item.Table name) fit e asked vs h = fit asked vs (any_last (is_helper asked (length vs)) before (item.Table name) h refl)
fits_more calls before items (item.Queue name bound) fit e asked vs h = fit asked vs (any_last (is_helper asked (length vs)) before (item.Queue name bound) h refl)
fits_more calls before items (item.Outside name params) fit e asked vs h = fit asked vs (any_last (is_helper asked (length vs)) before (item.Outside name params) h refl)
fits_more calls before items (item.Txn serial name params body) fit e asked vs h = fit asked vs (any_last (is_helper asked (length vs)) before (item.Txn serial name params body) h refl)
fits_more calls before items (item.Flow name params body) fit e asked vs h = fit asked vs (any_last (is_helper asked (length vs)) before (item.Flow name params body) h refl)

-- what the soundness of items says of the first, and of the others
pub item_part : (before items : List Item) (i : Item) (rest : List Item) → items_are_sound before items (i ∷ rest) ≡ true → item_is_sound before items i ≡ true
item_part before items i rest e = and_second (is_distinct (params_of i)) _ (and_first (is_distinct (params_of i) && item_is_sound before items i) _ e)

pub rest_part : (before items : List Item) (i : Item) (rest : List Item) → items_are_sound before items (i ∷ rest) ≡ true → items_are_sound (before ++ i ∷ []) items rest ≡ true
rest_part before items i rest e = and_second (is_distinct (params_of i) && item_is_sound before items i) _ e

all_fit : (calls : Calls) (before items rest : List Item) → CallsFit calls before → items_are_sound before items rest ≡ true → CallsFit (fold extended calls rest) (before ++ rest)
all_fit calls before items [] fit e = subst (CallsFit calls) (sym (append-nil before)) fit
all_fit calls before items (i ∷ rest) fit e =
    subst (CallsFit (fold extended (extended calls i) rest)) (append_assoc before (i ∷ []) rest)
    (all_fit (extended calls i) (before ++ i ∷ []) items rest (fits_more calls before items i fit (item_part before items i rest e)) (rest_part before items i rest e))

-- the calls of a sound program
pub calls_fit : (items : List Item) → items_are_sound [] items items ≡ true → CallsFit (calls_of items) items
calls_fit items e = all_fit no_calls [] items items (λ name vs h. absurd cc) e
