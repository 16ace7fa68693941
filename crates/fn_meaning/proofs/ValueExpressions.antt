-- What an expression gives is within the limits.
use Rattle.std.proofs.Common.{◌≡◌, subst, ℕ, zero, suc, ◌+◌, Bool, true, false, List, [], ◌∷◌, ◌++◌, Option, Some, None, sym, ◌∙◌, length, arith, length-append}
use Rattle.std.specs.Prelude.{map, if◌then◌else◌, ◌&&◌, nat_eq}
use Rattle.std.specs.List.{fold}
use Rattle.std.specs.Str.{bytes_eq}
use Rattle.r3_value.specs.declared.value.Outcome.{Outcome}
use Rattle.r3_value.specs.declared.value.Outcome.TheVariants.{Value, Failure}
use Rattle.r3_value.specs.declared.value.Val.{Val}
use Rattle.fn_tree.specs.declared.expr.Expr.{Expr, roll-Expr}
use Rattle.fn_tree.specs.declared.expr.Expr.TheOpen.{Expr-F}
use Rattle.fn_tree.specs.declared.expr.Expr.TheFolds.{map-Expr, fold-roll-Expr}
use Rattle.fn_tree.specs.declared.program.Item.{Item}
use Rattle.fn_tree.specs.declared.program.Item.TheVariants as item
use Rattle.fn_tree.specs.Arithmetic.{type_failure}
use Rattle.fn_tree.specs.Comparison.{truth}
use Rattle.fn_tree.specs.Expression.{End, Gives, Fails, Stuck, Run, Calls, Binding, opened, evaluated, values_onto, then_do, with_unit, ends, bound_or_stuck, both_by, either_by, unary, both, binary, extended, no_calls, calls_of, look_up, look_up_or, bound}
use Rattle.fn_tree.specs.Literals.{is_text, all_fit, node_fits, expr_fits, exprs_fit, item_fits, HoldsValues}
use Rattle.fn_tree.specs.Sequences.{list_or_size}
use Rattle.fn_tree.specs.Soundness.{each_passes}
use Rattle.fn_tree.specs.Values.{bool_of}
use Rattle.fn_meaning.specs.ValueLimits.{IsVal, AreVals, IsOutcome, AreBindings, GivesWithin, ExpressionsStayWithin}
use Rattle.fn_meaning.proofs.ExpressionLemmas.{Shown, by_levels, evaluated_roll}
use Rattle.fn_meaning.proofs.SoundExpression.{and_first, and_second}
use Rattle.fn_meaning.proofs.ValueLemmas.{text_val, null_val, truth_val, int_val, fits_signed, type_within, budget_word, are_proper, list_within, sum_within, difference_within, product_within, quotient_within, remainder_within, negated_within, equal_within, unequal_within, less_within, less_or_equal_within, greater_within, greater_or_equal_within, inverted_within, truth_within, joined_within, length_within, shown_within, indexed_within}

then_within : {A B : Type 0} (good : A → Type 0) (better : B → Type 0) (d : End A) (go : A → ℕ → ℕ → End B) → GivesWithin good d → ((a : A) (units cost : ℕ) → good a → GivesWithin better (go a units cost)) → GivesWithin better (then_do d go)
then_within good better (Gives a units cost) go h f = f a units cost h
then_within good better (Fails word units cost) go h f = h
then_within good better Stuck go h f = tt

ends_within : (o : Outcome) (units cost : ℕ) → IsOutcome o → GivesWithin IsVal (ends o units cost)
ends_within (Value v) units cost h = h
ends_within (Failure word) units cost h = h

-- a run that stays within the limits in these bindings
abbrev pub Runs : Run → List Binding → Type 0
Runs r env = (units cost : ℕ) → GivesWithin IsVal (r env units cost)

unary_within : (f : Val → Outcome) → ((x : Val) → IsVal x → IsOutcome (f x)) → (a : Run) (env : List Binding) → Runs a env → Runs (unary f a) env
unary_within f good a env h units cost = then_within IsVal IsVal (a env units cost) (λ x. ends (f x)) (h units cost) (λ x u c g. ends_within (f x) u c (good x g))

abbrev Pair : Val × Val → Type 0
Pair p = IsVal p.0 × IsVal p.1

binary_within : (f : Val → Val → Outcome) → ((x y : Val) → IsVal x → IsVal y → IsOutcome (f x y)) → (a b : Run) (env : List Binding) → Runs a env → Runs b env → Runs (binary f a b) env
binary_within f good a b env h k units cost =
    then_within Pair IsVal (both a b env units cost) (λ p. ends (f p.0 p.1))
    (then_within IsVal Pair (a env units cost) (λ x units cost. then_do (b env units cost) (λ y. Gives (x, y))) (h units cost)
    (λ x u c g. then_within IsVal Pair (b env u c) (λ y. Gives (x, y)) (k u c) (λ y u c i. (g, i))))
    (λ p u c g. ends_within (f p.0 p.1) u c (good p.0 p.1 g.0 g.1))

both_within : (o : Option Bool) (units cost : ℕ) (rest : ℕ → ℕ → End Val) → ((units cost : ℕ) → GivesWithin IsVal (rest units cost)) → GivesWithin IsVal (both_by o units cost rest)
both_within None units cost rest h = ends_within type_failure units cost type_within
both_within (Some true) units cost rest h = h units cost
both_within (Some false) units cost rest h = truth_val false

either_within : (o : Option Bool) (units cost : ℕ) (rest : ℕ → ℕ → End Val) → ((units cost : ℕ) → GivesWithin IsVal (rest units cost)) → GivesWithin IsVal (either_by o units cost rest)
either_within None units cost rest h = ends_within type_failure units cost type_within
either_within (Some true) units cost rest h = truth_val true
either_within (Some false) units cost rest h = h units cost

unit_within : (units cost : ℕ) (go : ℕ → ℕ → End Val) → ((units cost : ℕ) → GivesWithin IsVal (go units cost)) → GivesWithin IsVal (with_unit units cost go)
unit_within zero cost go h = budget_word
unit_within (suc units) cost go h = h units cost

-- ---- bindings

abbrev ValIf : Option Val → Type 0
ValIf None = Unit {0}
ValIf (Some v) = IsVal v

val_if : (c : Bool) (v : Val) (o : Option Val) → IsVal v → ValIf o → ValIf (if c then Some v else o)
val_if true v o h g = h
val_if false v o h g = g

look_within : (o : Option Val) (env : List Binding) (x : List ℕ) → ValIf o → AreBindings env → ValIf (look_up_or o env x)
look_within o [] x h g = h
look_within o (b ∷ env) x h g = look_within (if bytes_eq b.0 x then Some b.1 else o) env x (val_if (bytes_eq b.0 x) b.1 o g.0 h) g.1

bound_val : (o : Option Val) → ValIf o → (units cost : ℕ) → GivesWithin IsVal (bound_or_stuck o units cost)
bound_val (Some v) h units cost = h
bound_val None h units cost = tt

pub bound_within : (params : List (List ℕ)) (vs : List Val) → AreVals vs → AreBindings (bound params vs)
bound_within [] vs h = tt
bound_within (x ∷ xs) [] h = tt
bound_within (x ∷ xs) (v ∷ vs) h = (h.0, bound_within xs vs h.1)

vals_last : (vs : List Val) (v : Val) → AreVals vs → IsVal v → AreVals (vs ++ v ∷ [])
vals_last [] v h g = (g, tt)
vals_last (w ∷ vs) v h g = (h.0, vals_last vs v h.1 g)

-- ---- expressions, on calls that stay within the limits

abbrev pub CallsWithin : Calls → Type 0
CallsWithin calls = (name : List ℕ) (vs : List Val) → AreVals vs → (units cost : ℕ) → GivesWithin IsVal (calls name vs units cost)

-- so many values
abbrev pub SoMany : ℕ → List Val → Type 0
SoMany n vs = AreVals vs × (length vs ≡ n)

module _ (calls : Calls) (within : CallsWithin calls) where
  abbrev P : Expr → Type 0
  P e = expr_fits e ≡ true → (env : List Binding) → AreBindings env → Runs (evaluated calls e) env

  abbrev runs : List (Shown P) → List Run
  runs ss = map (evaluated calls) (map (λ s. s.0) ss)

  abbrev fits : List (Shown P) → List Bool
  fits ss = map expr_fits (map (λ s. s.0) ss)

  values_within : (done : List Val) (ss : List (Shown P)) → all_fit (fits ss) ≡ true → (env : List Binding) → AreBindings env → AreVals done → (units cost : ℕ) → GivesWithin AreVals (values_onto done (runs ss) env units cost)
  values_within done [] e env h g units cost = g
  values_within done (s ∷ ss) e env h g units cost =
      then_within IsVal AreVals (evaluated calls s.0 env units cost) _ (s.1 (and_first (expr_fits s.0) (all_fit (fits ss)) e) env h units cost)
      (λ v u c i. values_within (done ++ v ∷ []) ss (and_second (expr_fits s.0) (all_fit (fits ss)) e) env h (vals_last done v g i) u c)

  one_within : (f : Val → Outcome) → ((x : Val) → IsVal x → IsOutcome (f x)) → (a : Shown P) → expr_fits a.0 ≡ true → (env : List Binding) → AreBindings env → Runs (unary f (evaluated calls a.0)) env
  one_within f good a e env h = unary_within f good (evaluated calls a.0) env (a.1 e env h)

  two_within : (f : Val → Val → Outcome) → ((x y : Val) → IsVal x → IsVal y → IsOutcome (f x y)) → (a b : Shown P) → (expr_fits a.0 && expr_fits b.0) ≡ true → (env : List Binding) → AreBindings env → Runs (binary f (evaluated calls a.0) (evaluated calls b.0)) env
  two_within f good a b e env h =
      binary_within f good (evaluated calls a.0) (evaluated calls b.0) env (a.1 (and_first (expr_fits a.0) (expr_fits b.0) e) env h) (b.1 (and_second (expr_fits a.0) (expr_fits b.0) e) env h)

  opened_within : (y : Expr-F (Shown P)) → node_fits (map-Expr Expr Bool expr_fits (map-Expr (Shown P) Expr (λ s. s.0) y)) ≡ true → (env : List Binding) → AreBindings env → Runs (opened calls (map-Expr Expr Run (evaluated calls) (map-Expr (Shown P) Expr (λ s. s.0) y))) env
  opened_within (Expr-F.Int z) e env h = λ units cost. int_val z (fits_signed z e)
  opened_within (Expr-F.Text t) e env h = λ units cost. text_val t e
  opened_within Expr-F.Null e env h = λ units cost. null_val
  opened_within Expr-F.True e env h = λ units cost. truth_val true
  opened_within Expr-F.False e env h = λ units cost. truth_val false
  opened_within (Expr-F.Name x) e env h = bound_val (look_up env x) (look_within None env x tt h)
  opened_within (Expr-F.Helper name args) e env h = λ units cost.
      then_within AreVals IsVal (values_onto [] (runs args) env units cost) _ (values_within [] args e env h tt units cost)
      (λ vs u c g. unit_within u c (calls name vs) (within name vs g))
  opened_within (Expr-F.List es) e env h = λ units cost.
      then_within AreVals IsVal (values_onto [] (runs es) env units cost) _ (values_within [] es e env h tt units cost)
      (λ vs u c g. ends_within (list_or_size vs) u c (list_within vs (are_proper vs g)))
  opened_within (Expr-F.Index a b) e env h = two_within _ (λ x y p q. indexed_within x y p) a b e env h
  opened_within (Expr-F.Neg a) e env h = one_within _ negated_within a e env h
  opened_within (Expr-F.Not a) e env h = one_within _ (λ x p. inverted_within x) a e env h
  opened_within (Expr-F.Or a b) e env h = λ units cost.
      then_within IsVal IsVal (evaluated calls a.0 env units cost) _ (a.1 (and_first (expr_fits a.0) (expr_fits b.0) e) env h units cost)
      (λ x u c g. either_within (bool_of x) u c (unary truth (evaluated calls b.0) env) (one_within truth (λ x p. truth_within x) b (and_second (expr_fits a.0) (expr_fits b.0) e) env h))
  opened_within (Expr-F.And a b) e env h = λ units cost.
      then_within IsVal IsVal (evaluated calls a.0 env units cost) _ (a.1 (and_first (expr_fits a.0) (expr_fits b.0) e) env h units cost)
      (λ x u c g. both_within (bool_of x) u c (unary truth (evaluated calls b.0) env) (one_within truth (λ x p. truth_within x) b (and_second (expr_fits a.0) (expr_fits b.0) e) env h))
  opened_within (Expr-F.Eq a b) e env h = two_within _ (λ x y p q. equal_within x y) a b e env h
  opened_within (Expr-F.Ne a b) e env h = two_within _ (λ x y p q. unequal_within x y) a b e env h
  opened_within (Expr-F.Lt a b) e env h = two_within _ (λ x y p q. less_within x y) a b e env h
  opened_within (Expr-F.Le a b) e env h = two_within _ (λ x y p q. less_or_equal_within x y) a b e env h
  opened_within (Expr-F.Gt a b) e env h = two_within _ (λ x y p q. greater_within x y) a b e env h
  opened_within (Expr-F.Ge a b) e env h = two_within _ (λ x y p q. greater_or_equal_within x y) a b e env h
  opened_within (Expr-F.Add a b) e env h = two_within _ sum_within a b e env h
  opened_within (Expr-F.Sub a b) e env h = two_within _ difference_within a b e env h
  opened_within (Expr-F.Join a b) e env h = two_within _ joined_within a b e env h
  opened_within (Expr-F.Mul a b) e env h = two_within _ product_within a b e env h
  opened_within (Expr-F.Div a b) e env h = two_within _ quotient_within a b e env h
  opened_within (Expr-F.Rem a b) e env h = two_within _ remainder_within a b e env h
  opened_within (Expr-F.Len a) e env h = one_within _ length_within a e env h
  opened_within (Expr-F.Str a) e env h = one_within _ shown_within a e env h

  level : (y : Expr-F (Shown P)) → P (roll-Expr (map-Expr (Shown P) Expr (λ s. s.0) y))
  level y e env h units cost =
      let x = map-Expr (Shown P) Expr (λ s. s.0) y in
      subst (GivesWithin IsVal) (sym (evaluated_roll calls x env units cost)) (opened_within y (sym (fold-roll-Expr Bool node_fits x) ∙ e) env h units (suc cost))

  pub expression_within : (e : Expr) → expr_fits e ≡ true → (env : List Binding) → AreBindings env → Runs (evaluated calls e) env
  expression_within = by_levels P level

  -- the values of the arguments, as many as they are
  pub arguments_within : (done : List Val) (es : List Expr) → exprs_fit es ≡ true → (env : List Binding) → AreBindings env → AreVals done → (n : ℕ) → n ≡ length done + length es → (units cost : ℕ) → GivesWithin (SoMany n) (values_onto done (map (evaluated calls) es) env units cost)
  arguments_within done [] e env h g n same units cost = (g, omega arith)
  arguments_within done (x ∷ es) e env h g n same units cost =
      then_within IsVal (SoMany n) (evaluated calls x env units cost) _ (expression_within x (and_first (expr_fits x) (exprs_fit es) e) env h units cost)
      (λ v u c i. arguments_within (done ++ v ∷ []) es (and_second (expr_fits x) (exprs_fit es) e) env h (vals_last done v g i) n (omega (arith, length-append done (v ∷ []))) u c)

-- ---- the calls of a program

call_by : (b : Bool) (r s : End Val) → GivesWithin IsVal r → GivesWithin IsVal s → GivesWithin IsVal (if b then r else s)
call_by true r s h g = h
call_by false r s h g = g

calls_more : (calls : Calls) (i : Item) → CallsWithin calls → item_fits i ≡ true → CallsWithin (extended calls i)
calls_more calls (item.Helper name params body) within e asked vs h units cost =
    call_by (bytes_eq name asked && nat_eq (length params) (length vs)) (evaluated calls body (bound params vs) units cost) (calls asked vs units cost)
    (expression_within calls within body (and_second (is_text name) (expr_fits body) e) (bound params vs) (bound_within params vs h) units cost) (within asked vs h units cost)
calls_more calls (item.Table name) within e asked vs h units cost = within asked vs h units cost
calls_more calls (item.Queue name bound) within e asked vs h units cost = within asked vs h units cost
calls_more calls (item.Outside name params) within e asked vs h units cost = within asked vs h units cost
calls_more calls (item.Txn serial name params body) within e asked vs h units cost = within asked vs h units cost
calls_more calls (item.Flow name params body) within e asked vs h units cost = within asked vs h units cost

all_calls : (calls : Calls) (items : List Item) → CallsWithin calls → each_passes item_fits items ≡ true → CallsWithin (fold extended calls items)
all_calls calls [] within e = within
all_calls calls (i ∷ items) within e =
    all_calls (extended calls i) items (calls_more calls i within (and_first (item_fits i) (each_passes item_fits items) e)) (and_second (item_fits i) (each_passes item_fits items) e)

pub calls_within : (items : List Item) → HoldsValues items → CallsWithin (calls_of items)
calls_within items e = all_calls no_calls items (λ name vs h units cost. tt) e

pub expressions_stay_within : ExpressionsStayWithin
expressions_stay_within items e env units cost holds fit h = expression_within (calls_of items) (calls_within items holds) e fit env h units cost
