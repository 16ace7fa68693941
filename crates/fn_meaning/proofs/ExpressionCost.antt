-- An expression from a later count.
use Rattle.std.proofs.Common.{◌≡◌, ℕ, ◌+◌, zero, suc, Bool, true, false, List, [], ◌∷◌, ◌++◌, Option, Some, None, ap, sym, ◌∙◌, refl, arith}
use Rattle.std.specs.Prelude.{map, if◌then◌else◌, ◌&&◌, length, nat_eq}
use Rattle.std.specs.Str.{bytes_eq}
use Rattle.std.specs.List.{fold}
use Rattle.r3_value.specs.declared.value.Val.{Val}
use Rattle.r3_value.specs.declared.value.Outcome.{Outcome}
use Rattle.r3_value.specs.declared.value.Outcome.TheVariants.{Value, Failure}
use Rattle.fn_tree.specs.Expression.{Binding}
use Rattle.fn_tree.specs.declared.program.Item.{Item}
use Rattle.fn_tree.specs.declared.program.Item.TheVariants as item
use Rattle.fn_tree.specs.declared.expr.Expr.{Expr, roll-Expr}
use Rattle.fn_tree.specs.declared.expr.Expr.TheOpen.{Expr-F}
use Rattle.fn_tree.specs.declared.expr.Expr.TheFolds.{map-Expr}
use Rattle.fn_tree.specs.Values.{bool_of}
use Rattle.fn_tree.specs.Comparison.{truth}
use Rattle.fn_tree.specs.Arithmetic.{type_failure}
use Rattle.fn_tree.specs.Sequences.{list_or_size}
use Rattle.fn_tree.specs.Expression.{End, Gives, Fails, Stuck, Run, Calls, opened, evaluated, values_onto, then_do, with_unit, ends, bound_or_stuck, both_by, either_by, unary, both, binary, extended, no_calls, calls_of, look_up, bound}
use Rattle.fn_tree.specs.Cost.{raised, ExpressionsShift}
use Rattle.fn_meaning.proofs.ExpressionLemmas.{Shown, by_levels, evaluated_roll}

-- from a later count it is the same with the count raised
abbrev pub Shifts : {A : Type 0} → (ℕ → ℕ → End A) → Type 0
Shifts {A = A} r = (units cost k : ℕ) → r units (cost + k) ≡ raised k (r units cost)

abbrev pub RunShifts : Run → Type 0
RunShifts r = (env : List Binding) → Shifts (r env)

abbrev pub CallsShift : Calls → Type 0
CallsShift calls = (name : List ℕ) (vs : List Val) → Shifts (calls name vs)

pub then_shifts : {A B : Type 0} (k : ℕ) (d : End A) (go : A → ℕ → ℕ → End B) → ((a : A) → Shifts (go a)) → then_do (raised k d) go ≡ raised k (then_do d go)
then_shifts k (Gives a units cost) go h = h a units cost k
then_shifts k (Fails word units cost) go h = refl
then_shifts k Stuck go h = refl

-- a part, and what is done with what it gives
pub then_do_shifts : {A B : Type 0} (r : ℕ → ℕ → End A) (go : A → ℕ → ℕ → End B) → Shifts r → ((a : A) → Shifts (go a)) → Shifts (λ units cost. then_do (r units cost) go)
then_do_shifts r go hr hgo units cost k = ap (λ d. then_do d go) (hr units cost k) ∙ then_shifts k (r units cost) go hgo

pub ends_shifts : (o : Outcome) → Shifts (ends o)
ends_shifts (Value v) units cost k = refl
ends_shifts (Failure word) units cost k = refl

bound_shifts : (o : Option Val) → Shifts (bound_or_stuck o)
bound_shifts (Some v) units cost k = refl
bound_shifts None units cost k = refl

unary_shifts : (f : Val → Outcome) (a : Run) → RunShifts a → RunShifts (unary f a)
unary_shifts f a ha env = then_do_shifts (a env) (λ x. ends (f x)) (ha env) (λ x. ends_shifts (f x))

binary_shifts : (f : Val → Val → Outcome) (a b : Run) → RunShifts a → RunShifts b → RunShifts (binary f a b)
binary_shifts f a b ha hb env =
    then_do_shifts (both a b env) (λ p. ends (f p.0 p.1))
    (then_do_shifts (a env) (λ x units cost. then_do (b env units cost) (λ y. Gives (x, y))) (ha env) (λ x. then_do_shifts (b env) (λ y. Gives (x, y)) (hb env) (λ y units cost k. refl)))
    (λ p. ends_shifts (f p.0 p.1))

both_shifts : (o : Option Bool) (rest : ℕ → ℕ → End Val) → Shifts rest → Shifts (λ units cost. both_by o units cost rest)
both_shifts None rest h units cost k = ends_shifts type_failure units cost k
both_shifts (Some true) rest h units cost k = h units cost k
both_shifts (Some false) rest h units cost k = refl

either_shifts : (o : Option Bool) (rest : ℕ → ℕ → End Val) → Shifts rest → Shifts (λ units cost. either_by o units cost rest)
either_shifts None rest h units cost k = ends_shifts type_failure units cost k
either_shifts (Some true) rest h units cost k = refl
either_shifts (Some false) rest h units cost k = h units cost k

with_unit_shifts : {A : Type 0} (go : ℕ → ℕ → End A) → Shifts go → Shifts (λ units cost. with_unit units cost go)
with_unit_shifts go h zero cost k = refl
with_unit_shifts go h (suc units) cost k = h units cost k

-- each run from a later count
abbrev pub AllShift : List Run → Type 0
AllShift [] = Unit {0}
AllShift (r ∷ rs) = RunShifts r × AllShift rs

pub values_shift : (done : List Val) (rs : List Run) → AllShift rs → (env : List Binding) → Shifts (values_onto done rs env)
values_shift done [] h env = λ units cost k. refl
values_shift done (r ∷ rs) h env =
    then_do_shifts (r env) (λ v. values_onto (done ++ v ∷ []) rs env) (h.0 env) (λ v. values_shift (done ++ v ∷ []) rs h.1 env)

module _ (calls : Calls) (hc : CallsShift calls) where
  abbrev P : Expr → Type 0
  P e = RunShifts (evaluated calls e)

  abbrev run : Shown P → Run
  run s = evaluated calls s.0

  all_shift : (ss : List (Shown P)) → AllShift (map (evaluated calls) (map (λ s. s.0) ss))
  all_shift [] = tt
  all_shift (s ∷ ss) = (s.1, all_shift ss)

  opened_shifts : (y : Expr-F (Shown P)) → RunShifts (opened calls (map-Expr Expr Run (evaluated calls) (map-Expr (Shown P) Expr (λ s. s.0) y)))
  opened_shifts (Expr-F.Int z) = λ env units cost k. refl
  opened_shifts (Expr-F.Text t) = λ env units cost k. refl
  opened_shifts Expr-F.Null = λ env units cost k. refl
  opened_shifts Expr-F.True = λ env units cost k. refl
  opened_shifts Expr-F.False = λ env units cost k. refl
  opened_shifts (Expr-F.Name x) = λ env. bound_shifts (look_up env x)
  opened_shifts (Expr-F.Helper name args) = λ env.
      then_do_shifts (values_onto [] (map (evaluated calls) (map (λ s. s.0) args)) env) (λ vs units cost. with_unit units cost (calls name vs))
      (values_shift [] _ (all_shift args) env) (λ vs. with_unit_shifts (calls name vs) (hc name vs))
  opened_shifts (Expr-F.List es) = λ env.
      then_do_shifts (values_onto [] (map (evaluated calls) (map (λ s. s.0) es)) env) (λ vs. ends (list_or_size vs))
      (values_shift [] _ (all_shift es) env) (λ vs. ends_shifts (list_or_size vs))
  opened_shifts (Expr-F.Index a b) = binary_shifts _ (run a) (run b) a.1 b.1
  opened_shifts (Expr-F.Neg a) = unary_shifts _ (run a) a.1
  opened_shifts (Expr-F.Not a) = unary_shifts _ (run a) a.1
  opened_shifts (Expr-F.Or a b) = λ env.
      then_do_shifts (run a env) (λ x units cost. either_by (bool_of x) units cost (unary truth (run b) env)) (a.1 env)
      (λ x. either_shifts (bool_of x) (unary truth (run b) env) (unary_shifts truth (run b) b.1 env))
  opened_shifts (Expr-F.And a b) = λ env.
      then_do_shifts (run a env) (λ x units cost. both_by (bool_of x) units cost (unary truth (run b) env)) (a.1 env)
      (λ x. both_shifts (bool_of x) (unary truth (run b) env) (unary_shifts truth (run b) b.1 env))
  opened_shifts (Expr-F.Eq a b) = binary_shifts _ (run a) (run b) a.1 b.1
  opened_shifts (Expr-F.Ne a b) = binary_shifts _ (run a) (run b) a.1 b.1
  opened_shifts (Expr-F.Lt a b) = binary_shifts _ (run a) (run b) a.1 b.1
  opened_shifts (Expr-F.Le a b) = binary_shifts _ (run a) (run b) a.1 b.1
  opened_shifts (Expr-F.Gt a b) = binary_shifts _ (run a) (run b) a.1 b.1
  opened_shifts (Expr-F.Ge a b) = binary_shifts _ (run a) (run b) a.1 b.1
  opened_shifts (Expr-F.Add a b) = binary_shifts _ (run a) (run b) a.1 b.1
  opened_shifts (Expr-F.Sub a b) = binary_shifts _ (run a) (run b) a.1 b.1
  opened_shifts (Expr-F.Join a b) = binary_shifts _ (run a) (run b) a.1 b.1
  opened_shifts (Expr-F.Mul a b) = binary_shifts _ (run a) (run b) a.1 b.1
  opened_shifts (Expr-F.Div a b) = binary_shifts _ (run a) (run b) a.1 b.1
  opened_shifts (Expr-F.Rem a b) = binary_shifts _ (run a) (run b) a.1 b.1
  opened_shifts (Expr-F.Len a) = unary_shifts _ (run a) a.1
  opened_shifts (Expr-F.Str a) = unary_shifts _ (run a) a.1

  level : (y : Expr-F (Shown P)) → P (roll-Expr (map-Expr (Shown P) Expr (λ s. s.0) y))
  level y env units cost k =
      let x = map-Expr (Shown P) Expr (λ s. s.0) y in
      let e : suc (cost + k) ≡ suc cost + k = omega arith in
      evaluated_roll calls x env units (cost + k) ∙ ap (λ n. opened calls (map-Expr Expr Run (evaluated calls) x) env units n) e ∙ opened_shifts y env units (suc cost) k ∙ ap (raised k) (sym (evaluated_roll calls x env units cost))

  pub expression_shifts : (e : Expr) → RunShifts (evaluated calls e)
  expression_shifts = by_levels P level

if_shifts : (b : Bool) (r s : ℕ → ℕ → End Val) → Shifts r → Shifts s → Shifts (λ units cost. if b then r units cost else s units cost)
if_shifts true r s h g units cost k = h units cost k
if_shifts false r s h g units cost k = g units cost k

extended_shifts : (calls : Calls) (i : Item) → CallsShift calls → CallsShift (extended calls i)
extended_shifts calls (item.Helper name params body) h asked vs =
    if_shifts (bytes_eq name asked && nat_eq (length params) (length vs)) _ _ (expression_shifts calls h body (bound params vs)) (h asked vs)
extended_shifts calls (item.Table name) h asked vs = h asked vs
extended_shifts calls (item.Queue name bound) h asked vs = h asked vs
extended_shifts calls (item.Outside name params) h asked vs = h asked vs
extended_shifts calls (item.Txn serial name params body) h asked vs = h asked vs
extended_shifts calls (item.Flow name params body) h asked vs = h asked vs

all_shift_calls : (calls : Calls) (items : List Item) → CallsShift calls → CallsShift (fold extended calls items)
all_shift_calls calls [] h = h
all_shift_calls calls (i ∷ items) h = all_shift_calls (extended calls i) items (extended_shifts calls i h)

pub calls_of_shifts : (items : List Item) → CallsShift (calls_of items)
calls_of_shifts items = all_shift_calls no_calls items (λ name vs units cost k. refl)

pub expressions_shift : ExpressionsShift
expressions_shift items e env units cost k = expression_shifts (calls_of items) (calls_of_shifts items) e env units cost k
