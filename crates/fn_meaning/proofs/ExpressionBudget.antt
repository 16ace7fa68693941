-- What an expression spends.
use Rattle.std.proofs.Common.{◌≡◌, ◌≤◌, ℕ, ◌+◌, ◌*◌, zero, suc, Bool, true, false, List, [], ◌∷◌, ◌++◌, Option, Some, None, subst, ap, sym, ◌∙◌, arith, mul-suc}
use Rattle.std.specs.Prelude.{map, if◌then◌else◌, ◌&&◌, length, nat_eq}
use Rattle.std.specs.Str.{bytes_eq}
use Rattle.std.specs.List.{fold}
use Rattle.r3_value.specs.declared.value.Val.{Val}
use Rattle.r3_value.specs.declared.value.Outcome.{Outcome}
use Rattle.r3_value.specs.declared.value.Outcome.TheVariants.{Value, Failure}
use Rattle.fn_tree.specs.declared.program.Item.{Item}
use Rattle.fn_tree.specs.declared.program.Item.TheVariants as item
use Rattle.fn_tree.specs.declared.expr.Expr.{Expr, roll-Expr}
use Rattle.fn_tree.specs.declared.expr.Expr.TheOpen.{Expr-F}
use Rattle.fn_tree.specs.declared.expr.Expr.TheFolds.{map-Expr, fold-roll-Expr}
use Rattle.fn_tree.specs.Values.{bool_of}
use Rattle.fn_tree.specs.Comparison.{truth}
use Rattle.fn_tree.specs.Arithmetic.{type_failure}
use Rattle.fn_tree.specs.Sequences.{list_or_size}
use Rattle.fn_tree.specs.Expression.{Binding, End, Gives, Fails, Stuck, Run, Calls, opened, evaluated, values_onto, then_do, with_unit, ends, bound_or_stuck, both_by, either_by, unary, both, binary, extended, no_calls, calls_of, look_up, bound}
use Rattle.fn_meaning.specs.Nodes.{total, in_operands, in_node, in_expression, in_item, in_program}
use Rattle.fn_meaning.specs.Budget.{load, Spends, ExpressionsEnd}
use Rattle.fn_meaning.proofs.ExpressionLemmas.{Shown, by_levels, evaluated_roll}

pub le_self : (a : ℕ) → a ≤ a
le_self a = omega arith

pub le_then : (a b c : ℕ) → a ≤ b → b ≤ c → a ≤ c
le_then a b c h g = omega (arith, h, g)

pub le_first : (a n m b : ℕ) → a + (n + m) ≤ b → a + n ≤ b
le_first a n m b h = omega (arith, h)

pub le_second : (a c n m b : ℕ) → a + (n + m) ≤ b → c ≤ a + n → c + m ≤ b
le_second a c n m b h g = omega (arith, h, g)

pub le_none : (a b : ℕ) → a + 0 ≤ b → a ≤ b
le_none a b h = omega (arith, h)

pub le_some : (a n b : ℕ) → a + n ≤ b → a ≤ b
le_some a n b h = omega (arith, h)

pub le_zero : (a b : ℕ) → a ≤ b → a + 0 ≤ b
le_zero a b h = omega (arith, h)

-- a unit pays for so many nodes
pub pays : (each units cost : ℕ) → load each units cost + each ≤ load each (suc units) cost
pays each units cost = omega (arith, mul-suc each units)

pub le_less : (a c n each b : ℕ) → n ≤ each → c + each ≤ a → a ≤ b → c + n ≤ b
le_less a c n each b h g f = omega (arith, h, g, f)

le_node : (cost l n b : ℕ) → cost + l + suc n ≤ b → suc cost + l + n ≤ b
le_node cost l n b h = omega (arith, h)

-- from any place, a part spends at most n more than it has
abbrev pub Part : {A : Type 0} → ℕ → ℕ → (ℕ → ℕ → End A) → Type 0
Part each n r = (b units cost : ℕ) → load each units cost + n ≤ b → Spends each b (r units cost)

module _ (each : ℕ) where
  then_bounded : {A B : Type 0} (b c : ℕ) (d : End A) (go : A → ℕ → ℕ → End B) → b ≤ c → Spends each b d → ((a : A) (units cost : ℕ) → load each units cost ≤ b → Spends each c (go a units cost)) → Spends each c (then_do d go)
  then_bounded b c (Gives a units cost) go le h f = f a units cost h
  then_bounded b c (Fails word units cost) go le h f = le_then (load each units cost) b c h le
  then_bounded b c Stuck go le h f = tt

  pub then_part : {A B : Type 0} (n m : ℕ) (r : ℕ → ℕ → End A) (go : A → ℕ → ℕ → End B) → Part each n r → ((a : A) → Part each m (go a)) → Part each (n + m) (λ units cost. then_do (r units cost) go)
  then_part n m r go hr hgo b units cost h =
      then_bounded (load each units cost + n) b (r units cost) go (le_first (load each units cost) n m b h) (hr (load each units cost + n) units cost (le_self (load each units cost + n)))
      (λ a u c g. hgo a b u c (le_second (load each units cost) (load each u c) n m b h g))

  pub then_free : {A B : Type 0} (n : ℕ) (r : ℕ → ℕ → End A) (go : A → ℕ → ℕ → End B) → Part each n r → ((a : A) → Part each 0 (go a)) → Part each n (λ units cost. then_do (r units cost) go)
  then_free n r go hr hgo b units cost h =
      then_bounded b b (r units cost) go (le_self b) (hr b units cost h) (λ a u c g. hgo a b u c (le_zero (load each u c) b g))

  gives_part : {A : Type 0} (a : A) → Part each 0 (Gives a)
  gives_part a b units cost h = le_none (load each units cost) b h

  ends_part : (o : Outcome) → Part each 0 (ends o)
  ends_part (Value v) b units cost h = le_none (load each units cost) b h
  ends_part (Failure word) b units cost h = le_none (load each units cost) b h

  bound_part : (o : Option Val) → Part each 0 (bound_or_stuck o)
  bound_part (Some v) b units cost h = le_none (load each units cost) b h
  bound_part None b units cost h = tt

  -- a part that is tried or not
  both_part : (n : ℕ) (o : Option Bool) (rest : ℕ → ℕ → End Val) → Part each n rest → Part each n (λ units cost. both_by o units cost rest)
  both_part n None rest h b units cost g = ends_part type_failure b units cost (le_zero (load each units cost) b (le_some (load each units cost) n b g))
  both_part n (Some true) rest h b units cost g = h b units cost g
  both_part n (Some false) rest h b units cost g = le_some (load each units cost) n b g

  either_part : (n : ℕ) (o : Option Bool) (rest : ℕ → ℕ → End Val) → Part each n rest → Part each n (λ units cost. either_by o units cost rest)
  either_part n None rest h b units cost g = ends_part type_failure b units cost (le_zero (load each units cost) b (le_some (load each units cost) n b g))
  either_part n (Some true) rest h b units cost g = le_some (load each units cost) n b g
  either_part n (Some false) rest h b units cost g = h b units cost g

  -- a unit pays for what it leads to
  unit_part : {A : Type 0} (n : ℕ) (go : ℕ → ℕ → End A) → n ≤ each → Part each n go → Part each 0 (λ units cost. with_unit units cost go)
  unit_part n go le h b zero cost g = le_none (load each zero cost) b g
  unit_part n go le h b (suc units) cost g =
      h b units cost (le_less (load each (suc units) cost) (load each units cost) n each b le (pays each units cost) (le_none (load each (suc units) cost) b g))

  abbrev pub RunPart : ℕ → Run → Type 0
  RunPart n r = (env : List Binding) → Part each n (r env)

  -- a call of a helper spends no more than a unit pays for
  abbrev pub CallsPart : Calls → Type 0
  CallsPart calls = (name : List ℕ) (vs : List Val) → Part each each (calls name vs)

  unary_part : (n : ℕ) (f : Val → Outcome) (a : Run) → RunPart n a → RunPart n (unary f a)
  unary_part n f a ha env = then_free n (a env) (λ x. ends (f x)) (ha env) (λ x. ends_part (f x))

  binary_part : (n m : ℕ) (f : Val → Val → Outcome) (a b : Run) → RunPart n a → RunPart m b → RunPart (n + m) (binary f a b)
  binary_part n m f a b ha hb env =
      then_free (n + m) (both a b env) (λ p. ends (f p.0 p.1))
      (then_part n m (a env) (λ x units cost. then_do (b env units cost) (λ y. Gives (x, y))) (ha env) (λ x. then_free m (b env) (λ y. Gives (x, y)) (hb env) (λ y. gives_part {A = Val × Val} (x, y))))
      (λ p. ends_part (f p.0 p.1))

  module _ (calls : Calls) (hc : CallsPart calls) where
    abbrev P : Expr → Type 0
    P e = RunPart (in_expression e) (evaluated calls e)

    abbrev run : Shown P → Run
    run s = evaluated calls s.0

    abbrev size : Shown P → ℕ
    size s = in_expression s.0

    values_part : (done : List Val) (ss : List (Shown P)) (env : List Binding) → Part each (total (map in_expression (map (λ s. s.0) ss))) (values_onto done (map (evaluated calls) (map (λ s. s.0) ss)) env)
    values_part done [] env = gives_part done
    values_part done (s ∷ ss) env =
        then_part (size s) (total (map in_expression (map (λ s. s.0) ss))) (run s env) (λ v. values_onto (done ++ v ∷ []) (map (evaluated calls) (map (λ s. s.0) ss)) env) (s.1 env) (λ v. values_part (done ++ v ∷ []) ss env)

    two : (f : Val → Val → Outcome) (a b : Shown P) → RunPart (size a + size b) (binary f (run a) (run b))
    two f a b = binary_part (size a) (size b) f (run a) (run b) a.1 b.1

    one : (f : Val → Outcome) (a : Shown P) → RunPart (size a) (unary f (run a))
    one f a = unary_part (size a) f (run a) a.1

    opened_part : (y : Expr-F (Shown P)) → RunPart (in_operands (map-Expr Expr ℕ in_expression (map-Expr (Shown P) Expr (λ s. s.0) y))) (opened calls (map-Expr Expr Run (evaluated calls) (map-Expr (Shown P) Expr (λ s. s.0) y)))
    opened_part (Expr-F.Int z) = λ env b units cost h. le_none (load each units cost) b h
    opened_part (Expr-F.Text t) = λ env b units cost h. le_none (load each units cost) b h
    opened_part Expr-F.Null = λ env b units cost h. le_none (load each units cost) b h
    opened_part Expr-F.True = λ env b units cost h. le_none (load each units cost) b h
    opened_part Expr-F.False = λ env b units cost h. le_none (load each units cost) b h
    opened_part (Expr-F.Name x) = λ env. bound_part (look_up env x)
    opened_part (Expr-F.Helper name args) = λ env.
        then_free _ (values_onto [] (map (evaluated calls) (map (λ s. s.0) args)) env) (λ vs units cost. with_unit units cost (calls name vs)) (values_part [] args env)
        (λ vs. unit_part each (calls name vs) (le_self each) (hc name vs))
    opened_part (Expr-F.List es) = λ env.
        then_free _ (values_onto [] (map (evaluated calls) (map (λ s. s.0) es)) env) (λ vs. ends (list_or_size vs)) (values_part [] es env) (λ vs. ends_part (list_or_size vs))
    opened_part (Expr-F.Index a b) = two _ a b
    opened_part (Expr-F.Neg a) = one _ a
    opened_part (Expr-F.Not a) = one _ a
    opened_part (Expr-F.Or a b) = λ env.
        then_part (size a) (size b) (run a env) (λ x units cost. either_by (bool_of x) units cost (unary truth (run b) env)) (a.1 env)
        (λ x. either_part (size b) (bool_of x) (unary truth (run b) env) (one truth b env))
    opened_part (Expr-F.And a b) = λ env.
        then_part (size a) (size b) (run a env) (λ x units cost. both_by (bool_of x) units cost (unary truth (run b) env)) (a.1 env)
        (λ x. both_part (size b) (bool_of x) (unary truth (run b) env) (one truth b env))
    opened_part (Expr-F.Eq a b) = two _ a b
    opened_part (Expr-F.Ne a b) = two _ a b
    opened_part (Expr-F.Lt a b) = two _ a b
    opened_part (Expr-F.Le a b) = two _ a b
    opened_part (Expr-F.Gt a b) = two _ a b
    opened_part (Expr-F.Ge a b) = two _ a b
    opened_part (Expr-F.Add a b) = two _ a b
    opened_part (Expr-F.Sub a b) = two _ a b
    opened_part (Expr-F.Join a b) = two _ a b
    opened_part (Expr-F.Mul a b) = two _ a b
    opened_part (Expr-F.Div a b) = two _ a b
    opened_part (Expr-F.Rem a b) = two _ a b
    opened_part (Expr-F.Len a) = one _ a
    opened_part (Expr-F.Str a) = one _ a

    level : (y : Expr-F (Shown P)) → P (roll-Expr (map-Expr (Shown P) Expr (λ s. s.0) y))
    level y env b units cost h =
        let x = map-Expr (Shown P) Expr (λ s. s.0) y in
        let m = in_operands (map-Expr Expr ℕ in_expression x) in
        let h' : load each units cost + suc m ≤ b = subst (λ n. load each units cost + n ≤ b) (fold-roll-Expr ℕ in_node x) h in
        subst (Spends each b) (sym (evaluated_roll calls x env units cost)) (opened_part y env b units (suc cost) (le_node cost (each * units) m b h'))

    pub expression_part : (e : Expr) → RunPart (in_expression e) (evaluated calls e)
    expression_part = by_levels P level

  if_part : (n : ℕ) (b : Bool) (r s : ℕ → ℕ → End Val) → Part each n r → Part each n s → Part each n (λ units cost. if b then r units cost else s units cost)
  if_part n true r s h g = h
  if_part n false r s h g = g

  pub weaker : {A : Type 0} (n m : ℕ) (r : ℕ → ℕ → End A) → n ≤ m → Part each n r → Part each m r
  weaker n m r le h b units cost g = h b units cost (le_parts (load each units cost) n m b le g)
    where
      le_parts : (a n m b : ℕ) → n ≤ m → a + m ≤ b → a + n ≤ b
      le_parts a n m b h g = omega (arith, h, g)

  extended_part : (calls : Calls) (i : Item) → in_item i ≤ each → CallsPart calls → CallsPart (extended calls i)
  extended_part calls (item.Helper name params body) le h asked vs =
      if_part each (bytes_eq name asked && nat_eq (length params) (length vs)) _ _ (weaker (in_expression body) each (evaluated calls body (bound params vs)) le (expression_part calls h body (bound params vs))) (h asked vs)
  extended_part calls (item.Table name) le h asked vs = h asked vs
  extended_part calls (item.Queue name bound) le h asked vs = h asked vs
  extended_part calls (item.Outside name params) le h asked vs = h asked vs
  extended_part calls (item.Txn serial name params body) le h asked vs = h asked vs
  extended_part calls (item.Flow name params body) le h asked vs = h asked vs

  all_calls_part : (calls : Calls) (items : List Item) → in_program items ≤ each → CallsPart calls → CallsPart (fold extended calls items)
  all_calls_part calls [] le h = h
  all_calls_part calls (i ∷ items) le h =
      all_calls_part (extended calls i) items (le_tail (in_item i) (in_program items) each le) (extended_part calls i (le_head (in_item i) (in_program items) each le) h)
    where
      le_head : (n m b : ℕ) → n + m ≤ b → n ≤ b
      le_head n m b h = omega (arith, h)

      le_tail : (n m b : ℕ) → n + m ≤ b → m ≤ b
      le_tail n m b h = omega (arith, h)

  pub calls_of_part : (items : List Item) → in_program items ≤ each → CallsPart (calls_of items)
  calls_of_part items le = all_calls_part no_calls items le (λ name vs b units cost h. tt)

pub expressions_end : ExpressionsEnd
expressions_end items e env units cost =
    let each = in_program items in
    expression_part each (calls_of items) (calls_of_part each items (le_self each)) e env (load each units cost + in_expression e) units cost (le_self (load each units cost + in_expression e))
