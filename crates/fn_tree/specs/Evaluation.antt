-- How the evaluation of an expression ends, and what it starts from.
use Rattle.r3_value.specs.declared.value.Outcome.{Outcome}
use Rattle.r3_value.specs.declared.value.Outcome.TheVariants.{Value, Failure}
use Rattle.r3_value.specs.declared.value.Val.{Val}
use Rattle.std.specs.Prelude.{ℕ, zero, suc, List, [], ◌∷◌, ◌++◌, map, codes, Option, Some, None, if◌then◌else◌}
use Rattle.std.specs.Str.{bytes_eq}

-- How an evaluation ends: with what it gives or with a failure's word, the units left, and the number of nodes evaluated.
-- It is stuck at an unbound name, and at a call of no helper or with a wrong number of arguments; a sound program never is.
pub data End (A : Type 0) : Type 0 where
  Gives : (a : A) (units cost : ℕ) → End A
  Fails : (word : List ℕ) (units cost : ℕ) → End A
  Stuck : End A

-- goes on with what was given, the units and the count; another end stands
abbrev pub then_do : {A B : Type 0} → End A → (A → ℕ → ℕ → End B) → End B
then_do (Gives a units cost) go = go a units cost
then_do (Fails word units cost) go = Fails word units cost
then_do Stuck go = Stuck

abbrev pub ends : Outcome → ℕ → ℕ → End Val
ends (Value v) units cost = Gives v units cost
ends (Failure word) units cost = Fails word units cost

-- a name with its value
abbrev pub Binding : Type 0
Binding = List ℕ × Val

-- the names that are bound
abbrev pub names_of : List Binding → List (List ℕ)
names_of env = map (λ b. b.0) env

-- the value of the last binding of the name, else the given one
abbrev pub look_up_or : Option Val → List Binding → List ℕ → Option Val
look_up_or o [] name = o
look_up_or o (b ∷ env) name = look_up_or (if bytes_eq b.0 name then Some b.1 else o) env name

abbrev pub look_up : List Binding → List ℕ → Option Val
look_up env name = look_up_or None env name

abbrev pub bound_or_stuck : Option Val → ℕ → ℕ → End Val
bound_or_stuck (Some v) units cost = Gives v units cost
bound_or_stuck None units cost = Stuck

-- what an expression does: from bindings, units left and nodes evaluated so far
abbrev pub Run : Type 0
Run = List Binding → ℕ → ℕ → End Val

-- what a call of a helper does: from its name, its arguments, units and nodes
abbrev pub Calls : Type 0
Calls = List ℕ → List Val → ℕ → ℕ → End Val

-- the values of several expressions, from left to right, after those already there
abbrev pub values_onto : List Val → List Run → List Binding → ℕ → ℕ → End (List Val)
values_onto done [] env units cost = Gives done units cost
values_onto done (e ∷ es) env units cost = then_do (e env units cost) (λ v units cost. values_onto (done ++ v ∷ []) es env units cost)

-- takes one unit
abbrev pub with_unit : {A : Type 0} → ℕ → ℕ → (ℕ → ℕ → End A) → End A
with_unit zero cost go = Fails (codes "budget") 0 cost
with_unit (suc units) cost go = go units cost
