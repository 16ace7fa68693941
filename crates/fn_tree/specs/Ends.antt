-- How a part of a body ends, and what it starts from.
use Rattle.r3_value.specs.declared.value.Outcome.{Outcome}
use Rattle.r3_value.specs.declared.value.Val.{Val}
use Rattle.std.specs.Prelude.{ℕ, Bool, false, not, ◌&&◌, ◌||◌, List, [], ◌∷◌, ◌++◌, take, codes, if◌then◌else◌}
use Rattle.std.specs.Str.{bytes_eq}
use Rattle.fn_tree.specs.Evaluation.{Binding}

-- where a body is: its bindings, the newest last, what it acts on, the units left and the nodes evaluated
pub record At (W : Type 0) : Type 0 where
  pub env : List Binding
  pub world : W
  pub units : ℕ
  pub cost : ℕ

-- How a part of a body ends: it goes on with something, returns, fails, or asks and goes on with the answer.
-- It is stuck where an expression is, at an ask of nothing that can be asked, and at a statement of another kind of body.
pub data Ends (Q W A : Type 0) : Type 0 where
  Goes : (a : A) (at : At W) → Ends Q W A
  Returns : (v : Val) (at : At W) → Ends Q W A
  Failed : (word : List ℕ) (at : At W) → Ends Q W A
  Asks : (q : Q) (at : At W) (next : Outcome → Ends Q W A) → Ends Q W A
  Stuck : Ends Q W A

-- goes on where the part before did
abbrev pub and_then : {Q W A B : Type 0} → Ends Q W A → (A → At W → Ends Q W B) → Ends Q W B
and_then (Goes a at) go = go a at
and_then (Returns v at) go = Returns v at
and_then (Failed word at) go = Failed word at
and_then (Asks q at next) go = Asks q at (λ o. and_then (next o) go)
and_then Stuck go = Stuck

-- What `get`, `scan`, `put`, `delete` and the asks do. The keys and bounds are values, which may be of a wrong kind.
-- A call and a spawn get the name, the number of arguments, and these as one list value.
pub record Effects (Q W : Type 0) : Type 0 where
  pub get : List ℕ → Val → At W → Ends Q W Val
  pub scan : List ℕ → Val → Val → At W → Ends Q W Val
  pub put : List ℕ → Val → Val → At W → Ends Q W (Unit {0})
  pub delete : List ℕ → Val → At W → Ends Q W (Unit {0})
  pub call : List ℕ → ℕ → Val → At W → Ends Q W Val
  pub spawn : List ℕ → ℕ → Val → At W → Ends Q W Val
  pub await : List ℕ → At W → Ends Q W Val

abbrev pub is_bound : List Binding → List ℕ → Bool
is_bound [] name = false
is_bound (b ∷ env) name = bytes_eq b.0 name || is_bound env name

-- the newest binding of the name has the value
abbrev pub assigned : List Binding → List ℕ → Val → List Binding
assigned [] name v = []
assigned (b ∷ env) name v =
    if is_bound env name || not (bytes_eq b.0 name) then b ∷ assigned env name v else (b.0, v) ∷ env

abbrev pub bind : {W : Type 0} → List ℕ → Val → At W → At W
bind name v at = record at { env = at.env ++ (name, v) ∷ [] }

abbrev pub cut : {W : Type 0} → ℕ → At W → At W
cut n at = record at { env = take n at.env }

-- `try` catches neither of these
abbrev pub is_caught : List ℕ → Bool
is_caught word = not (bytes_eq word (codes "budget")) && not (bytes_eq word (codes "steps"))

-- what a part of a body does, that gives nothing
abbrev pub Act : Type 0 → Type 0 → Type 0
Act Q W = At W → Ends Q W (Unit {0})
