-- Two declared queues, for the tests.
use Rattle.std.proofs.Common.{◌≡◌, ℕ, Bool, true, false, cond, List, [], ◌∷◌, Some, ap, rules}
use Rattle.std.specs.Prelude.{codes, IsSome, bytes_eq}
use Rattle.sys_queue.specs.Lines.{Text, Line, line_of, declared_of}

abbrev two_queues : List (Text × ℕ)
two_queues = (codes "mail", 2) ∷ (codes "print", 1) ∷ []

-- a queue of that name is declared
abbrev declares : Text → List (Text × ℕ) → Bool
declares name [] = false
declares name (d ∷ ds) = cond (bytes_eq d.0 name) true (declares name ds)

is_declared : (name : Text) (lines : List Line) → declares name (declared_of lines) ≡ true → IsSome (line_of name lines)
is_declared name [] h = absurd cc
is_declared name (l ∷ ls) h =
    elim (bytes_eq l.name name) as (λ b. cond b true (declares name (declared_of ls)) ≡ true → IsSome (cond b (Some l) (line_of name ls))) [
      | true ↦ λ _. search rules
      | false ↦ λ (d : declares name (declared_of ls) ≡ true). is_declared name ls d
    ] h

pub mail_is_declared : (lines : List Line) → declared_of lines ≡ two_queues → IsSome (line_of (codes "mail") lines)
mail_is_declared lines e = is_declared (codes "mail") lines (ap (declares (codes "mail")) e)

pub print_is_declared : (lines : List Line) → declared_of lines ≡ two_queues → IsSome (line_of (codes "print") lines)
print_is_declared lines e = is_declared (codes "print") lines (ap (declares (codes "print")) e)
