-- Where the queue of a name stands.
use Rattle.std.specs.Prelude.{◌≡◌, ℕ, ◌<◌, false, List, length, get_or, bytes_eq}
use Rattle.sys_queue.specs.Lines.{Text, Line}

-- no queue before the place has the name
abbrev pub IsPast : Text → List Line → ℕ → Type 0
IsPast name ls i = (j : ℕ) (d : Line) → j < i → bytes_eq (get_or ls j d).name name ≡ false

-- the first queue of the name is at place i
pub record StandsAt (name : Text) (ls : List Line) (i : ℕ) : Type 0 where
  pub within : i < length ls
  pub named : (d : Line) → (get_or ls i d).name ≡ name
  pub past : IsPast name ls i
