-- What must be left by a crash, by the bytes said and the calls asked before it.
use Rattle.std.specs.Prelude.{ℕ, zero, suc, ◌+◌, ◌-◌, max, List, [], ◌∷◌, length, map}
use Rattle.r3_model.specs.Event.{Call}
use Rattle.r3_model.specs.Machine.{State, Out}

-- what was promised: a reply of so many bytes, or a call asked, each with the length that the history then had
pub data Mark : Type 0 where
  Said : (bytes kept : ℕ) → Mark
  Asked : (kept : ℕ) → Mark

abbrev pub said_by : List Mark → ℕ
said_by [] = 0
said_by (Said bytes kept ∷ marks) = bytes + said_by marks
said_by (Asked kept ∷ marks) = said_by marks

abbrev pub asked_by : List Mark → ℕ
asked_by [] = 0
asked_by (Said bytes kept ∷ marks) = asked_by marks
asked_by (Asked kept ∷ marks) = 1 + asked_by marks

abbrev pub due : ℕ → ℕ → ℕ
due zero kept = 0
due (suc n) kept = kept

-- the length that is owed once n bytes were said and m calls asked
abbrev pub owed : List Mark → ℕ → ℕ → ℕ
owed [] n m = 0
owed (Said bytes kept ∷ marks) n m = max (due n kept) (owed marks (n - bytes) m)
owed (Asked kept ∷ marks) n m = max (due m kept) (owed marks n (m - 1))

-- the number of entries that a crash leaves at least
abbrev pub held : ℕ → List Mark → ℕ → ℕ → ℕ
held first marks n m = max first (owed marks n m)

-- the calls of a step are made before its entry, on all that stands there
abbrev pub asks_of : State → Out → List Mark
asks_of before o = map (λ (c : Call). Asked (length before.history)) o.calls
