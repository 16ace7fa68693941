-- The least of the snapshots that are pinned.
use Rattle.std.specs.Prelude.{ℕ, ◌≤◌, min, List, fold, Option, Some, None, Contains}

-- no pinned snapshot is below this one
pub record IsLeast (held : List ℕ) (snap : ℕ) : Type 0 where
  pub pinned : Contains held snap
  pub least : (s : ℕ) → Contains held s → snap ≤ s

abbrev pub lesser : Option ℕ → ℕ → ℕ
lesser None snap = snap
lesser (Some least) snap = min least snap

abbrev pub least_in : List ℕ → Option ℕ
least_in held = fold (λ least snap. Some (lesser least snap)) None held
