-- A list of entries, as a history that can be read.
use Rattle.std.specs.Prelude.{◌≡◌, ℕ, ◌≤◌, List, length}
use Rattle.r3_entry.specs.declared.entry.Entry.{Entry}
use Rattle.r3_entry.specs.Formed.{IsFormed}
use Rattle.r3_plain.specs.declared.past.Kept.{Kept}

pub record Stands (p : Kept) (h : List Entry) : Type 0 where
  pub same : p.history.now ≡ h
  pub formed : IsFormed h
  pub count : p.count ≡ length h

-- its rows may be read as of each number of entries that it has
pub record Reads (p : Kept) (k : ℕ) : Type 0 where
  pub within : k ≤ length p.history.now
  pub formed : IsFormed p.history.now
