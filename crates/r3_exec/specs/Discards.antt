-- When versions that nobody reads are discarded.
use Rattle.std.specs.Prelude.{◌≡◌, ◌⊎◌, ◌+◌, ◌<◌, ◌≤◌, length}
use Rattle.r3_chain.specs.Versions.{trimmed_all}
use Rattle.r3_store.specs.Holds.{IsOldestRead}
use Rattle.r3_exec.specs.declared.exec.Exec.{Exec}

-- Just what is read from the least open snapshot on is kept, or, where none is open, at the length. The length is noted.
pub record Discards (old new : Exec) : Type 0 where
  pub noted : new.vacuumed ≡ new.store.gate.count
  pub oldest : IsOldestRead new.store new.store.oldest
  pub trims : new.store.chains.versions ≡ trimmed_all new.store.oldest old.store.chains.versions

-- nothing is left to be discarded
abbrev pub HasDiscarded : Exec → Type 0
HasDiscarded exec = Discards exec exec

-- Versions are discarded only once 1,024 entries were added since the last time; where a snapshot is closed then, they are.
pub record DiscardsWhenDue (old new : Exec) : Type 0 where
  pub noted : (new.vacuumed ≡ old.vacuumed) ⊎ ((old.vacuumed + 1024 ≤ new.store.gate.count) × HasDiscarded new)
  pub few_since : length new.begun.entries < length old.begun.entries → new.store.gate.count < new.vacuumed + 1024
