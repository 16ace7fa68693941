-- A store on a desk's disk, and the history that it holds.
use Rattle.std.specs.Prelude.{◌≡◌, ◌⊎◌, ℕ, ◌+◌, ◌≤◌, List, [], ◌∷◌, ◌++◌, length, map, take, drop, Contains, count_by, sum_by, Option}
use Rattle.std.specs.List.{AllByRecursion}
use Rattle.r3_gate.specs.Gate.{Tracks}
use Rattle.r3_snap.specs.Pins.{IsLeast}
use Rattle.r3_entry.specs.declared.entry.Entry.{Entry}
use Rattle.r3_entry.specs.Formed.{IsFormed, IsProgramFirst, IsReadAt, IsOfKind, IsNewStep, IsFlowRow, is_user, read_count}
use Rattle.r3_formed.specs.Past.{StandFor}
use Rattle.r3_formed.specs.Answers.{program_texts, text_of}
use Rattle.r3_formed.specs.Load.{payloads}
use Rattle.r3_store.specs.declared.store.Store.{Store}

-- what is in memory stands for the history h
pub record Stands (store : Store) (h : List Entry) : Type 0 where
  pub formed : IsFormed h
  pub count : store.gate.count ≡ length h
  pub versions : StandFor store.chains.versions h store.oldest
  pub oldest : store.oldest ≤ length h
  pub pins : (s : ℕ) → Contains store.pins s → (store.oldest ≤ s) × (s ≤ length h)
  pub texts : map text_of store.texts.items ≡ program_texts h

-- the store holds the history h on the desk's disk, and its first entries are settled
pub record Holds {D : Type 0} (told_size : D → Option ℕ) (told_image : D → Option (List ℕ)) (may_leave : D → List ℕ → Type 0) (desk : D) (store : Store) (h : List Entry) (settled : ℕ) : Type 0 where
  pub stands : Stands store h
  pub within : settled ≤ length h
  pub settled_formed : IsFormed (take settled h)
  pub tracks : Tracks told_size told_image may_leave desk store.gate (payloads (take settled h)) (payloads (drop settled h))

-- a snapshot that is held, or the length
abbrev pub IsReadable : Store → ℕ → Type 0
IsReadable store index = Contains store.pins index ⊎ (index ≡ store.gate.count)

-- the least snapshot that is held, or the length where none is
abbrev pub IsOldestRead : Store → ℕ → Type 0
IsOldestRead store index = IsLeast store.pins index ⊎ ((store.pins ≡ []) × (index ≡ store.gate.count))

-- e may follow the entries h, but for a conflict
pub record MayFollow (h : List Entry) (e : Entry) : Type 0 where
  pub program : IsProgramFirst h e
  pub below : e.snap ≤ length h
  pub reads : AllByRecursion (IsReadAt h e.snap) e.reads
  pub kinds : AllByRecursion IsOfKind e.writes
  pub steps : AllByRecursion (IsNewStep h (h ++ e ∷ [])) e.writes
  pub flows : AllByRecursion (IsFlowRow (length h + 1)) e.writes
  pub few_rows : count_by is_user e.writes ≤ 1024
  pub few_reads : sum_by read_count e.reads ≤ 4096

-- nothing that a caller sees has changed
pub record SameStore (old new : Store) : Type 0 where
  pub gate : new.gate ≡ old.gate
  pub versions : new.chains.versions ≡ old.chains.versions
  pub oldest : new.oldest ≡ old.oldest
  pub pins : new.pins ≡ old.pins
  pub texts : new.texts.items ≡ old.texts.items
