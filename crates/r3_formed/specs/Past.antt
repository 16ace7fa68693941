-- Which entries of a history wrote a key past a snapshot, and chains that stand for a history.
use Rattle.std.specs.Prelude.{◌≡◌, ℕ, ◌+◌, ◌≤◌, cond, ◌&&◌, nat_lt, true, T, List, [], ◌∷◌, length, fold, Option, Some, None}
use Rattle.std.specs.Option.{option_map}
use Rattle.std.specs.List.{AllByRecursion, enumerate_from, find, list_any}
use Rattle.std.specs.FinMap.Entries.{is_sorted}
use Rattle.r3_rows.specs.declared.rows.Key.{Key}
use Rattle.r3_rows.specs.declared.rows.Cell.{Cell}
use Rattle.r3_entry.specs.declared.entry.Entry.{Entry}
use Rattle.r3_rows.specs.Keys.{key_cmp}
use Rattle.r3_entry.specs.History.{map_at, writes_key}
use Rattle.r3_chain.specs.Versions.{Chains, Versions, versions_of, installed, as_of, first_past, has_room, kept_count, IsNext, AreFalling}
use Rattle.r3_snap.specs.Conflicts.{earlier}

-- entries from number j on: the first past the snapshot that writes the key
abbrev pub first_from : ℕ → ℕ → Key → List Entry → Option ℕ
first_from j snap key [] = None
first_from j snap key (e ∷ es) = cond (nat_lt snap j && writes_key e key) (Some j) (first_from (j + 1) snap key es)

abbrev pub first_write : List Entry → ℕ → Key → Option ℕ
first_write h snap key = first_from 1 snap key h

-- the first entry past the snapshot that wrote one of the keys
abbrev pub first_conflict : List Entry → ℕ → List Key → Option ℕ
first_conflict h snap keys = fold (λ least key. earlier least (first_write h snap key)) None keys

-- the same, entry by entry
abbrev pub first_writer : List Entry → ℕ → List Key → Option ℕ
first_writer h snap keys =
    option_map (λ e. e.0) (find (λ e. nat_lt snap e.0 && list_any (writes_key e.1) keys) (enumerate_from 1 h))

-- the versions with those of one more entry
abbrev pub all_installed : ℕ → List (Key × Option Cell) → Versions Key Cell → Versions Key Cell
all_installed index writes es = fold (λ es w. installed key_cmp index w.0 w.1 es) es writes

-- how many writes the entries have
abbrev pub write_count : List Entry → ℕ
write_count [] = 0
write_count (e ∷ es) = length e.writes + write_count es

-- So many more versions don't pass the cap. An entry of at most 2^23 bytes writes fewer than 2^21 keys.
abbrev pub HasRoom : Chains Key Cell → ℕ → Type 0
HasRoom chains n = kept_count chains.versions + n ≤ chains.cap

-- Versions stand for a history: as of each index from the oldest on for what it then held, and past each such snapshot
-- for who wrote. There are no more of them than writes.
pub record StandFor (es : Versions Key Cell) (h : List Entry) (oldest : ℕ) : Type 0 where
  pub sorted : T (is_sorted key_cmp es)
  pub maps : (k : ℕ) → oldest ≤ k → as_of k es ≡ map_at h k
  pub past : (snap : ℕ) (key : Key) → oldest ≤ snap → first_past snap (versions_of key_cmp key es) ≡ first_write h snap key
  pub numbers : (key : Key) → AllByRecursion (λ v. v.0 ≤ length h) (versions_of key_cmp key es)
  pub falling : (key : Key) → AreFalling (versions_of key_cmp key es)
  pub kept : kept_count es ≤ write_count h

-- each write has room, and a higher index than its key's versions
pub record AreReady (index : ℕ) (writes : List (Key × Option Cell)) (free : List Key) (es : Versions Key Cell) : Type 0 where
  pub sorted : T (is_sorted key_cmp writes)
  pub room : AllByRecursion (λ w. has_room key_cmp w.0 free ≡ true) writes
  pub next : AllByRecursion (λ w. IsNext key_cmp index w.0 es) writes
