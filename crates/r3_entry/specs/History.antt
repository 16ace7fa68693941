-- A history is a list of entries, numbered from 1. What the first entries wrote.
use Rattle.std.specs.Prelude.{ℕ, Bool, ◌&&◌, List, [], take, fold, Option, Some, None, option_and_then, if◌then◌else◌}
use Rattle.std.specs.Option.{option_map_or}
use Rattle.std.specs.List.{enumerate_from, filter_map, list_any}
use Rattle.std.specs.Ordering.{is_eq, is_lt, is_le, eq_by_cmp}
use Rattle.std.specs.FinMap.{find}
use Rattle.std.specs.FinMap.Entries.{put}
use Rattle.r3_rows.specs.declared.rows.Key.{Key}
use Rattle.r3_rows.specs.declared.rows.Key.TheVariants.{User, Flow, Step}
use Rattle.r3_rows.specs.declared.rows.Cell.{Cell}
use Rattle.r3_entry.specs.declared.entry.Entry.{Entry}
use Rattle.r3_rows.specs.Keys.{key_cmp, bytes_cmp}

-- the last write of a key: the entry's number, and the cell or None for a deletion
abbrev pub Write : Type 0
Write = ℕ × Option Cell

-- the last writes, in the order of their keys
abbrev pub Map : Type 0
Map = List (Key × Write)

abbrev pub after_entry : Map → ℕ × Entry → Map
after_entry m (j, e) = fold (λ m w. put key_cmp w.0 (j, w.1) m) m e.writes

-- what the first k entries wrote
abbrev pub map_at : List Entry → ℕ → Map
map_at h k = fold after_entry [] (enumerate_from 1 (take k h))

abbrev pub cell_at : List Entry → ℕ → Key → Option Cell
cell_at h k key = option_and_then (λ w. w.1) (find key_cmp key (map_at h k))

-- the number of the last entry up to k that writes the key, or 0
abbrev pub version_at : List Entry → ℕ → Key → ℕ
version_at h k key = option_map_or (λ w. w.0) (find key_cmp key (map_at h k)) 0

-- lo ≤ key < hi
abbrev pub is_between : List ℕ → List ℕ → List ℕ → Bool
is_between lo hi key = is_le (bytes_cmp lo key) && is_lt (bytes_cmp key hi)

abbrev pub seen_in : List ℕ → List ℕ → List ℕ → Key × Write → Option (List ℕ × ℕ)
seen_in table lo hi (User t key, (j, Some cell)) = if is_eq (bytes_cmp t table) && is_between lo hi key then Some (key, j) else None
seen_in table lo hi (User t key, (j, None)) = None
seen_in table lo hi (Flow id, w) = None
seen_in table lo hi (Step id n, w) = None

-- the keys of the table that are present, from lo and below hi, with their versions
abbrev pub range_at : List Entry → ℕ → List ℕ → List ℕ → List ℕ → List (List ℕ × ℕ)
range_at h k table lo hi = filter_map (seen_in table lo hi) (map_at h k)

abbrev pub writes_key : Entry → Key → Bool
writes_key e key = list_any (λ w. eq_by_cmp key_cmp key w.0) e.writes
