-- What a map of last writes tells: the cell and the version of a key, and what a transaction sees.
use Rattle.std.specs.Prelude.{ℕ, Option, List, map, option_and_then}
use Rattle.std.specs.Option.{option_map_or}
use Rattle.std.specs.List.{filter_map}
use Rattle.std.specs.FinMap.{find}
use Rattle.r3_rows.specs.declared.rows.Key.{Key}
use Rattle.r3_rows.specs.declared.rows.Key.TheVariants as keys
use Rattle.r3_rows.specs.declared.rows.Cell.{Cell}
use Rattle.r3_rows.specs.Keys.{key_cmp}
use Rattle.r3_entry.specs.History.{Map, seen_in}
use Rattle.fn_tree.specs.Writes.{Versions}
use Rattle.r3_model.specs.Rows.{user_of}

abbrev pub cell_in : Map → Key → Option Cell
cell_in m key = option_and_then (λ w. w.1) (find key_cmp key m)

abbrev pub version_in : Map → Key → ℕ
version_in m key = option_map_or (λ w. w.0) (find key_cmp key m) 0

-- the rows of users, as the body of a transaction sees them
abbrev pub versions_in : Map → Versions
versions_in m = record {
  cell = λ table key. option_and_then user_of (cell_in m (keys.User table key));
  version = λ table key. version_in m (keys.User table key);
  keys = λ table lo hi. map (λ (p : List ℕ × ℕ). p.0) (filter_map (seen_in table lo hi) m);
}
