-- Which entry conflicts with a transaction: the least one past its snapshot that wrote one of its keys.
use Rattle.std.specs.Prelude.{ℕ, min, List, fold, map, Option, Some, None}
use Rattle.r3_chain.specs.Versions.{Versions, versions_of, first_past}
use Rattle.r3_rows.specs.Keys.{key_cmp}
use Rattle.r3_rows.specs.declared.rows.Key.{Key}
use Rattle.r3_rows.specs.declared.rows.Cell.{Cell}

-- the keys that are written, in their order
abbrev pub keys_of : List (Key × Option Cell) → List Key
keys_of writes = map (λ w. w.0) writes

-- the lesser of two numbers that may be there
abbrev pub earlier : Option ℕ → Option ℕ → Option ℕ
earlier None b = b
earlier (Some i) None = Some i
earlier (Some i) (Some j) = Some (min i j)

-- the least index past the snapshot at which one of the keys was written
abbrev pub conflict_past : ℕ → List Key → Versions Key Cell → Option ℕ
conflict_past snap keys es = fold (λ least key. earlier least (first_past snap (versions_of key_cmp key es))) None keys
