-- The rows of a range, in one pass over its keys and the writes.
use Rattle.std.specs.Prelude.{◌≡◌, ℕ, List, [], ◌∷◌, ◌++◌, map, Option}
use Rattle.std.specs.List.{AllByRecursion}
use Rattle.std.specs.Ordering.{nat_cmp}
use Rattle.std.specs.Cmp.Lexicographic.{slice_cmp}
use Rattle.std.specs.declared.cmp.Ordering.TheVariants.{Less}
use Rattle.r3_value.specs.declared.value.Val.{Val}
use Rattle.fn_tree.specs.Values.{or_null}
use Rattle.fn_tree.specs.Writes.{Versions, Row, row_left}
use Rattle.fn_txn.specs.declared.row_key.RowKey.{RowKey}

-- the row of a key with its version
abbrev pub key_row : Versions → List ℕ → List ℕ × ℕ → Row
key_row base table k = (k.0, or_null (base.cell table k.0))

-- the rows with each of the entries' keys left as a body left it
abbrev pub all_left : List (RowKey × Option Val) → List Row → List Row
all_left [] rows = rows
all_left (e ∷ es) rows = all_left es (row_left e.0.key e.1 rows)

-- each entry's key stands after this one
abbrev pub AreAbove : List ℕ → List (RowKey × Option Val) → Type 0
AreAbove key es = AllByRecursion (λ e. slice_cmp nat_cmp key e.0.key ≡ Less) es

-- The rows before the key were added, and those of the rest are left: that key and later ones are left between them.
abbrev pub Passes : Versions → List ℕ → List ℕ → List (List ℕ × ℕ) → List (List ℕ × ℕ) → List Row → List Row → Type 0
Passes base table key keys rest old new =
    (left : Option Val) (es : List (RowKey × Option Val)) → AreAbove key es →
    new ++ (row_left key left [] ++ all_left es (map (key_row base table) rest)) ≡ old ++ all_left es (row_left key left (map (key_row base table) keys))
