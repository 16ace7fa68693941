-- What a transaction acts on: a map with versions, its looks, and its writes so far.
use Rattle.fn_tree.specs.declared.look.Look.{Look}
use Rattle.r3_value.specs.View.{items_of}
use Rattle.r3_value.specs.declared.value.Val.{Val}
use Rattle.r3_value.specs.declared.value.Val.TheVariants.{Text, List as ListOf}
use Rattle.std.specs.Prelude.{ℕ, Bool, not, ◌&&◌, ◌||◌, List, [], ◌∷◌, ◌++◌, Option, Some, None, if◌then◌else◌}
use Rattle.std.specs.Str.{bytes_eq}
use Rattle.fn_tree.specs.Comparison.{bytes_lt}

-- A map with versions at a snapshot: the value and the version of a key, and the present keys from lo and below hi in byte order.
pub record Versions : Type 0 where
  pub cell : (table key : List ℕ) → Option Val
  pub version : (table key : List ℕ) → ℕ
  pub keys : (table lo hi : List ℕ) → List (List ℕ)

-- a key of a table that was written, with what it was left
abbrev pub Write : Type 0
Write = List ℕ × List ℕ × Option Val

-- the looks, in order of the first, and the writes so far, in rising order of table and key
pub record Log : Type 0 where
  pub looks : List Look
  pub writes : List Write

-- a transaction asks nothing
pub data Never : Type 0 where

abbrev pub is_at : List ℕ → List ℕ → Write → Bool
is_at table key w = bytes_eq w.0 table && bytes_eq w.1 key

-- the key stands before that of the write
abbrev pub is_before : List ℕ → List ℕ → Write → Bool
is_before table key w = bytes_lt table w.0 || (bytes_eq table w.0 && bytes_lt key w.1)

-- what the body left at the key, if it wrote it
abbrev pub written_at : List Write → List ℕ → List ℕ → Option (Option Val)
written_at [] table key = None
written_at (w ∷ ws) table key = if is_at table key w then Some w.2 else written_at ws table key

-- the writes with one more, in rising order
abbrev pub with_write : List Write → List ℕ → List ℕ → Option Val → List Write
with_write [] table key left = (table, key, left) ∷ []
with_write (w ∷ ws) table key left =
    if is_at table key w then (table, key, left) ∷ ws
    else if is_before table key w then (table, key, left) ∷ w ∷ ws
    else w ∷ with_write ws table key left

-- a row that a scan gives
abbrev pub Row : Type 0
Row = List ℕ × Val

abbrev row_if : List ℕ → Option Val → List Row
row_if key (Some v) = (key, v) ∷ []
row_if key None = []

-- the rows, in byte order, with one key left as a body left it
abbrev pub row_left : List ℕ → Option Val → List Row → List Row
row_left key left [] = row_if key left
row_left key left (r ∷ rows) =
    if bytes_eq r.0 key then row_if key left ++ rows
    else if bytes_lt key r.0 then row_if key left ++ r ∷ rows
    else r ∷ row_left key left rows

-- the rows of a range with the writes over them
abbrev pub rows_under : List Write → List ℕ → List ℕ → List ℕ → List Row → List Row
rows_under [] table lo hi rows = rows
rows_under (w ∷ ws) table lo hi rows =
    if bytes_eq w.0 table && not (bytes_lt w.1 lo) && bytes_lt w.1 hi then rows_under ws table lo hi (row_left w.1 w.2 rows)
    else rows_under ws table lo hi rows

-- the list value `[key, value]`
abbrev pub pair_value : Row → Val
pair_value r = ListOf (items_of (Text r.0 ∷ r.1 ∷ []))
