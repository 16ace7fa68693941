-- Where a pair is put into a sorted list.
use Rattle.std.specs.Prelude.{◌≡◌, ℕ, ◌<◌, ◌≤◌, List, length, Option, Some, None, slice_set, insert, get_or}
use Rattle.std.specs.FinMap.Entries.{put, find}
use Rattle.r3_rows.specs.declared.rows.Key.{Key}
use Rattle.r3_rows.specs.declared.rows.Cell.{Cell}
use Rattle.r3_rows.specs.Keys.{key_cmp}

abbrev pub Pairs : Type 0
Pairs = List (Key × Option Cell)

-- the key is at place i
pub record StandsAt (k : Key) (es : Pairs) (i : ℕ) : Type 0 where
  pub within : i < length es
  pub replaced : (v : Option Cell) → put key_cmp k v es ≡ slice_set es i (k, v)
  pub found : (e : Key × Option Cell) → e ≡ get_or es i e → find key_cmp k es ≡ Some e.1

-- the key is absent, and belongs to place i
pub record GoesAt (k : Key) (es : Pairs) (i : ℕ) : Type 0 where
  pub within : i ≤ length es
  pub inserted : (v : Option Cell) → put key_cmp k v es ≡ insert es i (k, v)
  pub absent : find key_cmp k es ≡ None
