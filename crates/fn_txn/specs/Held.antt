-- A map with versions, as a list of rows.
use Rattle.std.specs.Prelude.{ℕ, Bool, not, ◌&&◌, List, [], ◌∷◌, Option, Some, None, if◌then◌else◌}
use Rattle.std.specs.Str.{bytes_eq}
use Rattle.r3_value.specs.declared.value.Val.{Val}
use Rattle.fn_tree.specs.Comparison.{bytes_lt}
use Rattle.fn_tree.specs.Declarations.{is_some}
use Rattle.fn_tree.specs.Writes.{Versions}
use Rattle.fn_txn.specs.declared.held.Held.{Held}

abbrev pub is_held : List ℕ → List ℕ → Held → Bool
is_held table key h = bytes_eq h.table table && bytes_eq h.key key

-- the first row of the key
abbrev pub held_at : List Held → List ℕ → List ℕ → Option Held
held_at [] table key = None
held_at (h ∷ hs) table key = if is_held table key h then Some h else held_at hs table key

abbrev pub value_in : Option Held → Option Val
value_in (Some h) = h.value
value_in None = None

abbrev pub version_in : Option Held → ℕ
version_in (Some h) = h.version
version_in None = 0

abbrev pub is_in_range : List ℕ → List ℕ → List ℕ → Held → Bool
is_in_range table lo hi h = is_some h.value && bytes_eq h.table table && not (bytes_lt h.key lo) && bytes_lt h.key hi

-- the present keys of a range, in the order of the rows
abbrev pub keys_held : List Held → List ℕ → List ℕ → List ℕ → List (List ℕ)
keys_held [] table lo hi = []
keys_held (h ∷ hs) table lo hi = if is_in_range table lo hi h then h.key ∷ keys_held hs table lo hi else keys_held hs table lo hi

abbrev pub versions_of : List Held → Versions
versions_of hs = record {
  cell = λ table key. value_in (held_at hs table key);
  version = λ table key. version_in (held_at hs table key);
  keys = keys_held hs;
}
