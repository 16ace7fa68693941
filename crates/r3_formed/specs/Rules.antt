-- The rules of formed histories, for one entry, in terms of the maps of those before it.
use Rattle.std.specs.Prelude.{◌≡◌, ℕ, ◌+◌, ◌≤◌, List, [], Option, IsTrue, IsSome, count_by, sum_by, option_and_then, ⊤, map, filter, ◌&&◌}
use Rattle.std.specs.Ordering.{is_le, is_gt}
use Rattle.std.specs.Option.{option_map_or}
use Rattle.std.specs.List.{AllByRecursion, filter_map}
use Rattle.std.specs.FinMap.{find}
use Rattle.r3_rows.specs.Keys.{key_cmp, kind}
use Rattle.r3_rows.specs.declared.rows.Key.{Key}
use Rattle.r3_rows.specs.declared.rows.Key.TheVariants.{User, Flow, Step}
use Rattle.r3_rows.specs.declared.rows.Cell.{Cell}
use Rattle.r3_rows.specs.declared.rows.Cell.TheVariants as cells
use Rattle.r3_rows.specs.declared.rows.Read.{Read}
use Rattle.r3_rows.specs.declared.rows.Read.TheVariants.{At, Range}
use Rattle.r3_entry.specs.declared.entry.Entry.{Entry}
use Rattle.r3_entry.specs.History.{Map, seen_in}
use Rattle.r3_entry.specs.Formed.{IsOfKind, IsFlowRow, is_user, read_count, is_program}
use Rattle.r3_chain.specs.Versions.{Versions, as_of, present_keys}
use Rattle.r3_formed.specs.Answers.{name}

abbrev pub version_in : Map → Key → ℕ
version_in m key = option_map_or (λ w. w.0) (find key_cmp key m) 0

abbrev pub cell_in : Map → Key → Option Cell
cell_in m key = option_and_then (λ w. w.1) (find key_cmp key m)

abbrev pub range_in : Map → List ℕ → List ℕ → List ℕ → List (List ℕ × ℕ)
range_in m table lo hi = filter_map (seen_in table lo hi) m

-- the keys from lo and below hi that are present, by their names, with their versions
abbrev pub named_between : Key → Key → Map → List (List ℕ × ℕ)
named_between lo hi m = map (λ p. (name p.0, p.1)) (present_keys (filter (λ e. is_le (key_cmp lo e.0) && is_gt (key_cmp hi e.0)) m))

-- the look, taken anew
abbrev pub look_in : Map → Read → Read
look_in m (At table key version) = At table key (version_in m (User table key))
look_in m (Range table lo hi keys) = Range table lo hi (range_in m table lo hi)

-- entry 1 is such
abbrev pub BeginsHistory : Entry → Type 0
BeginsHistory e = IsTrue (is_program e.act) × (e.snap ≡ 0) × (e.reads ≡ []) × (e.writes ≡ [])

-- of which kind of key a cell is
abbrev pub cell_kind : Cell → ℕ
cell_kind (cells.Row v) = 0
cell_kind (cells.Flow r) = 1
cell_kind (cells.Step r) = 2

-- a write behind n entries whose map is m, by a transaction of this snapshot
abbrev pub IsWriteIn : Map → ℕ → ℕ → Key × Option Cell → Type 0
IsWriteIn m n snap w = IsOfKind w × (version_in m w.0 ≤ snap) × (kind w.0 ≡ 2 → version_in m w.0 ≡ 0) × IsFlowRow (n + 1) w

-- the workflow of a step is there
abbrev pub HasFlow : Map → Key → Type 0
HasFlow m (Step id n) = IsSome (cell_in m (Flow id))
HasFlow m (User table key) = ⊤
HasFlow m (Flow id) = ⊤

-- the entry, by all rules that speak of the n entries before it alone, whose versions these are
abbrev pub FitsBehind : Versions Key Cell → ℕ → Entry → Type 0
FitsBehind es n e =
    (e.snap ≤ n) × AllByRecursion (λ r. r ≡ look_in (as_of e.snap es) r) e.reads
    × AllByRecursion (IsWriteIn (as_of n es) n e.snap) e.writes
    × (count_by is_user e.writes ≤ 1024) × (sum_by read_count e.reads ≤ 4096)
