-- The rules of formed histories, write after write, while versions are added.
use Rattle.std.specs.Prelude.{◌≡◌, ℕ, ◌≤◌, T, List, [], ◌∷◌, Option, ⊤, count_by, sum_by}
use Rattle.std.specs.List.{AllByRecursion}
use Rattle.std.specs.FinMap.Entries.{is_sorted}
use Rattle.r3_rows.specs.Keys.{key_cmp, kind}
use Rattle.r3_rows.specs.declared.rows.Key.{Key}
use Rattle.r3_rows.specs.declared.rows.Cell.{Cell}
use Rattle.r3_entry.specs.declared.entry.Entry.{Entry}
use Rattle.r3_entry.specs.Formed.{IsOfKind, IsFlowRow, is_user, read_count}
use Rattle.r3_chain.specs.Versions.{Versions, IsNext, as_of, installed}
use Rattle.r3_formed.specs.Rules.{version_in, HasFlow}

-- the index is higher than those of the versions of each key that is written
pub record AreNext (index : ℕ) (writes : List (Key × Option Cell)) (es : Versions Key Cell) : Type 0 where
  pub versions : T (is_sorted key_cmp es)
  pub sorted : T (is_sorted key_cmp writes)
  pub next : AllByRecursion (λ w. IsNext key_cmp index w.0 es) writes

-- entry number `index`, a transaction of this snapshot, may write so where these versions stand
abbrev pub MayStand : ℕ → ℕ → Key × Option Cell → Versions Key Cell → Type 0
MayStand index snap w es =
    IsOfKind w × IsFlowRow index w × HasFlow (as_of index es) w.0 × (version_in (as_of index es) w.0 ≤ snap)
    × (kind w.0 ≡ 2 → version_in (as_of index es) w.0 ≡ 0)

-- each write may stand where those before it were added
abbrev pub MayAllStand : ℕ → ℕ → List (Key × Option Cell) → Versions Key Cell → Type 0
MayAllStand index snap [] es = ⊤
MayAllStand index snap (w ∷ ws) es = MayStand index snap w es × MayAllStand index snap ws (installed key_cmp index w.0 w.1 es)

-- the entry, by the rules that speak of numbers alone, behind n entries
abbrev pub IsWithin : ℕ → Entry → Type 0
IsWithin n e = (e.snap ≤ n) × (count_by is_user e.writes ≤ 1024) × (sum_by read_count e.reads ≤ 4096)
