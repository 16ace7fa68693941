-- How a workflow enters the index and leaves it.
use Rattle.std.specs.Prelude.{◌≡◌, Bool, true, false, List, Option, Some, None, if◌then◌else◌}
use Rattle.std.specs.List.{list_any}
use Rattle.std.specs.List.Sorted.{IsStrictlySortedBy}
use Rattle.std.specs.Ordering.{eq_by_cmp}
use Rattle.r3_rows.specs.declared.rows.FlowRow.{FlowRow}
use Rattle.sys_queue.specs.Lines.{Text, Place, place_cmp}
use Rattle.sys_queue.specs.Rows.{is_pending}

-- where a workflow stands, if it is there and runs
abbrev pub place_at : Text → Option FlowRow → Option Place
place_at id None = None
place_at id (Some row) = if is_pending row.status then Some (row.started, id) else None

abbrev pub is_at : Option Place → Place → Bool
is_at None q = false
is_at (Some p) q = eq_by_cmp place_cmp p q

-- whether somebody stands at that place
abbrev pub has_place : Place → List Place → Bool
has_place q places = list_any (eq_by_cmp place_cmp q) places

abbrev pub AreRising : List Place → Type 0
AreRising places = IsStrictlySortedBy place_cmp places

-- one more place, if any
pub record Enters (came : Option Place) (old new : List Place) : Type 0 where
  pub rising : AreRising old → AreRising new
  pub has : (q : Place) → has_place q new ≡ (if is_at came q then true else has_place q old)

-- one place less, if any
pub record Leaves (gone : Option Place) (old new : List Place) : Type 0 where
  pub rising : AreRising old → AreRising new
  pub has : (q : Place) → has_place q new ≡ (if is_at gone q then false else has_place q old)
