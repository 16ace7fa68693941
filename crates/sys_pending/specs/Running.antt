-- The running workflows, in the order in which they were started.
use Rattle.std.specs.Prelude.{List, [], ◌∷◌, map, filter, nat_le, if◌then◌else◌}
use Rattle.r3_rows.specs.declared.rows.FlowRow.{FlowRow}
use Rattle.sys_queue.specs.Lines.{Text}
use Rattle.sys_queue.specs.Rows.{Rows, is_pending}

-- a workflow's ID and its row
abbrev pub Flow : Type 0
Flow = Text × FlowRow

-- puts a workflow before the first that was started no earlier
abbrev pub placed : Flow → Rows → Rows
placed f [] = f ∷ []
placed f (g ∷ gs) = if nat_le f.1.started g.1.started then f ∷ g ∷ gs else g ∷ placed f gs

-- by the entry that started them; of the same entry the order of the IDs stays
abbrev pub by_start : Rows → Rows
by_start [] = []
by_start (f ∷ fs) = placed f (by_start fs)

-- the running workflows, the first started first
abbrev pub running : Rows → Rows
running rows = by_start (filter (λ (f : Flow). is_pending f.1.status) rows)

-- their IDs
abbrev pub running_ids : Rows → List Text
running_ids rows = map (λ (f : Flow). f.0) (running rows)
