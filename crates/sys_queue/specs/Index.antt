-- That the queues stand as the rows say.
use Rattle.std.specs.Prelude.{◌≡◌, ℕ, ◌<◌, ◌-◌, ◌^◌, ◌&&◌, ◌==◌, Bool, false, List, length, Option, Some, None, IsTrue}
use Rattle.std.specs.FinMap.Entries.{find, put, is_sorted}
use Rattle.r3_rows.specs.declared.rows.FlowRow.{FlowRow}
use Rattle.sys_queue.specs.Lines.{Text, Place, Line, bytes_cmp, line_of, has_place}
use Rattle.sys_queue.specs.Rows.{Rows, is_waiting, running_count}

-- a workflow waits in the queue, started by that entry
abbrev pub is_place : Text → ℕ → Option FlowRow → Bool
is_place name started None = false
is_place name started (Some row) = is_waiting name row && (row.started == started)

-- one queue has just those that wait in it, and counts those that run
pub record IsLineOf (name : Text) (l : Line) (rows : Rows) : Type 0 where
  pub running : l.running ≡ running_count name rows
  pub waiting : (p : Place) → has_place p l ≡ is_place name p.0 (find bytes_cmp p.1 rows)

-- each queue stands as the rows say
pub record IsIndexOf (lines : List Line) (rows : Rows) : Type 0 where
  pub sorted : IsTrue (is_sorted bytes_cmp rows)
  pub each : (name : Text) (l : Line) → line_of name lines ≡ Some l → IsLineOf name l rows

-- after a note the queues stand as the rows with the new one say
abbrev pub Follows : List Line → List Line → Text → Option FlowRow → FlowRow → Type 0
Follows old new id before row = (rows : Rows) → IsIndexOf old rows → find bytes_cmp id rows ≡ before → length rows < 2 ^ 32 - 1 → IsIndexOf new (put bytes_cmp id row rows)
