-- That the index stands as the rows say.
use Rattle.std.specs.Prelude.{◌≡◌, List, map, Option, IsTrue}
use Rattle.std.specs.FinMap.Entries.{find, put, is_sorted}
use Rattle.r3_rows.specs.declared.rows.FlowRow.{FlowRow}
use Rattle.sys_queue.specs.Lines.{Text, Place, bytes_cmp}
use Rattle.sys_queue.specs.Rows.{Rows}
use Rattle.sys_pending.specs.Running.{Flow, running}

-- the entry that started a workflow, and its ID
abbrev pub place_of : Flow → Place
place_of f = (f.1.started, f.0)

-- the rows are in the order of their IDs, and the places are those of the running workflows
pub record IsIndexOf (index : List Place) (rows : Rows) : Type 0 where
  pub sorted : IsTrue (is_sorted bytes_cmp rows)
  pub places : index ≡ map place_of (running rows)

-- after a note the index stands as the rows with the new one say
abbrev pub Follows : List Place → List Place → Text → Option FlowRow → FlowRow → Type 0
Follows old new id before row =
    (rows : Rows) → IsIndexOf old rows → find bytes_cmp id rows ≡ before
    → IsIndexOf new (put bytes_cmp id row rows)
