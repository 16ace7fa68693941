-- An ID that is used again: no workflow executes twice for one ID.
use Rattle.std.specs.Prelude.{ℕ, List, Option, Some, None, if◌then◌else◌, bytes_eq}
use Rattle.r3_rows.specs.declared.rows.FlowRow.{FlowRow}
use Rattle.sys_flow.specs.declared.repeats.Repeat.{Repeat}
use Rattle.sys_flow.specs.declared.repeats.Repeat.TheVariants.{Fresh, Known, Conflict}

-- what a new ID meets: nobody, a workflow of the same function, or one of another
abbrev pub repeat_of : Option FlowRow → List ℕ → Repeat
repeat_of None function = Fresh
repeat_of (Some row) function = if bytes_eq row.function function then Known row.started else Conflict
