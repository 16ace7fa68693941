-- Which line of the plain machine a line is, and which limits it keeps.
use Rattle.std.specs.Prelude.{◌≤◌, List, length, All, ⊤}
use Rattle.r3_value.specs.declared.value.Val.{Val}
use Rattle.r3_entry.specs.Limits.{IsRowKey, IsVal}
use Rattle.sys_flow.specs.declared.command.Command.{Command}
use Rattle.sys_flow.specs.declared.command.Command.TheVariants as commands
use Rattle.r3_model.specs.Language.{Text}
use Rattle.r3_model.specs.Event as events
use Rattle.r3_model.specs.Script as model
use Rattle.r3_model.specs.Fits.{IsFit}
use Rattle.r3_lines.specs.declared.line.Line.{Line}
use Rattle.r3_lines.specs.declared.line.Line.TheVariants as lines

-- the plain machine's line
abbrev pub as_line : Line → model.Line
as_line (lines.Command command) = model.Does (events.Run command)
as_line (lines.Turn id) = model.Does (events.Turn id)
as_line (lines.Dequeue queue) = model.Does (events.Dequeue queue)
as_line (lines.Status id) = model.Does (events.ShowStatus id)
as_line (lines.Get table key) = model.Does (events.GetRow table key)
as_line (lines.Drain turns) = model.Drain turns
as_line lines.Unread = model.Unread
as_line lines.Unformed = model.Unformed

-- a row within its limits
abbrev pub IsRow : Text × Val → Type 0
IsRow r = IsRowKey r.0 × IsVal r.1

-- 1 to 1,024 rows, within their limits
abbrev pub AreRows : List (Text × Val) → Type 0
AreRows rows = (1 ≤ length rows) × (length rows ≤ 1024) × All IsRow rows

-- a command as a line has it: one that fits, and no recovery
abbrev pub IsOfLine : Command → Type 0
IsOfLine (commands.Recover id) = ⊥
IsOfLine command = IsFit command

-- the limits that a line keeps
abbrev pub IsKept : Line → Type 0
IsKept (lines.Command command) = IsOfLine command
IsKept (lines.Get table key) = IsRowKey key
IsKept (lines.Drain turns) = (1 ≤ turns) × (turns ≤ 1000000)
IsKept line = ⊤
