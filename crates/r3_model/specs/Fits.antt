-- Which events fit a history: a program comes first and never again, and commands keep the limits of
-- their lines. A command may name any table, queue, function or step: the machine refuses what isn't there.
use Rattle.std.specs.Prelude.{◌≡◌, ◌≢◌, ◌≤◌, IsTrue, List, [], length, All, ⊤}
use Rattle.std.specs.Str.{is_utf8}
use Rattle.r3_value.specs.declared.value.Val.{Val}
use Rattle.r3_value.specs.declared.value.Val.TheVariants as vals
use Rattle.r3_entry.specs.declared.entry.Entry.{Entry}
use Rattle.r3_entry.specs.Limits.{IsRowKey, IsVal, IsSized, IfThere}
use Rattle.sys_flow.specs.declared.command.Command.{Command}
use Rattle.sys_flow.specs.declared.command.Command.TheVariants.{Load, Start, Enqueue, Cancel, Resume, Fork, Recover}
use Rattle.r3_model.specs.Language.{Text}
use Rattle.r3_model.specs.Event.{Event, Append, Run, Turn, Dequeue, ShowStatus, GetRow, Nothing}

abbrev pub IsText : Text → Type 0
IsText s = IsTrue (is_utf8 s)

-- a list of values, of any number
abbrev pub IsListed : Val → Type 0
IsListed (vals.List vs) = IsVal (vals.List vs)
IsListed v = ⊥

-- a command as a line has it
abbrev pub IsFit : Command → Type 0
IsFit (Load table rows) =
    (1 ≤ length rows) × (length rows ≤ 1024) × All (λ r. IsRowKey r.0 × IsVal r.1) rows
IsFit (Start id function args) = IfThere IsText id × IsListed args
IsFit (Enqueue id queue function args) = IfThere IsText id × IsListed args
IsFit (Cancel id) = ⊤
IsFit (Resume id) = ⊤
IsFit (Fork source step to) = IfThere IsText to
IsFit (Recover id) = ⊤

abbrev pub Fits : List Entry → Event → Type 0
Fits h (Append text) = (h ≡ []) × IsSized 0 1048576 text
Fits h (Run command) = (h ≢ []) × IsFit command
Fits h (Turn id) = ⊤
Fits h (Dequeue queue) = h ≢ []
Fits h (ShowStatus id) = ⊤
Fits h (GetRow table key) = ⊤
Fits h Nothing = ⊤
