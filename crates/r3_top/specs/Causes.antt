-- What stands in the way of a command, and when nothing does.
use Rattle.std.specs.Prelude.{◌≡◌, ◌⊎◌, ℕ, ◌<◌, ◌≤◌, ◌^◌, List, length, Option, Some, None, ⊤}
use Rattle.std.specs.Option.{ForSome}
use Rattle.r3_entry.specs.declared.entry.Entry.{Entry}
use Rattle.r3_entry.specs.Image.{IsHistoryOf}
use Rattle.r3_words.specs.Forms.{Form}
use Rattle.r3_model.specs.Language.{Text}
use Rattle.r3_recover.specs.Opened.{HasProgram}
use Rattle.r3_top.specs.declared.functions.FunctionsFault.{FunctionsFault}
use Rattle.r3_top.specs.Functions.{IsRefused}
use Rattle.r3_top.specs.Commands.{OnStore, IfStore, OnScript, IfScript}
use Rattle.r3_top.specs.Refusals.{IsFunctionFile, IsNoStore, IsOthers}
use Rattle.r3_top.specs.Statuses.{status, HasFailed}
use Rattle.r3_top.specs.declared.halt.Halt.{Halt}
use Rattle.r3_top.specs.declared.halt.Halt.TheVariants as halts

-- ---- nothing stands in the way

-- the function file has no fault
abbrev pub IsTaken : Text → Type 0
IsTaken text = (length text ≤ 2 ^ 20) × ((fault : FunctionsFault) → IsRefused text fault → ⊥)

-- the file is a store, empty or begun with this program
abbrev pub IsReady : Text → Option Text → Type 0
IsReady text image = (i : Text) × (h : List Entry) × (image ≡ Some i) × IsHistoryOf h i × HasProgram h text

-- where the command opens it
abbrev pub HasStore : Form → Text → Option Text → Type 0
HasStore form text image = IfStore form (IsReady text image)

-- a script within the limit, where the command reads one
abbrev pub HasScript : Form → Option Text → Type 0
HasScript form left = IfScript form ((script : Text) × (left ≡ Some script) × (length script ≤ 2 ^ 26))

-- ---- what stands in the way

-- What stands first in the way of a command, by the text of its functions, the file and the script; None where
-- nothing does.
abbrev pub StandsFirst : Form → Text → Text → Text → Option Halt → Type 0
StandsFirst form text image script None = IsFunctionFile text × HasStore form text (Some image) × HasScript form (Some script)
StandsFirst form text image script (Some halts.LongFile) = 2 ^ 20 < length text
StandsFirst form text image script (Some (halts.Functions fault)) = (length text ≤ 2 ^ 20) × IsRefused text fault
StandsFirst form text image script (Some (halts.Store entry)) = IsFunctionFile text × OnStore form (IsNoStore (Some image) entry)
StandsFirst form text image script (Some halts.Program) = IsFunctionFile text × OnStore form (IsOthers text (Some image))
StandsFirst form text image script (Some halts.LongScript) =
    IsFunctionFile text × OnStore form (IsReady text (Some image)) × OnScript form (2 ^ 26 < length script)
StandsFirst form text image script end = ⊥

-- The status tells what stands first in the way, and that alone, unless something has failed or there was no memory.
pub record IsStatusOf (form : Form) (text image script : Text) (Disk Say Input : Type 0) (answer : ℕ) : Type 0 where
  pub only : HasFailed Disk Say Input answer ⊎ ((end : Option Halt) × StandsFirst form text image script end × (answer ≡ status end))
  pub exactly : (end : Option Halt) → StandsFirst form text image script end → HasFailed Disk Say Input answer ⊎ (answer ≡ status end)

-- ---- as the parts of the program tell it

-- a function file without a fault
abbrev pub IsFaultless : Text → Type 0
IsFaultless text = IsFunctionFile text × ((fault : FunctionsFault) → IsRefused text fault → ⊥)

-- where the image is told, it is a store, empty or begun with this program
abbrev pub IsBegun : Text → Option Text → Type 0
IsBegun text image = ForSome image (λ i. (h : List Entry) × IsHistoryOf h i × HasProgram h text)

-- the cause of a refusal before the work
abbrev pub HasEarlyCause : Text → Option Text → Option Halt → Type 0
HasEarlyCause text image (Some halts.LongFile) = 2 ^ 20 < length text
HasEarlyCause text image (Some (halts.Functions fault)) = (length text ≤ 2 ^ 20) × IsRefused text fault × (IsFunctionFile text → ⊥)
HasEarlyCause text image (Some (halts.Store entry)) = IsFaultless text × IsNoStore image entry
HasEarlyCause text image (Some halts.Program) = IsFaultless text × IsOthers text image
HasEarlyCause text image end = ⊤

-- the cause of an end, by the function file, the store and the script
abbrev pub HasCause : Form → Text → Option Text → Option Text → Option Halt → Type 0
HasCause form text image left None =
    IsFaultless text × IfStore form (IsBegun text image) × IfScript form (ForSome left (λ script. length script ≤ 2 ^ 26))
HasCause form text image left (Some (halts.Store entry)) = IsFaultless text × OnStore form (IsNoStore image entry)
HasCause form text image left (Some halts.Program) = IsFaultless text × OnStore form (IsOthers text image)
HasCause form text image left (Some halts.LongScript) =
    IsFaultless text × OnStore form (IsBegun text image) × OnScript form (ForSome left (λ script. 2 ^ 26 < length script))
HasCause form text image left end = HasEarlyCause text image end
