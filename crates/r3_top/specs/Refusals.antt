-- What a call is refused for before it has changed anything.
use Rattle.std.specs.Prelude.{◌≡◌, ℕ, ◌<◌, ◌≤◌, ◌^◌, List, length, Option, Some, ⊤}
use Rattle.std.specs.Option.{ForSome}
use Rattle.fn_tree.specs.declared.program.Item.{Item}
use Rattle.r3_entry.specs.declared.entry.Entry.{Entry}
use Rattle.r3_entry.specs.Image.{IsHistoryOf, IsAccepted as IsStore}
use Rattle.r3_store.specs.Opened.{IsCaused, IsStopped}
use Rattle.r3_store.specs.declared.fault.OpenFault.{OpenFault}
use Rattle.r3_model.specs.Language.{Text}
use Rattle.r3_recover.specs.Opened.{HasProgram}
use Rattle.r3_top.specs.Functions.{IsAccepted, IsRefused}
use Rattle.r3_top.specs.Statuses.{entry_of}
use Rattle.r3_top.specs.declared.halt.Halt.{Halt}
use Rattle.r3_top.specs.declared.halt.Halt.TheVariants as halts

-- what a function file is refused for: it can't be read, is too long, or is no program that the checker takes
abbrev pub IsFileRefusal : Text → Option Halt → Type 0
IsFileRefusal text (Some halts.Files) = ⊤
IsFileRefusal text (Some halts.LongFile) = 2 ^ 20 < length text
IsFileRefusal text (Some (halts.Functions fault)) = (length text ≤ 2 ^ 20) × IsRefused text fault
IsFileRefusal text end = ⊥

-- a function file that is taken
abbrev pub IsFile : Text → List Item → Type 0
IsFile text items = (length text ≤ 2 ^ 20) × IsAccepted text items

abbrev pub IsFunctionFile : Text → Type 0
IsFunctionFile text = (items : List Item) × IsFile text items

-- what a call ends with that goes no further than the function file
abbrev pub EndsAtFile : Text → Option Halt → Type 0
EndsAtFile text (Some halts.Memory) = ⊤
EndsAtFile text end = IsFileRefusal text end

-- the image is no store, and this entry is the cause: the first that is damaged, else the first that isn't formed
abbrev pub IsNoStore : Option Text → ℕ → Type 0
IsNoStore image entry =
    ForSome image (λ i. IsStore i → ⊥) × (fault : OpenFault) × IsCaused image fault × (IsStopped fault → ⊥) × (entry ≡ entry_of fault)

-- it is a store that was begun with another program
abbrev pub IsOthers : Text → Option Text → Type 0
IsOthers text image = ForSome image (λ i. IsStore i × ((h : List Entry) → IsHistoryOf h i → HasProgram h text → ⊥))

-- What a call on a store is refused for. The function file comes first.
abbrev pub IsRefusal : Text → Option Text → Option Halt → Type 0
IsRefusal text image (Some (halts.Store entry)) = IsFunctionFile text × IsNoStore image entry
IsRefusal text image (Some halts.Program) = IsFunctionFile text × IsOthers text image
IsRefusal text image end = IsFileRefusal text end

-- the functions are those of the file, and the store holds this history, begun with them
pub record IsOpened (text : Text) (image : Option Text) (items : List Item) (h : List Entry) : Type 0 where
  pub file : IsFile text items
  pub history : ForSome image (IsHistoryOf h)
  pub program : HasProgram h text

-- what may halt a call that reads neither a function file nor a script
abbrev pub ReadsNone : Halt → Type 0
ReadsNone halts.Usage = ⊥
ReadsNone halts.Files = ⊥
ReadsNone halts.Script = ⊥
ReadsNone halts.LongFile = ⊥
ReadsNone halts.LongScript = ⊥
ReadsNone halt = ⊤

-- what halts a call before its work
abbrev pub IsEarly : Halt → Type 0
IsEarly halts.Usage = ⊥
IsEarly halts.Say = ⊥
IsEarly halts.Script = ⊥
IsEarly halts.LongScript = ⊥
IsEarly halt = ⊤
