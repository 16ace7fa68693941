-- The status and the last line of a call that is halted.
use Rattle.std.specs.Prelude.{◌≡◌, ◌≢◌, ◌⊎◌, ℕ, ◌≤◌, [], ◌++◌, Option, Some, None, ⊤, codes}
use Rattle.serde_json.specs.Data.{Data, number, unsigned, string, object, member, no_members}
use Rattle.r3_json.specs.Lines as json
use Rattle.r3_store.specs.declared.fault.OpenFault.{OpenFault}
use Rattle.r3_store.specs.declared.fault.OpenFault.TheVariants as faults
use Rattle.r3_model.specs.Language.{Text}
use Rattle.r3_top.specs.Functions.{functions_data}
use Rattle.r3_top.specs.declared.halt.Halt.{Halt}
use Rattle.r3_top.specs.declared.halt.Halt.TheVariants as halts

abbrev pub status_of : Halt → ℕ
status_of halts.Usage = 2
status_of halts.Memory = 3
status_of halts.Disk = 4
status_of halts.Say = 5
status_of halts.Files = 6
status_of halts.Script = 6
status_of (halts.Functions fault) = 7
status_of (halts.Store entry) = 8
status_of halts.Program = 9
status_of halts.LongFile = 10
status_of halts.LongScript = 10

abbrev pub one : Text → Data
one word = object (member (codes "fault") (string word) no_members)

-- the entry of a store that can't be read
abbrev pub store_data : ℕ → Data
store_data entry = object
    (member (codes "entry") (number (unsigned entry))
    (member (codes "fault") (string (codes "store")) no_members))

-- the entry that is told: 0 where the file isn't a store at all
abbrev pub entry_of : OpenFault → ℕ
entry_of (faults.Damaged entry) = entry
entry_of (faults.NotFormed entry) = entry
entry_of fault = 0

-- the line that is said last; none where something has failed
abbrev pub last_line : Halt → Text
last_line halts.Usage = json.line_of (one (codes "usage"))
last_line (halts.Functions fault) = json.line_of (functions_data fault)
last_line (halts.Store entry) = json.line_of (store_data entry)
last_line halts.Program = json.line_of (one (codes "program"))
last_line halts.LongFile = json.line_of (one (codes "long"))
last_line halts.LongScript = json.line_of (one (codes "long"))
last_line halt = []

-- there is such a line
abbrev pub HasLine : Halt → Type 0
HasLine halts.Memory = ⊥
HasLine halts.Disk = ⊥
HasLine halts.Say = ⊥
HasLine halts.Files = ⊥
HasLine halts.Script = ⊥
HasLine halt = ⊤

-- of a call that was halted, or has come to its end
abbrev pub status : Option Halt → ℕ
status None = 0
status (Some halt) = status_of halt

abbrev pub last : Option Halt → Text
last None = []
last (Some halt) = last_line halt

-- there was no memory, or the disk or the output has failed
abbrev pub IsBroken : Option Halt → Type 0
IsBroken (Some halts.Memory) = ⊤
IsBroken (Some halts.Disk) = ⊤
IsBroken (Some halts.Say) = ⊤
IsBroken end = ⊥

-- their statuses
abbrev pub IsFault : ℕ → Type 0
IsFault answer = (answer ≡ 3) ⊎ (answer ≡ 4) ⊎ (answer ≡ 5)

-- the statuses that there are
abbrev pub IsStatus : ℕ → Type 0
IsStatus answer = (answer ≤ 10) × (answer ≢ 1)

-- there was no memory, or what the status names has failed
abbrev pub HasFailed : Type 0 → Type 0 → Type 0 → ℕ → Type 0
HasFailed Disk Say Input answer =
    (answer ≡ 3) ⊎ ((answer ≡ 4) × Disk) ⊎ ((answer ≡ 5) × Say) ⊎ ((answer ≡ 6) × Input)

-- The line that was said last, by the status: the whole line with the status of the end; of it a first part, where the
-- output has failed; and none, where there was no memory for it.
abbrev pub IsLast : Option Halt → ℕ → Text → Type 0
IsLast None answer line = (answer ≡ 0) × (line ≡ [])
IsLast (Some halt) answer line =
    ((answer ≡ status_of halt) × (line ≡ last_line halt))
    ⊎ (HasLine halt × (((answer ≡ 5) × (rest : Text) × (line ++ rest ≡ last_line halt)) ⊎ ((answer ≡ 3) × (line ≡ []))))

-- how a call has gone, with its last line
abbrev pub GoesAs : (Option Halt → Text → Type 0) → ℕ → Type 0
GoesAs Goes answer = (end : Option Halt) × (line : Text) × IsLast end answer line × Goes end line
