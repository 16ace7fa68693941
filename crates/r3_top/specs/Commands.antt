-- Which command the words are, of those that are there, and which functions it takes.
use Rattle.std.specs.Prelude.{Bool, true, false, List, Option, Some, None, if◌then◌else◌, option_and_then, ⊤}
use Rattle.r3_words.specs.Forms.{Form, command_of, run, recover, check, gen}
use Rattle.r3_model.specs.Language.{Text}

-- of the commands, those that are there
abbrev pub is_there : Form → Bool
is_there (run functions) = true
is_there (recover functions turns) = true
is_there (check functions) = true
is_there (gen number count) = true
is_there form = false

abbrev pub form_there : Text × Form → Option Form
form_there line = if is_there line.1 then Some line.1 else None

abbrev pub asked_by : List Text → Option Form
asked_by words = option_and_then form_there (command_of words)

-- the function file that a command names
abbrev pub file_of : Form → Option Text
file_of (run functions) = Some functions
file_of (recover functions turns) = Some functions
file_of (check functions) = Some functions
file_of form = None

-- the text of its functions, where it is told: of the file that it names, or of the generator's own program
abbrev pub functions_text : (Text → Option Text) → Text → Form → Option Text
functions_text text_of bank (run functions) = text_of functions
functions_text text_of bank (recover functions turns) = text_of functions
functions_text text_of bank (check functions) = text_of functions
functions_text text_of bank (gen number count) = Some bank
functions_text text_of bank form = None

-- ---- what a command has to do with

-- it opens the store, and this holds
abbrev pub OnStore : Form → Type 0 → Type 0
OnStore (run functions) A = A
OnStore (recover functions turns) A = A
OnStore (gen number count) A = A
OnStore form A = ⊥

-- this holds, if it opens the store
abbrev pub IfStore : Form → Type 0 → Type 0
IfStore (run functions) A = A
IfStore (recover functions turns) A = A
IfStore (gen number count) A = A
IfStore form A = ⊤

-- it reads a script, and this holds
abbrev pub OnScript : Form → Type 0 → Type 0
OnScript (run functions) A = A
OnScript form A = ⊥

-- this holds, if it reads a script
abbrev pub IfScript : Form → Type 0 → Type 0
IfScript (run functions) A = A
IfScript form A = ⊤
