-- Which command the words of a command line are.
use Rattle.std.specs.Prelude.{ℕ, ◌≤◌, ◌<◌, ◌^◌, ◌-◌, ⊤, Bool, true, false, List, [], ◌∷◌, Option, Some, None, ◌&&◌, ◌==◌, not, if◌then◌else◌, bytes_eq, codes}
use Rattle.std.specs.List.{list_all}
use Rattle.std.specs.Option.{option_map}
use Rattle.r3_words.specs.Numbers.{Text, number_within}
use Rattle.r3_words.specs.declared.command.Command.{Command}
use Rattle.r3_words.specs.declared.command.Command.TheVariants as command
use Rattle.r3_words.specs.declared.command.CommandLine.{CommandLine}

-- what a command line asks for
pub data Form : Type 0 where
  run : Text → Form
  recover : Text → ℕ → Form
  trace : Form
  replay : Text → Option Text → Form
  retro : Text → Text → Form
  check : Text → Form
  gen : ℕ → ℕ → Form

-- a word that isn't empty and doesn't begin with a hyphen
abbrev pub is_word : Text → Bool
is_word [] = false
is_word (byte ∷ bytes) = not (byte == 45)

-- a word that isn't empty
abbrev pub is_path : Text → Bool
is_path [] = false
is_path (byte ∷ bytes) = true

-- the numbers that a command line may name
abbrev pub HasLimits : Form → Type 0
HasLimits (recover functions turns) = (1 ≤ turns) × (turns ≤ 1000000)
HasLimits (gen number count) = (number < 2 ^ 48) × (1 ≤ count) × (count ≤ 100000)
HasLimits form = ⊤

-- both numbers, where both words are numbers
abbrev pub gen_of : Option ℕ → Option ℕ → Option Form
gen_of (Some number) (Some count) = Some (gen number count)
gen_of _ _ = None

-- the words behind the path of the store
abbrev pub form_of : List Text → Option Form
form_of (word ∷ []) = if bytes_eq word (codes "trace") then Some trace else None
form_of (word ∷ a ∷ []) =
    if bytes_eq word (codes "run") then Some (run a)
    else if bytes_eq word (codes "replay") then Some (replay a None)
    else if bytes_eq word (codes "check") then Some (check a)
    else None
form_of (word ∷ a ∷ b ∷ []) =
    if bytes_eq word (codes "recover") then option_map (recover a) (number_within 1 1000000 b)
    else if bytes_eq word (codes "replay") then Some (replay a (Some b))
    else if bytes_eq word (codes "retro") then Some (retro a b)
    else if bytes_eq word (codes "gen")
    then gen_of (number_within 0 (2 ^ 48 - 1) a) (number_within 1 100000 b)
    else None
form_of words = None

-- all the words: the path of the store comes first, and it alone may begin with a hyphen
abbrev pub command_of : List Text → Option (Text × Form)
command_of [] = None
command_of (store ∷ words) =
    if is_path store && list_all is_word words
    then option_map (λ form. (store, form)) (form_of words) else None

-- what a command asks for
abbrev pub asked : Command → Form
asked (command.Run functions) = run functions.now
asked (command.Recover functions turns) = recover functions.now turns
asked command.Trace = trace
asked (command.Replay functions id) = replay functions.now (option_map (λ id. id.now) id)
asked (command.Retro functions plan) = retro functions.now plan.now
asked (command.Check functions) = check functions.now
asked (command.Gen number count) = gen number count

-- the path of the store, and what the command asks for
abbrev pub said : CommandLine → Text × Form
said line = (line.store.now, asked line.command)
