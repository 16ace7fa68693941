-- What holds of the language of a program.
use Rattle.std.specs.Prelude.{List}
use Rattle.fn_tree.specs.declared.program.Item.{Item}
use Rattle.fn_tree.specs.Literals.{HoldsValues}
use Rattle.fn_tree.specs.Soundness.{IsSound}
use Rattle.r3_model.specs.Functions.{language_of}
use Rattle.r3_model.specs.Lawful.{IsLawful, IsLimited}

-- the language of a program has what the laws ask for, so each law holds of it
abbrev pub ProgramsAreLawful : Type 0
ProgramsAreLawful = (items : List Item) → IsLawful (language_of items)

-- on what is within the limits of entries, a sound program gives what is within them
abbrev pub ProgramsAreLimited : Type 0
ProgramsAreLimited = (items : List Item) → IsSound items → HoldsValues items → IsLimited (language_of items)
