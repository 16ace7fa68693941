-- Which bytes a line of JSON has.
use Rattle.std.specs.Prelude.{ℕ, List, [], ◌∷◌, ◌++◌, Option, None, if◌then◌else◌}
use Rattle.std.specs.Str.{is_utf8}
use Rattle.serde_json.specs.Data.{Data}
use Rattle.serde_json.specs.Read.{read}
use Rattle.serde_json.specs.Written.{compact_text}

-- the compact text and a newline; a float has no text here
abbrev pub line_of : Data → List ℕ
line_of d = compact_text d ++ 10 ∷ []

-- the JSON that the bytes are, if they are one
abbrev pub parse : List ℕ → Option Data
parse bytes = if is_utf8 bytes then read bytes else None
