-- The reserved words.
use Rattle.std.specs.Prelude.{ℕ, List, [], ◌∷◌, ◌||◌, Bool, codes}
use Rattle.std.specs.List.{list_any}
use Rattle.std.specs.Str.{bytes_eq}

abbrev pub used : List (List ℕ)
used =
    codes "table" ∷ codes "queue" ∷ codes "outside" ∷ codes "helper" ∷ codes "txn" ∷ codes "flow" ∷
    codes "let" ∷ codes "set" ∷ codes "if" ∷ codes "else" ∷ codes "while" ∷ codes "each" ∷ codes "in" ∷
    codes "try" ∷ codes "catch" ∷ codes "return" ∷ codes "fail" ∷ codes "put" ∷ codes "delete" ∷
    codes "get" ∷ codes "scan" ∷ codes "do" ∷ codes "call" ∷ codes "spawn" ∷ codes "await" ∷
    codes "null" ∷ codes "true" ∷ codes "false" ∷ codes "len" ∷ codes "str" ∷ []

-- kept for later
abbrev pub later : List (List ℕ)
later =
    codes "serial" ∷ codes "version" ∷ codes "post" ∷ codes "receive" ∷ codes "event" ∷ codes "sleep" ∷
    codes "int" ∷ codes "bool" ∷ codes "text" ∷ codes "list" ∷ codes "any" ∷ []

abbrev pub is_reserved : List ℕ → Bool
is_reserved name = list_any (λ w. bytes_eq w name) used || list_any (λ w. bytes_eq w name) later
