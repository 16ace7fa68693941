-- The IDs of child workflows.
use Rattle.std.specs.Prelude.{ℕ, List, ◌++◌, codes, decimal}

-- the parent's ID, a hyphen and the number of the step that starts the child
abbrev pub child_id : List ℕ → ℕ → List ℕ
child_id parent n = parent ++ codes "-" ++ decimal n
