-- The queues of a program, each with who waits in it and how many run.
use Rattle.std.specs.Prelude.{ℕ, Bool, List, [], ◌∷◌, ◌++◌, map, Option, Some, None, if◌then◌else◌, bytes_eq}
use Rattle.std.specs.List.{list_any}
use Rattle.std.specs.Ordering.{nat_cmp, ordering_then, eq_by_cmp}
use Rattle.std.specs.declared.cmp.Ordering.{Ordering}
use Rattle.std.specs.Cmp.Lexicographic.{slice_cmp}
use Rattle.fn_tree.specs.declared.program.Item.{Item}
use Rattle.fn_tree.specs.declared.program.Item.TheVariants as items

abbrev pub Text : Type 0
Text = List ℕ

-- the number of the entry that started a workflow, and the workflow's ID
abbrev pub Place : Type 0
Place = ℕ × Text

abbrev pub bytes_cmp : Text → Text → Ordering
bytes_cmp = slice_cmp nat_cmp

-- the first started comes first, and of equal ones the lower ID
abbrev pub place_cmp : Place → Place → Ordering
place_cmp p q = ordering_then (nat_cmp p.0 q.0) (bytes_cmp p.1 q.1)

-- a queue, with the places of those that wait in it, in order
pub record Line : Type 0 where
  pub name : Text
  pub bound : ℕ
  pub running : ℕ
  pub waiting : List Place

-- the queue of that name
abbrev pub line_of : Text → List Line → Option Line
line_of name [] = None
line_of name (l ∷ ls) = if bytes_eq l.name name then Some l else line_of name ls

-- what a queue is called and how many may run
abbrev pub declared_of : List Line → List (Text × ℕ)
declared_of lines = map (λ (l : Line). (l.name, l.bound)) lines

-- the queue that an item declares, in which nobody waits or runs
abbrev pub queue_lines : Item → List Line
queue_lines (items.Queue name bound) = record { name = name; bound = bound; running = 0; waiting = [] } ∷ []
queue_lines (items.Table name) = []
queue_lines (items.Outside name params) = []
queue_lines (items.Helper name params body) = []
queue_lines (items.Txn serial name params body) = []
queue_lines (items.Flow name params body) = []

-- the queues of a program, in their order
abbrev pub new_lines : List Item → List Line
new_lines [] = []
new_lines (i ∷ is) = queue_lines i ++ new_lines is

-- whether somebody waits at that place
abbrev pub has_place : Place → Line → Bool
has_place p l = list_any (eq_by_cmp place_cmp p) l.waiting
