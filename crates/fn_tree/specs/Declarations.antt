-- What the items of a program declare.
use Rattle.fn_tree.specs.declared.flow.AskKind.{AskKind}
use Rattle.fn_tree.specs.declared.program.Item.{Item}
use Rattle.std.specs.Prelude.{ℕ, Bool, true, false, not, ◌&&◌, ◌||◌, List, [], ◌∷◌, length, nat_eq, Option, Some, None, if◌then◌else◌}
use Rattle.std.specs.Str.{bytes_eq}
use Rattle.fn_tree.specs.declared.flow.AskKind.TheVariants as kind
use Rattle.fn_tree.specs.declared.program.Item.TheVariants as item

abbrev pub contains : List (List ℕ) → List ℕ → Bool
contains [] name = false
contains (x ∷ xs) name = bytes_eq x name || contains xs name

abbrev pub is_distinct : List (List ℕ) → Bool
is_distinct [] = true
is_distinct (x ∷ xs) = not (contains xs x) && is_distinct xs

abbrev pub name_of : Item → List ℕ
name_of (item.Table name) = name
name_of (item.Queue name bound) = name
name_of (item.Outside name params) = name
name_of (item.Helper name params body) = name
name_of (item.Txn serial name params body) = name
name_of (item.Flow name params body) = name

abbrev pub params_of : Item → List (List ℕ)
params_of (item.Table name) = []
params_of (item.Queue name bound) = []
params_of (item.Outside name params) = params
params_of (item.Helper name params body) = params
params_of (item.Txn serial name params body) = params
params_of (item.Flow name params body) = params

-- the item is a table of the name
abbrev pub is_table : List ℕ → Item → Bool
is_table table (item.Table name) = bytes_eq name table
is_table table _ = false

-- the item is a helper of the name with so many parameters
abbrev pub is_helper : List ℕ → ℕ → Item → Bool
is_helper name n (item.Helper x params body) = bytes_eq x name && nat_eq (length params) n
is_helper name n _ = false

abbrev pub any : (Item → Bool) → List Item → Bool
any p [] = false
any p (i ∷ items) = p i || any p items

-- what a call asks for, if the item is one of the name with so many parameters that may be called
abbrev pub call_of : List ℕ → ℕ → Item → Option AskKind
call_of name n (item.Outside x params) = if bytes_eq x name && nat_eq (length params) n then Some kind.Outside else None
call_of name n (item.Txn serial x params body) = if bytes_eq x name && nat_eq (length params) n then Some kind.Txn else None
call_of name n _ = None

-- what a spawn asks for, if the item is a flow of the name with so many parameters
abbrev pub spawn_of : List ℕ → ℕ → Item → Option AskKind
spawn_of name n (item.Flow x params body) = if bytes_eq x name && nat_eq (length params) n then Some kind.Child else None
spawn_of name n _ = None

abbrev pub or_else : Option AskKind → Option AskKind → Option AskKind
or_else (Some k) o = Some k
or_else None o = o

abbrev pub first : (Item → Option AskKind) → List Item → Option AskKind
first p [] = None
first p (i ∷ items) = or_else (p i) (first p items)

abbrev pub called : List Item → List ℕ → ℕ → Option AskKind
called items name n = first (call_of name n) items

abbrev pub spawned : List Item → List ℕ → ℕ → Option AskKind
spawned items name n = first (spawn_of name n) items

abbrev pub is_some : {A : Type 0} → Option A → Bool
is_some (Some a) = true
is_some None = false
