-- The faults of a use of an item's name, in the order in which one place is tested.
use Rattle.std.specs.Prelude.{◌≡◌, ℕ, Bool, true, false, Result, Ok, Err, List, [], ◌∷◌, length, nat_eq, Option, Some, None, if◌then◌else◌}
use Rattle.std.specs.Str.{bytes_eq}
use Rattle.fn_tree.specs.declared.program.Item.{Item}
use Rattle.fn_tree.specs.declared.program.Item.TheVariants as item
use Rattle.fn_tree.specs.Soundness.{name_of, is_some}
use Rattle.fn_check.specs.declared.fault.CheckKind.{CheckKind}
use Rattle.fn_check.specs.declared.fault.CheckKind.TheVariants.{UnknownName, Kind, CallOrder, Arity}
use Rattle.fn_check.specs.Found.{then_, needs, none}

-- The item that a name means: the first one that is declared with it.
abbrev pub declared : List Item → List ℕ → Option Item
declared [] name = None
declared (i ∷ items) name = if bytes_eq (name_of i) name then Some i else declared items name

abbrev pub takes : List (List ℕ) → ℕ → Result (Unit {0}) CheckKind
takes params n = needs (nat_eq (length params) n) Arity

-- the table of a statement
abbrev pub table_use : Option Item → Result (Unit {0}) CheckKind
table_use None = Err UnknownName
table_use (Some (item.Table name)) = none
table_use (Some i) = Err Kind

-- what is called: a transaction or an outside
abbrev pub call_use : Option Item → ℕ → Result (Unit {0}) CheckKind
call_use None n = Err UnknownName
call_use (Some (item.Outside name params)) n = takes params n
call_use (Some (item.Txn serial name params body)) n = takes params n
call_use (Some i) n = Err Kind

-- what is spawned: a flow
abbrev pub spawn_use : Option Item → ℕ → Result (Unit {0}) CheckKind
spawn_use None n = Err UnknownName
spawn_use (Some (item.Flow name params body)) n = takes params n
spawn_use (Some i) n = Err Kind

-- a helper, and whether it is declared early enough to be called here
abbrev pub helper_use : Option Item → Bool → ℕ → Result (Unit {0}) CheckKind
helper_use None early n = Err UnknownName
helper_use (Some (item.Helper name params body)) early n = then_ (needs early CallOrder) (λ u. takes params n)
helper_use (Some i) early n = Err Kind
