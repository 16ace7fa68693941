-- The first fault of a program: of its first item that has one, the one that stands first in it.
use Rattle.std.specs.Prelude.{◌≡◌, ℕ, Bool, true, ◌&&◌, not, ◌+◌, Result, Ok, Err, List, [], ◌∷◌, ◌++◌, length, nat_lt, Option, Some, None}
use Rattle.fn_tree.specs.declared.program.Item.{Item}
use Rattle.fn_tree.specs.declared.program.Item.TheVariants as item
use Rattle.fn_tree.specs.declared.stmt.Stmt.{Stmt}
use Rattle.fn_tree.specs.declared.stmt.Stmt.TheFolds.{fold-Stmt}
use Rattle.fn_tree.specs.Soundness.{is_distinct, name_of, params_of, is_some, OfTxn, OfFlow, each_passes, are_names, names_among, names_in}
use Rattle.fn_check.specs.declared.fault.CheckKind.{CheckKind}
use Rattle.fn_check.specs.declared.fault.CheckKind.TheVariants.{DuplicateName}
use Rattle.fn_check.specs.Found.{then_, needs, none}
use Rattle.fn_check.specs.Uses.{declared}
use Rattle.fn_check.specs.ExpressionCheck.{expr_check}
use Rattle.fn_check.specs.BodyCheck.{body_check}

-- what follows the parameters of an item that stands behind the given ones
abbrev pub inside_check : List Item → List Item → Item → Result (Unit {0}) CheckKind
inside_check before items (item.Helper name params body) = expr_check before items body params
inside_check before items (item.Txn serial name params body) = body_check items OfTxn params body
inside_check before items (item.Flow name params body) = body_check items OfFlow params body
inside_check before items i = none

-- an item: its name, its parameters, and what is in it
abbrev pub item_check : List Item → List Item → Item → Result (Unit {0}) CheckKind
item_check before items i =
    then_ (needs (not (is_some (declared before (name_of i)))) DuplicateName)
    (λ u. then_ (needs (is_distinct (params_of i)) DuplicateName) (λ u. inside_check before items i))

abbrev pub fault_or : ℕ → Result (Unit {0}) CheckKind → Option (ℕ × CheckKind) → Option (ℕ × CheckKind)
fault_or number (Ok u) later = later
fault_or number (Err fault) later = Some (number, fault)

-- the first fault of the items behind the given ones
abbrev pub fault_after : List Item → List Item → List Item → Option (ℕ × CheckKind)
fault_after before items [] = None
fault_after before items (i ∷ rest) = fault_or (length before + 1) (item_check before items i) (fault_after (before ++ i ∷ []) items rest)

-- The first fault, with the number of its item, counted from 1.
abbrev pub first_fault : List Item → Option (ℕ × CheckKind)
first_fault items = fault_after [] items items

-- Names have 1 to 64 bytes, and items at most 16 parameters, as in every text that has a tree.
pub record IsReadable (items : List Item) : Type 0 where
  pub names : each_passes (λ i. are_names (names_in i)) items ≡ true
  pub few_params : each_passes (λ i. nat_lt (length (params_of i)) 17) items ≡ true

-- the same of one item
abbrev pub is_readable_item : Item → Bool
is_readable_item i = are_names (names_in i) && nat_lt (length (params_of i)) 17

-- the names that a statement binds, with those in its blocks
abbrev pub names_of : Stmt → List (List ℕ)
names_of = fold-Stmt (List (List ℕ)) names_among

-- each name that the statements bind is one
abbrev pub all_fit : List Stmt → Bool
all_fit [] = true
all_fit (s ∷ rest) = are_names (names_of s) && all_fit rest
