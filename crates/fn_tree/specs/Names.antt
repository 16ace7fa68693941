-- The names in an item.
use Rattle.fn_tree.specs.declared.program.Item.{Item}
use Rattle.fn_tree.specs.declared.stmt.Stmt.{Stmt}
use Rattle.fn_tree.specs.declared.stmt.Stmt.TheFolds.{fold-Stmt}
use Rattle.fn_tree.specs.declared.stmt.Stmt.TheOpen.{Stmt-F}
use Rattle.std.specs.Prelude.{ℕ, Bool, true, ◌&&◌, List, [], ◌∷◌, ◌++◌, length, map, nat_lt, Option, Some, None}
use Rattle.fn_tree.specs.declared.program.Item.TheVariants as item
use Rattle.fn_tree.specs.Declarations.{name_of, params_of}

-- a name has 1 to 64 bytes
abbrev pub is_name : List ℕ → Bool
is_name name = nat_lt 0 (length name) && nat_lt (length name) 65

abbrev pub are_names : List (List ℕ) → Bool
are_names [] = true
are_names (x ∷ xs) = is_name x && are_names xs

abbrev pub joined_lists : List (List (List ℕ)) → List (List ℕ)
joined_lists [] = []
joined_lists (xs ∷ rest) = xs ++ joined_lists rest

abbrev names_in_no : Option (List (List (List ℕ))) → List (List ℕ)
names_in_no None = []
names_in_no (Some b) = joined_lists b

-- the names that a statement binds, with those that its inner statements bind
abbrev pub names_among : Stmt-F (List (List ℕ)) → List (List ℕ)
names_among (Stmt-F.Let name r) = name ∷ []
names_among (Stmt-F.If cond one other) = joined_lists one ++ names_in_no other
names_among (Stmt-F.While cond b) = joined_lists b
names_among (Stmt-F.Each name list b) = name ∷ joined_lists b
names_among (Stmt-F.Try b name handler) = joined_lists b ++ name ∷ joined_lists handler
names_among _ = []

abbrev pub names_bound : List Stmt → List (List ℕ)
names_bound b = joined_lists (map (fold-Stmt (List (List ℕ)) names_among) b)

abbrev pub body_names : Item → List (List ℕ)
body_names (item.Txn serial name params body) = names_bound body
body_names (item.Flow name params body) = names_bound body
body_names _ = []

-- An item's own name, its parameters, and the names that its body binds. A sound body uses no other variable.
abbrev pub names_in : Item → List (List ℕ)
names_in i = name_of i ∷ params_of i ++ body_names i
