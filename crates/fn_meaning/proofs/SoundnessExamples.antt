-- Soundness computes: a program that keeps each rule, and one that breaks it.
use Rattle.std.proofs.Common.{◌≡◌, List, [], ◌∷◌, ◌++◌, Some, None, refl, Bool, true, false}
use Rattle.std.specs.Prelude.{codes, map}
use Rattle.fn_tree.specs.declared.expr.Expr.{Expr}
use Rattle.fn_tree.specs.declared.stmt.Stmt.{Stmt}
use Rattle.fn_tree.specs.declared.stmt.Ask.TheVariants as ask
use Rattle.fn_tree.specs.declared.stmt.Rhs.TheVariants as rhs
use Rattle.fn_tree.specs.declared.program.Item.{Item}
use Rattle.fn_tree.specs.declared.program.Item.TheVariants as item
use Rattle.fn_tree.specs.Soundness.{is_distinct, name_of, items_are_sound}
use Rattle.fn_meaning.proofs.Words.{num, true_, name, add, list, helper, let_, set_, do_, put_, if_, each_, try_, return_}
use Rattle.fn_meaning.proofs.ExpressionLemmas.{expr_is_sound_roll}
use Rattle.fn_meaning.proofs.StatementLemmas.{binds_roll}

abbrev sound : List Item → Bool
sound items = items_are_sound [] items items

-- a flow with this body, and a transaction, beside a table, an outside, a helper of one parameter and a transaction of two
abbrev around : List Item
around =
    item.Table (codes "acct") ∷ item.Outside (codes "notify") (codes "who" ∷ []) ∷ item.Helper (codes "twice") (codes "x" ∷ []) (add (name (codes "x")) (name (codes "x")))
    ∷ item.Txn false (codes "pay") (codes "a" ∷ codes "b" ∷ []) [] ∷ []

abbrev flow : List Stmt → Bool
flow body = sound (around ++ item.Flow (codes "f") (codes "m" ∷ []) body ∷ [])

abbrev txn : List Stmt → Bool
txn body = sound (around ++ item.Txn false (codes "t") (codes "m" ∷ []) body ∷ [])

-- names of items
two_names : is_distinct (map name_of around) ≡ true
two_names = refl

one_name_twice : is_distinct (map name_of (around ++ item.Queue (codes "pay") 1 ∷ [])) ≡ false
one_name_twice = refl

-- a parameter with the name of an earlier one, of an outside too
parameter_twice : sound (item.Outside (codes "o") (codes "a" ∷ codes "a" ∷ []) ∷ []) ≡ false
parameter_twice = refl

-- let binds from the next statement on, to the end of its block
let_then_use : flow (let_ (codes "x") (rhs.Plain (name (codes "m"))) ∷ return_ (name (codes "x")) ∷ []) ≡ true
let_then_use = simp (expr_is_sound_roll, binds_roll)

let_of_itself : flow (let_ (codes "x") (rhs.Plain (name (codes "x"))) ∷ []) ≡ false
let_of_itself = simp (expr_is_sound_roll, binds_roll)

let_in_block : flow (if_ true_ (let_ (codes "x") (rhs.Plain (num 1)) ∷ []) None ∷ return_ (name (codes "x")) ∷ []) ≡ false
let_in_block = simp (expr_is_sound_roll, binds_roll)

let_twice : flow (let_ (codes "x") (rhs.Plain (num 1)) ∷ let_ (codes "x") (rhs.Plain (num 1)) ∷ []) ≡ false
let_twice = simp (expr_is_sound_roll, binds_roll)

let_of_parameter : flow (let_ (codes "m") (rhs.Plain (num 1)) ∷ []) ≡ false
let_of_parameter = simp (expr_is_sound_roll, binds_roll)

-- one name in two blocks that don't overlap
let_in_two_blocks : flow (if_ true_ (let_ (codes "x") (rhs.Plain (num 1)) ∷ []) (Some (let_ (codes "x") (rhs.Plain (num 2)) ∷ [])) ∷ let_ (codes "x") (rhs.Plain (num 3)) ∷ []) ≡ true
let_in_two_blocks = simp (expr_is_sound_roll, binds_roll)

set_unbound : flow (set_ (codes "x") (rhs.Plain (num 1)) ∷ []) ≡ false
set_unbound = simp (expr_is_sound_roll, binds_roll)

-- each and catch bind in their block
each_binds : flow (each_ (codes "x") (list []) (return_ (name (codes "x")) ∷ []) ∷ []) ≡ true
each_binds = simp (expr_is_sound_roll, binds_roll)

each_has_ended : flow (each_ (codes "x") (list []) [] ∷ return_ (name (codes "x")) ∷ []) ≡ false
each_has_ended = simp (expr_is_sound_roll, binds_roll)

catch_binds : flow (try_ [] (codes "w") (return_ (name (codes "w")) ∷ []) ∷ []) ≡ true
catch_binds = simp (expr_is_sound_roll, binds_roll)

catch_in_try : flow (try_ (return_ (name (codes "w")) ∷ []) (codes "w") [] ∷ []) ≡ false
catch_in_try = simp (expr_is_sound_roll, binds_roll)

-- calls and their numbers of arguments
calls_txn : flow (do_ (ask.Call (codes "pay") (num 1 ∷ num 2 ∷ [])) ∷ []) ≡ true
calls_txn = simp (expr_is_sound_roll, binds_roll)

calls_with_one : flow (do_ (ask.Call (codes "pay") (num 1 ∷ [])) ∷ []) ≡ false
calls_with_one = simp (expr_is_sound_roll, binds_roll)

calls_flow : flow (do_ (ask.Call (codes "f") (num 1 ∷ [])) ∷ []) ≡ false
calls_flow = simp (expr_is_sound_roll, binds_roll)

spawns_itself : flow (do_ (ask.Spawn (codes "f") (num 1 ∷ [])) ∷ []) ≡ true
spawns_itself = simp (expr_is_sound_roll, binds_roll)

spawns_txn : flow (do_ (ask.Spawn (codes "pay") (num 1 ∷ num 2 ∷ [])) ∷ []) ≡ false
spawns_txn = simp (expr_is_sound_roll, binds_roll)

-- rows in transactions alone, asks in flows alone, and a table that is one
puts_in_txn : txn (put_ (codes "acct") (name (codes "m")) (num 1) ∷ []) ≡ true
puts_in_txn = simp (expr_is_sound_roll, binds_roll)

puts_in_flow : flow (put_ (codes "acct") (name (codes "m")) (num 1) ∷ []) ≡ false
puts_in_flow = simp (expr_is_sound_roll, binds_roll)

puts_to_no_table : txn (put_ (codes "pay") (name (codes "m")) (num 1) ∷ []) ≡ false
puts_to_no_table = simp (expr_is_sound_roll, binds_roll)

awaits_in_txn : txn (do_ (ask.Await (name (codes "m"))) ∷ []) ≡ false
awaits_in_txn = simp (expr_is_sound_roll, binds_roll)

-- a helper calls what was declared before it, with its number of arguments
abbrev helpers : Expr → Expr → Bool
helpers one two = sound (item.Helper (codes "h") (codes "x" ∷ []) one ∷ item.Helper (codes "i") (codes "x" ∷ []) two ∷ [])

calls_before : helpers (num 1) (helper (codes "h") (num 1 ∷ [])) ≡ true
calls_before = simp (expr_is_sound_roll, binds_roll)

calls_after : helpers (helper (codes "i") (num 1 ∷ [])) (num 1) ≡ false
calls_after = simp (expr_is_sound_roll, binds_roll)

calls_itself : helpers (helper (codes "h") (num 1 ∷ [])) (num 1) ≡ false
calls_itself = simp (expr_is_sound_roll, binds_roll)

calls_no_argument : helpers (num 1) (helper (codes "h") []) ≡ false
calls_no_argument = simp (expr_is_sound_roll, binds_roll)
