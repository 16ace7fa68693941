-- The conditions of a spelling that is read again, on small programs, by computation.
use Rattle.std.proofs.Common.{◌≡◌, List, [], ◌∷◌, true, false, refl, arith}
use Rattle.std.specs.Prelude.{codes, negsuc}
use Rattle.fn_tree.specs.declared.program.Item.{Item}
use Rattle.fn_tree.specs.declared.program.Item.TheVariants as item
use Rattle.fn_spell.specs.Pieces.{a_name, a_number, a_text}
use Rattle.fn_spell.specs.Limits.{is_token, is_fit, HasTokens, KeepsLimits}

-- `table t; queue q 1000; outside o(a, b); flow f() { }`
abbrev small : List Item
small =
    item.Table (codes "t") ∷ item.Queue (codes "q") 1000 ∷ item.Outside (codes "o") (codes "a" ∷ codes "b" ∷ []) ∷
    item.Flow (codes "f") [] [] ∷ []

-- its spelling has tokens, and keeps the limits
small_has_tokens : HasTokens small
small_has_tokens = refl

small_keeps : KeepsLimits small
small_keeps = record { few = omega arith; fit = refl; keeps = refl }

-- no tokens: a reserved word as a name, a number below zero, a tab in a text
word_is_no_name : is_token (a_name (codes "flow")) ≡ false
word_is_no_name = refl

below_zero : is_token (a_number (negsuc 0)) ≡ false
below_zero = refl

tab_in_a_text : is_token (a_text (9 ∷ [])) ≡ false
tab_in_a_text = refl

-- not fit: a queue of 0, a transaction with a mark
queue_of_0 : is_fit (item.Queue (codes "q") 0) ≡ false
queue_of_0 = refl

marked : is_fit (item.Txn true (codes "f") [] []) ≡ false
marked = refl
