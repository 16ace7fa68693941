-- Which programs are sound: those that the checker finds nothing wrong in.
use Rattle.fn_tree.specs.declared.program.Item.{Item}
use Rattle.std.specs.Prelude.{◌≡◌, Bool, true, ◌&&◌, List, [], ◌∷◌, ◌++◌, length, map, nat_lt}
use Rattle.fn_tree.specs.declared.program.Item.TheVariants as item
pub use Rattle.fn_tree.specs.Declarations.{contains, is_distinct, name_of, params_of, is_table, is_helper, any, call_of, spawn_of, or_else, first, called, spawned, is_some}
pub use Rattle.fn_tree.specs.SoundExpression.{Scope, Test, each_is, node_is_sound, expr_is_sound}
pub use Rattle.fn_tree.specs.SoundBody.{Body, OfTxn, OfFlow, is_txn, is_flow, same_if, with_new, Binds, after, all_in_order, block_is_sound, block_with, exprs_are_sound, ask_is_sound, rhs_is_sound, no_block_or, statement_binds, binds, body_is_sound}
pub use Rattle.fn_tree.specs.Names.{is_name, are_names, joined_lists, names_among, names_bound, body_names, names_in}

-- an item after the given ones, in the whole program
abbrev pub item_is_sound : List Item → List Item → Item → Bool
item_is_sound before items (item.Helper name params body) = expr_is_sound before body params
item_is_sound before items (item.Txn serial name params body) = body_is_sound items OfTxn params body
item_is_sound before items (item.Flow name params body) = body_is_sound items OfFlow params body
item_is_sound before items _ = true

abbrev pub items_are_sound : List Item → List Item → List Item → Bool
items_are_sound before items [] = true
items_are_sound before items (i ∷ rest) = is_distinct (params_of i) && item_is_sound before items i && items_are_sound (before ++ i ∷ []) items rest

abbrev pub each_passes : (Item → Bool) → List Item → Bool
each_passes p [] = true
each_passes p (i ∷ items) = p i && each_passes p items

-- A sound program: no two items have one name, each item is sound, names have 1 to 64 bytes, and items at most 16 parameters.
pub record IsSound (items : List Item) : Type 0 where
  pub distinct : is_distinct (map name_of items) ≡ true
  pub bodies : items_are_sound [] items items ≡ true
  pub names : each_passes (λ i. are_names (names_in i)) items ≡ true
  pub few_params : each_passes (λ i. nat_lt (length (params_of i)) 17) items ≡ true
