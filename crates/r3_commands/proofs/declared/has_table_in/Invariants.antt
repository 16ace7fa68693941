use Rattle.std.proofs.Common.{◌≡◌, drop}
use Rattle.fn_tree.specs.Declarations.{any, is_table}
use Rattle.r3_commands.proofs.declared.has_table_in.Given as goal

abbrev pub invariant-items : goal.invariant-items
invariant-items l = any (is_table l.table) l.items ≡ any (is_table l.table) (drop l.item-index l.items)
