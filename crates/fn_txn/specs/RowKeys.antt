-- The order of the keys of tables, and writes by them.
use Rattle.std.specs.Prelude.{List, Option}
use Rattle.std.specs.Ordering.{nat_cmp, ordering_then}
use Rattle.std.specs.Cmp.Lexicographic.{slice_cmp}
use Rattle.std.specs.declared.cmp.Ordering.{Ordering}
use Rattle.r3_value.specs.declared.value.Val.{Val}
use Rattle.fn_tree.specs.Writes.{Write}
use Rattle.fn_txn.specs.declared.row_key.RowKey.{RowKey}

-- by table, then by key, both by their bytes
abbrev pub row_cmp : RowKey → RowKey → Ordering
row_cmp a b = ordering_then (slice_cmp nat_cmp a.table b.table) (slice_cmp nat_cmp a.key b.key)

abbrev pub write_of : RowKey × Option Val → Write
write_of e = (e.0.table, e.0.key, e.1)
