use Rattle.std.proofs.Common.{map}
use Rattle.fn_tree.specs.Writes.{rows_under}
use Rattle.fn_txn.specs.RowKeys.{write_of}
use Rattle.fn_txn.specs.Rows.{key_row}
use Rattle.fn_txn.proofs.MergeLemmas.{IsMerging}
use Rattle.fn_txn.proofs.merge.merged_between.Given as goal

abbrev pub invariant-loop-row : goal.invariant-loop-row
invariant-loop-row g l =
    let base = g.M.View.versions l.view in
    IsMerging base l.table (rows_under (map write_of l.writes.entries) l.table l.lo l.hi (map (key_row base l.table) l.keys)) l.rest l.row-iterator l.rows.items
