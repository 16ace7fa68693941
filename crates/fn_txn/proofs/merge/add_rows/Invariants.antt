use Rattle.std.proofs.Common.{◌≡◌, ◌++◌, map, take}
use Rattle.fn_txn.specs.Rows.{key_row}
use Rattle.fn_txn.proofs.merge.add_rows.Given as goal

abbrev pub invariant-loop-pair : goal.invariant-loop-pair
invariant-loop-pair g l = l.rows.items ≡ l.initial.rows.items ++ map (key_row (g.M.View.versions l.view) l.table) (take l.pair-index l.keys)
