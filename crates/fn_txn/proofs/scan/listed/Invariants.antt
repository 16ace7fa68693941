use Rattle.std.proofs.Common.{◌≡◌, map, take}
use Rattle.fn_tree.specs.Writes.{pair_value}
use Rattle.fn_txn.proofs.scan.listed.Given as goal

abbrev pub invariant-loop-row : goal.invariant-loop-row
invariant-loop-row l = l.pairs.items ≡ map pair_value (take l.row-index l.rows)
