use Rattle.std.proofs.Common.{◌≡◌, ◌++◌, map}
use Rattle.fn_txn.specs.RowKeys.{write_of}
use Rattle.fn_txn.proofs.journal.listed.Given as goal

abbrev pub invariant-loop-row : goal.invariant-loop-row
invariant-loop-row l = l.all ++ map write_of l.row-iterator ≡ map write_of l.fn.writes.entries
