use Rattle.std.proofs.Common.{◌≡◌, drop}
use Rattle.fn_txn.specs.Held.{held_at}
use Rattle.fn_txn.proofs.mem_view.row_of.Given as goal

abbrev pub invariant-loop-h : goal.invariant-loop-h
invariant-loop-h l = held_at l.rows l.table l.key ≡ held_at (drop l.h-index l.rows) l.table l.key
