use Rattle.std.proofs.Common.{length}
use Rattle.fn_txn.proofs.MergeLemmas.{IsPassing}
use Rattle.fn_txn.proofs.merge.pass.Given as goal

abbrev pub invariant-loop-pair : goal.invariant-loop-pair
invariant-loop-pair g l = IsPassing (g.M.View.versions l.view) l.table l.key l.keys l.initial.rows.items l.rest l.rows.items

abbrev pub decreases-loop-pair : goal.decreases-loop-pair
decreases-loop-pair g l = length l.rest
