use Rattle.std.proofs.Common.{◌≡◌, drop, List, length}
use Rattle.r3_value.specs.declared.value.Val.{Val}
use Rattle.fn_tree.specs.Evaluation.{Calls}
use Rattle.fn_tree.specs.Transaction.{run_among}
use Rattle.fn_tree.specs.Writes.{Versions}
use Rattle.fn_txn.proofs.run.transaction.Given as goal

abbrev pub invariant-loop-item : goal.invariant-loop-item
invariant-loop-item l = (base : Versions) (calls : Calls) (args : List Val) → length args ≡ l.count → run_among base calls l.items l.name args ≡ run_among base calls (drop l.item-index l.items) l.name args
