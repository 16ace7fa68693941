use Rattle.std.proofs.Common.{◌≡◌, drop}
use Rattle.fn_tree.specs.Declarations.{called}
use Rattle.fn_cases.proofs.calling.called.Given as goal

abbrev pub invariant-loop-item : goal.invariant-loop-item
invariant-loop-item l = called l.items l.name l.count ≡ called (drop l.item-index l.items) l.name l.count
