use Rattle.std.proofs.Common.{◌≡◌, drop}
use Rattle.fn_tree.specs.Literals.{item_fits}
use Rattle.fn_tree.specs.Soundness.{each_passes}
use Rattle.fn_tree.proofs.literals.walk.Given as goal

abbrev pub invariant-loop-item : goal.invariant-loop-item
invariant-loop-item l = each_passes item_fits (drop l.item-index l.items) ≡ each_passes item_fits l.items
