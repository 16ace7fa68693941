use Rattle.std.proofs.Common.{◌≡◌, drop}
use Rattle.fn_tree.specs.Soundness.{each_passes}
use Rattle.fn_check.specs.FirstFault.{is_readable_item}
use Rattle.fn_check.proofs.readable.items_fit.Given as goal

abbrev pub invariant-loop-item : goal.invariant-loop-item
invariant-loop-item l = each_passes is_readable_item (drop l.item-index l.items) ≡ each_passes is_readable_item l.items
