use Rattle.std.proofs.Common.{◌≡◌, ◌*◌, ◌≤◌}
use Rattle.serde_json.specs.View.{items_view}
use Rattle.r3_json.specs.Sizes.{sizes}
use Rattle.r3_json.specs.Values.{values_from}
use Rattle.r3_json.proofs.Items.{rest_from, beside}
use Rattle.r3_json.proofs.sizes.+size.Given as goal

-- what is left decides the size of the whole array
abbrev pub invariant-items_size-loop-item : goal.invariant-items_size-loop-item
invariant-items_size-loop-item l = record {
  sizes : sizes (values_from (items_view l.item-items)) ≡ beside l.weight l.depth (sizes (rest_from l.item-items l.item-index));
  bounded : l.weight ≤ 4096 * l.item-index;
  shallow : l.depth ≤ 16;
}
