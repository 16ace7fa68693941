use Rattle.std.proofs.Common.{◌≡◌}
use Rattle.serde_json.specs.View.{items_view}
use Rattle.r3_json.specs.Values.{values_from}
use Rattle.r3_json.proofs.Items.{after, rest_from}
use Rattle.r3_json.proofs.values.+value.Given as goal

-- what is left to read decides what the whole array gives
abbrev pub invariant-values_of-loop-item : goal.invariant-values_of-loop-item
invariant-values_of-loop-item l = values_from (items_view l.item-items) ≡ after l.values.items (rest_from l.item-items l.item-index)
