use Rattle.std.proofs.Common.{◌≡◌, map, take}
use Rattle.serde_json.specs.View.{view}
use Rattle.r3_value.specs.Value.{depth}
use Rattle.r3_value.specs.View.{value_of}
use Rattle.r3_json.specs.Values.{data_of}
use Rattle.r3_json.proofs.values.+data.Given as goal

abbrev pub decreases-data : goal.decreases-data
decreases-data l = depth (value_of l.value.now)

abbrev pub invariant-loop-item : goal.invariant-loop-item
invariant-loop-item l = map view l.array.items ≡ map (λ v. data_of (value_of v)) (take l.item-index l.items)
