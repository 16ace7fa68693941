use Rattle.std.proofs.Common.{◌≡◌, map, length}
use Rattle.r3_model.specs.Rows.{by_start}
use Rattle.r3_plain.specs.Flows.{flow_of}
use Rattle.r3_plain.proofs.Sorting.{placed_all}
use Rattle.r3_plain.proofs.flows.by_start.Given as goal

abbrev pub invariant-flows : goal.invariant-flows
invariant-flows l = by_start (map flow_of l.initial.flows.items) ≡ placed_all (map flow_of l.flows.items) (map flow_of l.sorted.items)

abbrev pub decreases-flows : goal.decreases-flows
decreases-flows l = length l.flows.items
