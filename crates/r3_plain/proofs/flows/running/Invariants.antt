use Rattle.std.proofs.Common.{◌≡◌, ◌++◌, map}
use Rattle.std.specs.Prelude.{filter}
use Rattle.r3_plain.specs.Flows.{flow_of, is_pending}
use Rattle.r3_plain.proofs.flows.running.Given as goal

abbrev pub invariant-flows : goal.invariant-flows
invariant-flows l =
    (goal.iterator-flows).can_next l.flow-iterator × (goal.iterator-flows).is_finite l.flow-iterator
    × (filter is_pending (map flow_of l.fn.flows.items) ≡ map flow_of l.left.items ++ filter is_pending (map flow_of l.flow-iterator.rest.items))
