use Rattle.std.proofs.Common.{◌≡◌, ◌++◌, map}
use Rattle.std.specs.Prelude.{filter}
use Rattle.sys_queue.specs.Rows.{is_waiting}
use Rattle.r3_model.specs.Rows.{Flow}
use Rattle.r3_plain.specs.Flows.{flow_of}
use Rattle.r3_plain.proofs.dequeues.waiting.Given as goal

abbrev pub invariant-flows : goal.invariant-flows
invariant-flows l =
    (goal.iterator-flows).can_next l.flow-iterator × (goal.iterator-flows).is_finite l.flow-iterator
    × (filter (λ (f : Flow). is_waiting l.name f.row) (map flow_of l.fn.flows.items)
    ≡ map flow_of l.left.items ++ filter (λ (f : Flow). is_waiting l.name f.row) (map flow_of l.flow-iterator.rest.items))
