use Rattle.std.proofs.Common.{◌≡◌, ◌+◌, ◌≤◌, drop, map, length}
use Rattle.r3_model.specs.Queues.{running}
use Rattle.r3_plain.specs.Flows.{flow_of}
use Rattle.r3_plain.proofs.dequeues.running_count.Given as goal

abbrev pub invariant-flows : goal.invariant-flows
invariant-flows l = (length (running l.name (map flow_of l.flows)) ≡ l.count + length (running l.name (map flow_of (drop l.flow-index l.flows)))) × (l.count ≤ l.flow-index)
