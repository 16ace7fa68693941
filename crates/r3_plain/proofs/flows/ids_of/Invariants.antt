use Rattle.std.proofs.Common.{◌≡◌, ◌++◌, drop, map}
use Rattle.r3_model.specs.Rows as machine
use Rattle.r3_plain.specs.Flows.{flow_of}
use Rattle.r3_plain.proofs.flows.ids_of.Given as goal

abbrev pub invariant-flows : goal.invariant-flows
invariant-flows l = map (λ (f : machine.Flow). f.id) (map flow_of l.flows) ≡ l.ids.items ++ map (λ (f : machine.Flow). f.id) (map flow_of (drop l.flow-index l.flows))
