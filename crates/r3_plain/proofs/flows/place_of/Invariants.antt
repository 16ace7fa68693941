use Rattle.std.proofs.Common.{◌≡◌, ◌++◌, drop, map, take}
use Rattle.r3_model.specs.Rows as machine
use Rattle.r3_plain.specs.Flows.{flow_of}
use Rattle.r3_plain.proofs.flows.place_of.Given as goal

abbrev pub invariant-places : goal.invariant-places
invariant-places l =
    (f : machine.Flow) → f.row.started ≡ l.started
    → machine.placed f (map flow_of l.sorted) ≡ take l.i (map flow_of l.sorted) ++ machine.placed f (drop l.i (map flow_of l.sorted))
