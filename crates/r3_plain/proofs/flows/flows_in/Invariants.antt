use Rattle.std.proofs.Common.{◌≡◌, ◌++◌, drop, map, filter_map}
use Rattle.r3_model.specs.Rows.{flow_seen}
use Rattle.r3_plain.specs.Flows.{flow_of}
use Rattle.r3_plain.proofs.flows.flows_in.Given as goal

abbrev pub invariant-rows : goal.invariant-rows
invariant-rows l = filter_map flow_seen l.rows ≡ map flow_of l.flows.items ++ filter_map flow_seen (drop l.row-index l.rows)
