use Rattle.std.proofs.Common.{take}
use Rattle.std.specs.List.{AllByRecursion}
use Rattle.r3_chain.specs.Versions.{as_of}
use Rattle.r3_formed.specs.Rules.{HasFlow}
use Rattle.r3_formed.proofs.rules.have_flows.Given as goal

abbrev pub invariant-writes : goal.invariant-writes
invariant-writes l = AllByRecursion (λ w. HasFlow (as_of l.index l.chains.versions) w.0) (take l.write-index l.writes)
