use Rattle.std.proofs.Common.{take}
use Rattle.std.specs.List.{AllByRecursion}
use Rattle.r3_chain.specs.Versions.{as_of}
use Rattle.r3_formed.specs.Rules.{IsWriteIn}
use Rattle.r3_formed.proofs.rules.writes_fit.Given as goal

abbrev pub invariant-writes : goal.invariant-writes
invariant-writes l = AllByRecursion (IsWriteIn (as_of l.count l.chains.versions) l.count l.snap) (take l.write-index l.writes)
