use Rattle.std.proofs.Common.{◌≡◌, take}
use Rattle.std.specs.List.{AllByRecursion}
use Rattle.r3_chain.specs.Versions.{as_of}
use Rattle.r3_formed.specs.Rules.{look_in}
use Rattle.r3_formed.proofs.looks.are_read_again.Given as goal

abbrev pub invariant-reads : goal.invariant-reads
invariant-reads l = AllByRecursion (λ r. r ≡ look_in (as_of l.index l.chains.versions) r) (take l.read-index l.reads)
