use Rattle.std.proofs.Common.{◌≡◌, length}
use Rattle.std.specs.Prelude.{◌↔◌}
use Rattle.std.specs.List.{AllByRecursion}
use Rattle.r3_chain.specs.Versions.{as_of}
use Rattle.r3_formed.specs.Rules.{look_in}
use Rattle.r3_formed.proofs.adding.are_read_back.Given as goal

abbrev pub invariant-reads : goal.invariant-reads
invariant-reads l =
    AllByRecursion (λ r. r ≡ look_in (as_of l.index l.chains.versions) r) l.reads ↔ AllByRecursion (λ r. r ≡ look_in (as_of l.index l.chains.versions) r) l.fn.reads

abbrev pub decreases-reads : goal.decreases-reads
decreases-reads l = length l.reads
