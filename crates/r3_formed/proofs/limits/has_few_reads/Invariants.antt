use Rattle.std.proofs.Common.{◌≡◌, ◌≤◌, take}
use Rattle.std.specs.Prelude.{sum_by}
use Rattle.r3_entry.specs.Formed.{read_count}
use Rattle.r3_formed.proofs.limits.has_few_reads.Given as goal

abbrev pub invariant-reads : goal.invariant-reads
invariant-reads l = (l.count ≡ sum_by read_count (take l.read-index l.reads)) × (l.count ≤ 4096)
