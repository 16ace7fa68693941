use Rattle.std.proofs.Common.{◌≤◌, length}
use Rattle.r3_host.proofs.file.read_full.Given as goal

abbrev pub invariant-reads : goal.invariant-reads
invariant-reads l = l.done ≤ length l.into
