use Rattle.std.proofs.Common.{◌≡◌, ◌≤◌, take}
use Rattle.std.specs.Prelude.{count_by}
use Rattle.r3_entry.specs.Formed.{is_user}
use Rattle.r3_formed.proofs.limits.has_few_rows.Given as goal

abbrev pub invariant-writes : goal.invariant-writes
invariant-writes l = (l.count ≡ count_by is_user (take l.write-index l.writes)) × (l.count ≤ 1024)
