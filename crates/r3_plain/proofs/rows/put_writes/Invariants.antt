use Rattle.std.proofs.Common.{◌≡◌, take}
use Rattle.r3_plain.proofs.RowLemmas.{put_all}
use Rattle.r3_plain.proofs.rows.put_writes.Given as goal

abbrev pub invariant-writes : goal.invariant-writes
invariant-writes l = put_all l.number l.initial.rows.entries (take l.write-index l.write-items) ≡ l.rows.entries
