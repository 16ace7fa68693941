use Rattle.std.proofs.Common.{◌≡◌, ◌++◌, drop, filter_map}
use Rattle.r3_entry.specs.History.{seen_in}
use Rattle.r3_plain.proofs.rows.seen_in.Given as goal

abbrev pub invariant-rows : goal.invariant-rows
invariant-rows l = filter_map (seen_in l.table l.lo l.hi) l.rows ≡ l.keys.items ++ filter_map (seen_in l.table l.lo l.hi) (drop l.row-index l.rows)
