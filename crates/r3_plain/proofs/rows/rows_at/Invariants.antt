use Rattle.std.proofs.Common.{◌≡◌}
use Rattle.r3_entry.specs.History.{map_at}
use Rattle.r3_plain.proofs.rows.rows_at.Given as goal

abbrev pub invariant-entries : goal.invariant-entries
invariant-entries l = l.rows.entries ≡ map_at l.history l.i
