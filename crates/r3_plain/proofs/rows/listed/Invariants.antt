use Rattle.std.proofs.Common.{◌≡◌, ◌++◌}
use Rattle.r3_plain.proofs.rows.listed.Given as goal

abbrev pub invariant-rows : goal.invariant-rows
invariant-rows l = l.all.items ++ l.row-iterator ≡ l.fn.rows.entries
