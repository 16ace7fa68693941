use Rattle.r3_gen.proofs.Counting.{AccountRows}
use Rattle.r3_gen.proofs.lines.rows.Given as goal

abbrev pub invariant-accounts : goal.invariant-accounts
invariant-accounts l = AccountRows l.rows.items l.i
