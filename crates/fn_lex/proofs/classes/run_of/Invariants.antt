use Rattle.std.proofs.Common.{◌≡◌, ◌+◌, drop}
use Rattle.fn_lex.specs.Pieces.{run}
use Rattle.fn_lex.proofs.classes.run_of.Given as goal

abbrev pub invariant-loop-b : goal.invariant-loop-b
invariant-loop-b l = (l.n ≡ l.b-index) × (run l.class l.bytes ≡ l.n + run l.class (drop l.b-index l.bytes))
