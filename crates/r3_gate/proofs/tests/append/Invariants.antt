use Rattle.std.proofs.Common.{ℕ, List}
use Rattle.r3_gate.specs.Gate.{Tracks}
use Rattle.r3_gate.proofs.tests.append.Given as goal

abbrev pub invariant-loop-payload : goal.invariant-loop-payload
invariant-loop-payload g l =
    (ps : List (List ℕ)) × (qs : List (List ℕ)) × Tracks g.D.Desk.size g.D.Desk.image g.D.Desk.may_leave l.desk l.gate ps qs
