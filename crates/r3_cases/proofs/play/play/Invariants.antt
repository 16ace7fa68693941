use Rattle.std.proofs.Common.{ℕ}
use Rattle.r3_model.specs.Machine.{State}
use Rattle.r3_exec.specs.Runs.{Runs}
use Rattle.r3_cases.proofs.play.play.Given as goal

abbrev pub invariant-steps : goal.invariant-steps
invariant-steps g l = (st : State) × (k : ℕ) × Runs g.D.Desk.size g.D.Desk.image g.D.Desk.may_leave l.desk l.exec st k
