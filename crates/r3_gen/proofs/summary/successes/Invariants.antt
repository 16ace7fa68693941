use Rattle.std.proofs.Common.{◌≡◌, ◌≤◌}
use Rattle.r3_model.specs.Generator.{successes}
use Rattle.r3_model.specs.Machine.{State}
use Rattle.r3_exec.specs.Runs.{Stands}
use Rattle.r3_gen.proofs.summary.successes.Given as goal

pub record Counts (Is Few : Type 0) : Type 0 where
  pub is : Is
  pub few : Few

abbrev pub invariant-starts : goal.invariant-starts
invariant-starts l = Counts
    ((st : State) → Stands l.fn.exec st → l.successes ≡ successes st.history l.i)
    (l.successes ≤ l.i)
