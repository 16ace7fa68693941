use Rattle.std.proofs.Common.{◌≡◌, ◌*◌, ◌^◌, ◌≤ℤ◌, pos, neg_ℤ}
use Rattle.r3_model.specs.Machine.{State}
use Rattle.r3_exec.specs.Runs.{Stands}
use Rattle.r3_gen.proofs.Counting.{total_of}
use Rattle.r3_gen.proofs.summary.total.Given as goal

pub record Sums (Is Low High : Type 0) : Type 0 where
  pub is : Is
  pub low : Low
  pub high : High

abbrev pub invariant-accounts : goal.invariant-accounts
invariant-accounts l = Sums
    ((st : State) → Stands l.fn.exec st → l.sum ≡ total_of st.history l.i)
    (neg_ℤ (pos (l.i * 2 ^ 63)) ≤ℤ l.sum)
    (l.sum ≤ℤ pos (l.i * 2 ^ 63))
