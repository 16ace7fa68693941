use Rattle.std.proofs.Common.{arith, ◌∙◌, ℕ, ◌+◌, sym, ap}
use Rattle.r3_model.specs.Generator.{successes}
use Rattle.r3_gen.proofs.Counting.{successes-next}
use Rattle.r3_gen.proofs.summary.successes.Goals as goal

pub starts-preserved : goal.starts-preserved
starts-preserved c = record {
  is = λ st s.
      ap (λ (n : ℕ). n + c.in_ok-success.success) (c.starts.invariant.is st s)
      ∙ ap (λ (n : ℕ). successes st.history c.starts.i + n) (c.in_ok-success.ensures.success st s)
      ∙ sym (successes-next st.history c.starts.i);
  few = omega (arith, c.starts.invariant.few, c.in_ok-success.ensures.few);
}
