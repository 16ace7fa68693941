use Rattle.std.proofs.Common.{ap, length, arith}
use Rattle.fn_tree.proofs.same.same_names.Goals as goal

pub returns-then-a-b : goal.returns-then-a-b
returns-then-a-b c = (
  λ f. absurd cc,
  λ e. absurd (c.if-a-b.true (omega (arith, ap length e))),
)
