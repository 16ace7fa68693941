use Rattle.std.proofs.Common.{ap, length, arith}
use Rattle.fn_tree.proofs.+same_expr.Goals as goal

pub same::same_all-returns-then-a-b : goal.same::same_all-returns-then-a-b
same::same_all-returns-then-a-b t c = (
  λ f. absurd cc,
  λ e. absurd (c.if-a-b.true (omega (arith, ap length e))),
)
