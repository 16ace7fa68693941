use Rattle.std.proofs.Common.{◌≡◌, take}
use Rattle.fn_tree.proofs.+same_expr.Given as goal

abbrev pub invariant-same::same_all-loop-i : goal.invariant-same::same_all-loop-i
invariant-same::same_all-loop-i l = take l.i l.a ≡ take l.i l.b
