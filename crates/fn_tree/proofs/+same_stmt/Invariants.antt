use Rattle.std.proofs.Common.{◌≡◌, take}
use Rattle.fn_tree.proofs.+same_stmt.Given as goal

abbrev pub invariant-same::same_block-loop-i : goal.invariant-same::same_block-loop-i
invariant-same::same_block-loop-i l = take l.i l.a ≡ take l.i l.b
