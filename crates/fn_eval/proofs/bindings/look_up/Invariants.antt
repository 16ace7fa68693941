use Rattle.std.proofs.Common.{◌≡◌, length}
use Rattle.fn_tree.specs.Evaluation.{look_up}
use Rattle.fn_eval.proofs.bindings.look_up.Given as goal

abbrev pub invariant-loop-last : goal.invariant-loop-last
invariant-loop-last l = look_up l.names l.name ≡ look_up l.rest l.name

abbrev pub decreases-loop-last : goal.decreases-loop-last
decreases-loop-last l = length l.rest
