use Rattle.std.proofs.Common.{◌≡◌, drop}
use Rattle.fn_tree.specs.Soundness.{contains}
use Rattle.fn_check.proofs.variables.stands_in.Given as goal

abbrev pub invariant-loop-x : goal.invariant-loop-x
invariant-loop-x l = contains (drop l.x-index l.names) l.name ≡ contains l.names l.name
