use Rattle.std.proofs.Common.{◌≡◌, drop}
use Rattle.fn_tree.specs.Soundness.{are_names}
use Rattle.fn_check.proofs.readable.names_fit.Given as goal

abbrev pub invariant-loop-name : goal.invariant-loop-name
invariant-loop-name l = are_names (drop l.name-index l.names) ≡ are_names l.names
