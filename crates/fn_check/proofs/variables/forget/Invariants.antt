use Rattle.std.proofs.Common.{◌≡◌, take, length}
use Rattle.fn_check.specs.Known.{Keeps}
use Rattle.fn_check.proofs.variables.forget.Given as goal

abbrev pub invariant-loop-names : goal.invariant-loop-names
invariant-loop-names l = Keeps l.known l.names.items × (take l.len l.names.items ≡ take l.len l.fn.names.items)

abbrev pub decreases-loop-names : goal.decreases-loop-names
decreases-loop-names l = length l.names.items
