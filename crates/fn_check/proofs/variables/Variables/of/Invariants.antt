use Rattle.std.proofs.Common.{◌≡◌, take}
use Rattle.fn_check.proofs.variables.Variables.of.Given as goal

abbrev pub invariant-loop-param : goal.invariant-loop-param
invariant-loop-param l = l.scope ≡ take l.param-index l.params
