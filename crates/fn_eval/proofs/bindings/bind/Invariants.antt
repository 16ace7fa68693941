use Rattle.std.proofs.Common.{◌≡◌, ◌++◌, drop}
use Rattle.fn_tree.specs.Expression.{bound}
use Rattle.fn_eval.proofs.bindings.bind.Given as goal

abbrev pub invariant-loop-param : goal.invariant-loop-param
invariant-loop-param l = l.names.items ++ bound (drop l.param-index l.params) l.args ≡ bound l.params l.fn.args.items
