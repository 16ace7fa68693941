use Rattle.std.proofs.Common.{◌≡◌, drop}
use Rattle.r3_model.specs.Functions.{arity_of}
use Rattle.r3_commands.proofs.declared.arity_in.Given as goal

abbrev pub invariant-items : goal.invariant-items
invariant-items l = arity_of l.items l.function ≡ arity_of (drop l.item-index l.items) l.function
