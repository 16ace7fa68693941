use Rattle.std.proofs.Common.{◌≡◌, drop}
use Rattle.fn_tree.specs.Declarations.{spawned}
use Rattle.fn_flow.proofs.find.spawned.Given as goal

abbrev pub invariant-loop-item : goal.invariant-loop-item
invariant-loop-item l = spawned l.items l.name l.count ≡ spawned (drop l.item-index l.items) l.name l.count
