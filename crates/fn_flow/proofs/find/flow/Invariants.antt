use Rattle.std.proofs.Common.{◌≡◌, drop, List, Option}
use Rattle.r3_value.specs.declared.value.Val.{Val}
use Rattle.fn_tree.specs.declared.program.Item.{Item}
use Rattle.fn_tree.specs.Flow.{begun_among}
use Rattle.fn_flow.proofs.find.flow.Given as goal

abbrev pub invariant-loop-item : goal.invariant-loop-item
invariant-loop-item l = (all : List Item) (args : Option (List Val)) → begun_among all l.items l.name args ≡ begun_among all (drop l.item-index l.items) l.name args
