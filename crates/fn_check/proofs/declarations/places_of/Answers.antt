use Rattle.std.proofs.Common.{rules, arith, take}
use Rattle.std.proofs.lemmas.Grind.{common_steps}
use Rattle.fn_check.proofs.declarations.places_of.Goals as goal

pub loop-item-preserved : goal.loop-item-preserved
loop-item-preserved c = (
  first_of (search rules, grind (arith, common_steps)),
  c.in_ok-add.ensures (take c.loop-item.item-index c.args.items.now) _ c.item-item.result
      (first_of (search rules, grind (arith, common_steps))) (first_of (search rules, grind (arith, common_steps)))
      (grind (arith, common_steps)) c.loop-item.invariant.1,
)
