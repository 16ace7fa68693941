use Rattle.std.proofs.Common.{◌∙◌}
use Rattle.fn_spell.proofs.SpacedLemmas.{turn_of_program}
use Rattle.fn_spell.proofs.items.items.Goals as goal

pub loop-i-preserved : goal.loop-i-preserved
loop-i-preserved c =
    turn_of_program c.args.all.now c.loop-i.i-index c.i-item.result c.loop-i.out.items c.item.new.out.items c.loop-i-test.true c.i-item.is c.in_ok-item.ensures
    ∙ c.loop-i.invariant
