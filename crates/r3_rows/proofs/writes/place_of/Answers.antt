use Rattle.std.proofs.Common.{length, ◌-◌, sym, ◌∙◌, arith}
use Rattle.std.specs.declared.cmp.Ordering.TheVariants.{Greater}
use Rattle.r3_rows.proofs.Pairs.{compared, in_order, goes_last}
use Rattle.r3_rows.proofs.writes.place_of.Goals as goal

pub returns-in-Greater : goal.returns-in-Greater
returns-in-Greater c =
    goes_last c.args.key.now c.args.pairs.now c.index-pairs-count.result (in_order c.args.pairs.now c.requires) (omega arith) c.index-pairs-count.is (compared c.args.key.now c.args.pairs.now (length c.args.pairs.now - 1) c.index-pairs-count.result Greater c.index-pairs-count.is (sym c.compare.ensures ∙ c.in-Greater.is))
