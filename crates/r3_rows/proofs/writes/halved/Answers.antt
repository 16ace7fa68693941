use Rattle.std.proofs.Common.{◌≡◌, ◌+◌, ◌-◌, ◌/◌, sym, ◌∙◌, arith}
use Rattle.std.specs.declared.cmp.Ordering.TheVariants.{Less, Equal, Greater}
use Rattle.r3_rows.proofs.Pairs.{ahead, compared, in_order, goes_on, stands_at, goes_at}
use Rattle.r3_rows.proofs.writes.halved.Goals as goal

pub loop-from-preserved-in-Less : goal.loop-from-preserved-in-Less
loop-from-preserved-in-Less c =
    record {
      order = omega arith;
      within = omega arith;
      passed = c.loop-from.invariant.passed;
      ahead = ahead c.args.key.now c.args.pairs.now (c.loop-from.from + (c.loop-from.to - c.loop-from.from) / 2) c.index-pairs-middle.result (in_order c.args.pairs.now c.requires) (omega arith) c.index-pairs-middle.is (compared c.args.key.now c.args.pairs.now (c.loop-from.from + (c.loop-from.to - c.loop-from.from) / 2) c.index-pairs-middle.result Less c.index-pairs-middle.is (sym c.compare.ensures ∙ c.in-Less.is));
    }

pub returns-in-Equal : goal.returns-in-Equal
returns-in-Equal c =
    stands_at c.args.key.now c.args.pairs.now (c.loop-from.from + (c.loop-from.to - c.loop-from.from) / 2) c.index-pairs-middle.result (in_order c.args.pairs.now c.requires) (omega arith) c.index-pairs-middle.is (compared c.args.key.now c.args.pairs.now (c.loop-from.from + (c.loop-from.to - c.loop-from.from) / 2) c.index-pairs-middle.result Equal c.index-pairs-middle.is (sym c.compare.ensures ∙ c.in-Equal.is))

pub loop-from-preserved : goal.loop-from-preserved
loop-from-preserved c = record {
  order = omega arith;
  within = c.loop-from.invariant.within;
  passed = goes_on c.args.key.now c.args.pairs.now (c.loop-from.from + (c.loop-from.to - c.loop-from.from) / 2) c.index-pairs-middle.result (in_order c.args.pairs.now c.requires) (omega arith) c.index-pairs-middle.is (compared c.args.key.now c.args.pairs.now (c.loop-from.from + (c.loop-from.to - c.loop-from.from) / 2) c.index-pairs-middle.result Greater c.index-pairs-middle.is (sym c.compare.ensures ∙ c.in-Greater.is));
  ahead = c.loop-from.invariant.ahead;
}

pub returns : goal.returns
returns c =
    let met : c.loop-from.from ≡ c.loop-from.to = omega arith in
    goes_at c.args.key.now c.args.pairs.now c.loop-from.from (omega arith) c.loop-from.invariant.passed (rw met c.loop-from.invariant.ahead)
