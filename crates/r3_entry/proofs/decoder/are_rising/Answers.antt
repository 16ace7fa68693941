use Rattle.std.proofs.Common.{arith}
use Rattle.r3_entry.proofs.EntryWhole.{rises_before, not_rising}
use Rattle.r3_entry.proofs.decoder.are_rising.Goals as goal

pub returns-then-not-is_below_first : goal.returns-then-not-is_below_first
returns-then-not-is_below_first c =
    (λ no. absurd cc, λ rises. absurd (not_rising c.args.pairs.now c.pairs.from c.index-pairs-from.result c.pairs-test.true c.pairs.invariant.within c.index-pairs-from.is (λ below. let yes = c.is_below_first.ensures.1 below in cc) rises))

pub pairs-preserved : goal.pairs-preserved
pairs-preserved c = record {
  within = omega (arith, c.pairs.invariant.within);
  rising = rises_before c.args.pairs.now c.pairs.from c.index-pairs-from.result c.pairs-test.true c.pairs.invariant.within c.index-pairs-from.is (c.is_below_first.ensures.0 c.if-not-is_below_first.false) c.pairs.invariant.rising;
}
