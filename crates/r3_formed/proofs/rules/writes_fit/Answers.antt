use Rattle.std.proofs.Common.{rules}
use Rattle.r3_chain.specs.Versions.{as_of}
use Rattle.r3_formed.specs.Rules.{IsWriteIn}
use Rattle.r3_formed.proofs.Loops.{all_next}
use Rattle.r3_formed.proofs.rules.writes_fit.Goals as goal

pub writes-preserved : goal.writes-preserved
writes-preserved c =
    all_next (IsWriteIn (as_of c.args.count c.args.chains.now.versions) c.args.count c.args.snap) c.args.writes.now c.writes.write-index c.write-item.result c.writes-test.true c.write-item.is c.writes.invariant
    (c.write_fits.ensures.0 (search rules))
