use Rattle.r3_entry.specs.Limits.{IsWrite}
use Rattle.r3_entry.specs.Parts as part
use Rattle.r3_entry.proofs.EntryUnique.{write_unique}
use Rattle.r3_entry.proofs.Parts.{list_misses}
use Rattle.r3_entry.proofs.decoder.pairs_of.Goals as goal

pub returns-in-Err-clause-absent : goal.returns-in-Err-clause-absent
returns-in-Err-clause-absent c =
    list_misses part.write IsWrite write_unique c.in_ok-count.count c.loop.counter c.loop.pairs.items c.args.r.now.rest c.number_of.new.r.rest c.loop.r.rest c.in-Err.miss c.in_ok-count.ensures.0 c.in_ok-count.ensures.1 c.loop.invariant c.loop-test.true c.in-Err.ensures
