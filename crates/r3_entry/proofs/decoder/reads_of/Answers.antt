use Rattle.r3_entry.specs.Bytes as spell
use Rattle.r3_entry.specs.Limits.{IsRead}
use Rattle.r3_entry.proofs.EntryUnique.{read_unique}
use Rattle.r3_entry.proofs.Parts.{list_misses}
use Rattle.r3_entry.proofs.decoder.reads_of.Goals as goal

pub returns-in-Err : goal.returns-in-Err
returns-in-Err c =
    list_misses spell.read IsRead read_unique c.in_ok-count.count c.loop.counter c.loop.reads c.args.r.now.rest c.number_of.new.r.rest c.loop.r.rest c.in-Err.miss c.in_ok-count.ensures.0 c.in_ok-count.ensures.1 c.loop.invariant c.loop-test.true c.in-Err.ensures
