use Rattle.std.proofs.Common.{◌≡◌, length, vec_len, reverse}
use Rattle.std.specs.Prelude.{◌↔◌}
use Rattle.r3_formed.specs.Past.{HasRoom, all_installed}
use Rattle.r3_formed.specs.Adding.{AreNext, MayAllStand}
use Rattle.r3_formed.proofs.adding.add_writes.Given as goal

abbrev pub invariant-writes : goal.invariant-writes
invariant-writes l = record {
  next : AreNext l.index (reverse l.writes.items) l.chains.versions;
  room : HasRoom l.chains (length l.writes.items);
  cap : l.chains.cap ≡ l.fn.chains.cap;
  goes : all_installed l.index (reverse l.writes.items) l.chains.versions ≡ all_installed l.index l.fn.writes.items l.fn.chains.versions;
  may : MayAllStand l.index l.snap (reverse l.writes.items) l.chains.versions ↔ MayAllStand l.index l.snap l.fn.writes.items l.fn.chains.versions;
}

abbrev pub decreases-writes : goal.decreases-writes
decreases-writes l = vec_len l.writes
