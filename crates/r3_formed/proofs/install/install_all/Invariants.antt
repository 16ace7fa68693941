use Rattle.std.proofs.Common.{◌≡◌, vec_len, reverse}
use Rattle.r3_formed.specs.Past.{all_installed, AreReady}
use Rattle.r3_formed.proofs.install.install_all.Given as goal

abbrev pub invariant-writes : goal.invariant-writes
invariant-writes l = record {
  ready : AreReady l.index (reverse l.writes.items) l.chains.room l.chains.versions;
  goes : all_installed l.index (reverse l.writes.items) l.chains.versions ≡ all_installed l.index l.fn.writes.items l.fn.chains.versions;
  cap : l.chains.cap ≡ l.fn.chains.cap;
}

abbrev pub decreases-writes : goal.decreases-writes
decreases-writes l = vec_len l.writes
