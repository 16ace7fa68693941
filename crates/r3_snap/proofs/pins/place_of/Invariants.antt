use Rattle.std.proofs.Common.{◌≡◌, ◌≢◌, ◌<◌, ℕ, get_or}
use Rattle.r3_snap.proofs.pins.place_of.Given as goal

abbrev pub invariant-held : goal.invariant-held
invariant-held l = (k : ℕ) → k < l.i → get_or l.held k l.snap ≢ l.snap
