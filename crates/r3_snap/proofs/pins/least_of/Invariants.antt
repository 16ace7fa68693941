use Rattle.std.proofs.Common.{◌≡◌, take}
use Rattle.r3_snap.specs.Pins.{least_in}
use Rattle.r3_snap.proofs.pins.least_of.Given as goal

abbrev pub invariant-held : goal.invariant-held
invariant-held l = l.least ≡ least_in (take l.snap-index l.held)
