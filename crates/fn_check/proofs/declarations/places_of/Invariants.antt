use Rattle.std.proofs.Common.{◌≡◌, take}
use Rattle.fn_check.specs.Places.{Indexes}
use Rattle.fn_check.proofs.declarations.places_of.Given as goal

abbrev pub invariant-loop-item : goal.invariant-loop-item
invariant-loop-item l = (l.at ≡ l.item-index) × Indexes l.places (take l.item-index l.items)
