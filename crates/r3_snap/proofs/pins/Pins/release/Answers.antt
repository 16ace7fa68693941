use Rattle.std.proofs.Common.{◌≡◌, subst, sym, ◌∷◌, List, ℕ}
use Rattle.std.specs.Prelude.{Contains}
use Rattle.std.specs.List.Sorted.{IsPermutation}
use Rattle.std.proofs.lemmas.List.Sorted.{IsPermutation-remove}
use Rattle.r3_snap.proofs.PinLemmas.{removed}
use Rattle.r3_snap.proofs.pins.Pins.release.Goals as goal

pub returns-clause-one : goal.returns-clause-one
returns-clause-one c =
    rw (← c.self.view_is, c.remove.ensures.items)
    (IsPermutation-remove c.self.inside.held.items c.place_of-at.result c.args.snap (rw (← c.deref.ensures.value) c.place_of-at.ensures.within) (rw (← c.deref.ensures.value) (sym c.place_of-at.ensures.value)))

pub returns-clause-fewer : goal.returns-clause-fewer
returns-clause-fewer c = λ s there.
    rw (← c.self.view_is) (removed c.self.inside.held.items c.place_of-at.result s (subst (λ (l : List ℕ). Contains l s) c.remove.ensures.items there))
