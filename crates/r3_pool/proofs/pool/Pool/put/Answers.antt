use Rattle.std.proofs.Common.{◌≡◌, length, Some, arith, refl}
use Rattle.std.proofs.lemmas.Grind.{common_steps}
use Rattle.r3_pool.proofs.Cells.{sound_put, put_again, put_fresh, fills_again, fills_fresh}
use Rattle.r3_pool.proofs.pool.Pool.put.Goals as goal

pub invariant_of-self : goal.invariant_of-self
invariant_of-self g c =
    sound_put _ _ _ _ _ _ _ _ _ _ (rw (← c.slot.view_is) at (c.in-Some.ensures.items)) (rw (← c.self.view_is) at c.requires) c.pop.ensures.capacity c.self.invariant

pub returns-in-Some-clause-value : goal.returns-in-Some-clause-value
returns-in-Some-clause-value g c =
    let same : _ = put_again c.self.inside.cells.items _ _ c.slot.inside.index (length c.self.inside.cells.items) (Some c.args.value)
    (rw (← c.slot.view_is) at (c.in-Some.ensures.items)) c.self.invariant.used in
    rw (← c.self.view_is, ← same.0, ← same.1) refl

pub returns-in-None-clause-value : goal.returns-in-None-clause-value
returns-in-None-clause-value g c =
    let same : _ = put_fresh c.self.inside.cells.items c.self.inside.freed.items (Some c.args.value) (grind (arith, common_steps)) in
    rw (← c.self.view_is, ← same.0, ← same.1) (grind (arith, common_steps))

pub returns-in-Some-clause-fills : goal.returns-in-Some-clause-fills
returns-in-Some-clause-fills g c =
    rw (← c.self.view_is, ← c.slot.view_is)
    (fills_again _ _ _ _ _ _ _ c.slot.inside.index c.args.value (rw (← c.slot.view_is) at (c.in-Some.ensures.items)) c.self.invariant refl)

pub returns-in-None-clause-fills : goal.returns-in-None-clause-fills
returns-in-None-clause-fills g c =
    let last : c.len.result ≡ length c.self.inside.cells.items = grind (arith, common_steps) in
    rw (← c.self.view_is) (fills_fresh _ _ _ c.args.value last c.push_within.ensures.items)
