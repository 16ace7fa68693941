use Rattle.std.proofs.Common.{ap, set}
use Rattle.r3_pool.proofs.Cells.{sound_take, empties}
use Rattle.r3_pool.proofs.pool.Pool.take.Goals as goal

pub invariant_of-self : goal.invariant_of-self
invariant_of-self g c =
    rw (c.push_within.ensures.items, c.replace.ensures.after, ← c.slot.view_is)
    (sound_take _ _ _ _ _ _ _ c.slot.inside.index (rw (← c.self.view_is, ← c.slot.view_is) at c.requires) c.push_within.ensures.capacity c.self.invariant)

pub returns-clause-empties : goal.returns-clause-empties
returns-clause-empties g c =
    rw (← c.self.view_is, ← c.slot.view_is)
    (empties _ _ c.slot.inside.index (rw (← c.self.view_is, ← c.slot.view_is) at c.requires) (ap (set c.self.inside.cells.items c.slot.inside.index) c.replace.ensures.after))
