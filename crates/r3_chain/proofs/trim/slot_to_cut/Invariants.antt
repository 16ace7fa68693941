use Rattle.std.proofs.Common.{◌≡◌, length}
use Rattle.r3_pool.specs.Slots.{value_at, live_count}
use Rattle.r3_chain.specs.Links.{IsChain, trace}
use Rattle.r3_chain.specs.Cuts.{cut_slot}
use Rattle.r3_chain.proofs.trim.slot_to_cut.Given as goal

abbrev pub invariant-walk : goal.invariant-walk
invariant-walk g l =
    IsChain l.nodes l.next
    × (cut_slot l.oldest (trace (live_count l.nodes) (value_at l.nodes) l.next) ≡ cut_slot l.oldest (trace (live_count l.nodes) (value_at l.nodes) l.fn.newest))

abbrev pub decreases-walk : goal.decreases-walk
decreases-walk g l = length (trace (live_count l.nodes) (value_at l.nodes) l.next)
