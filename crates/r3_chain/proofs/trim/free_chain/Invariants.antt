use Rattle.r3_pool.specs.Slots.{live_count}
use Rattle.r3_chain.proofs.TrimLemmas.{Freeing}
use Rattle.r3_chain.proofs.trim.free_chain.Given as goal

abbrev pub invariant-free : goal.invariant-free
invariant-free g l = Freeing (live_count l.initial.nodes) l.fn.from l.next l.initial.nodes l.nodes

abbrev pub decreases-free : goal.decreases-free
decreases-free g l = live_count l.nodes
