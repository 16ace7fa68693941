use Rattle.std.proofs.Common.{◌≡◌, length}
use Rattle.r3_chain.specs.Versions.{last_upto as upto}
use Rattle.r3_chain.specs.Links.{IsChain, chain_in}
use Rattle.r3_chain.proofs.node.last_upto.Given as goal

abbrev pub invariant-walk : goal.invariant-walk
invariant-walk g l = IsChain l.nodes l.next × (upto l.index (chain_in l.nodes l.next) ≡ upto l.index (chain_in l.nodes l.fn.newest))

abbrev pub decreases-walk : goal.decreases-walk
decreases-walk g l = length (chain_in l.nodes l.next)
