use Rattle.std.proofs.Common.{◌≡◌, length}
use Rattle.r3_chain.specs.Versions.{first_past as past, AreFalling}
use Rattle.r3_chain.specs.Links.{IsChain, chain_in}
use Rattle.r3_chain.proofs.WalkLemmas.{or_first}
use Rattle.r3_chain.proofs.node.first_past.Given as goal

abbrev pub invariant-walk : goal.invariant-walk
invariant-walk g l = record {
  chain : IsChain l.nodes l.next;
  falling : AreFalling (chain_in l.nodes l.next);
  least : past l.snap (chain_in l.nodes l.fn.newest) ≡ or_first (past l.snap (chain_in l.nodes l.next)) l.first;
}

abbrev pub decreases-walk : goal.decreases-walk
decreases-walk g l = length (chain_in l.nodes l.next)
