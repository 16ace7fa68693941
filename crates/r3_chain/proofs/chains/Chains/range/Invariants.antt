use Rattle.std.proofs.Common.{◌≡◌, map}
use Rattle.std.specs.Map.Iter.{deref_pair}
use Rattle.r3_chain.specs.Links.{chain_in}
use Rattle.r3_chain.proofs.RangeLemmas.{given}
use Rattle.r3_chain.proofs.chains.Chains.range.Given as goal

abbrev pub invariant-keys : goal.invariant-keys
invariant-keys g l = map (λ r. (r.0.now, r.1)) l.keys.items ≡ given (chain_in l.self-inside.nodes) l.index (map deref_pair l.yielded)
