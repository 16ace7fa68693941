use Rattle.std.proofs.Common.{◌≡◌, sym, ap, ◌∙◌}
use Rattle.r3_chain.specs.Versions.{versions_of, first_past as past}
use Rattle.r3_chain.specs.Links.{chain_in}
use Rattle.r3_chain.proofs.SoundLemmas.{chain_is, head_chain}
use Rattle.r3_chain.proofs.chains.Chains.after.Goals as goal

pub first_past-requires-clause-chain : goal.first_past-requires-clause-chain
first_past-requires-clause-chain g c = rw c.newest.ensures (head_chain c.self.inside.nodes g.K.Ord.cmp c.self.inside.last c.args.key.now c.self.inside.heads.entries c.self.invariant.sound.heads).0

pub first_past-requires-clause-falling : goal.first_past-requires-clause-falling
first_past-requires-clause-falling g c = rw c.newest.ensures (head_chain c.self.inside.nodes g.K.Ord.cmp c.self.inside.last c.args.key.now c.self.inside.heads.entries c.self.invariant.sound.heads).1

pub returns : goal.returns
returns g c =
    let chain = chain_is g.K.Ord.cmp g.met.K.Ord.total c.self.inside.heads.entries c.self.inside.nodes c.self.inside.cap c.self.inside.round c.self.inside.last c.self.invariant.sound c.args.key.now in
    let at : versions_of g.K.Ord.cmp c.args.key.now c.args.self.now.versions ≡ chain_in c.self.inside.nodes c.newest.result = rw (← c.self.view_is) (chain ∙ ap (chain_in c.self.inside.nodes) (sym c.newest.ensures)) in
    c.first_past.ensures ∙ ap (past c.args.snap) (sym at)
