use Rattle.std.proofs.Common.{◌≡◌, sym, ap, ◌∙◌, Some}
use Rattle.r3_chain.specs.Versions.{versions_of, present, last_upto as upto}
use Rattle.r3_chain.specs.Links.{chain_in}
use Rattle.r3_chain.proofs.SoundLemmas.{chain_is, head_chain}
use Rattle.r3_chain.proofs.chains.Chains.read.Goals as goal

pub last_upto-requires : goal.last_upto-requires
last_upto-requires g c = rw c.newest.ensures (head_chain c.self.inside.nodes g.K.Ord.cmp c.self.inside.last c.args.key.now c.self.inside.heads.entries c.self.invariant.sound.heads).0

pub returns-in-Some-value : goal.returns-in-Some-value
returns-in-Some-value g c =
    let chain = chain_is g.K.Ord.cmp g.met.K.Ord.total c.self.inside.heads.entries c.self.inside.nodes c.self.inside.cap c.self.inside.round c.self.inside.last c.self.invariant.sound c.args.key.now in
    let at : versions_of g.K.Ord.cmp c.args.key.now c.args.self.now.versions ≡ chain_in c.self.inside.nodes c.newest.result = rw (← c.self.view_is) (chain ∙ ap (chain_in c.self.inside.nodes) (sym c.newest.ensures)) in
    sym (ap (λ vs. present (upto c.args.index vs)) at ∙ ap present (sym c.in-Some.ensures) ∙ ap (λ v. present (Some (c.in-Some.node.now.index, v))) c.in-Some-value.is)

pub returns-in-None-value : goal.returns-in-None-value
returns-in-None-value g c =
    let chain = chain_is g.K.Ord.cmp g.met.K.Ord.total c.self.inside.heads.entries c.self.inside.nodes c.self.inside.cap c.self.inside.round c.self.inside.last c.self.invariant.sound c.args.key.now in
    let at : versions_of g.K.Ord.cmp c.args.key.now c.args.self.now.versions ≡ chain_in c.self.inside.nodes c.newest.result = rw (← c.self.view_is) (chain ∙ ap (chain_in c.self.inside.nodes) (sym c.newest.ensures)) in
    sym (ap (λ vs. present (upto c.args.index vs)) at ∙ ap present (sym c.in-Some.ensures) ∙ ap (λ v. present (Some (c.in-Some.node.now.index, v))) c.in-None-value.is)

pub returns-in-None : goal.returns-in-None
returns-in-None g c =
    let chain = chain_is g.K.Ord.cmp g.met.K.Ord.total c.self.inside.heads.entries c.self.inside.nodes c.self.inside.cap c.self.inside.round c.self.inside.last c.self.invariant.sound c.args.key.now in
    let at : versions_of g.K.Ord.cmp c.args.key.now c.args.self.now.versions ≡ chain_in c.self.inside.nodes c.newest.result = rw (← c.self.view_is) (chain ∙ ap (chain_in c.self.inside.nodes) (sym c.newest.ensures)) in
    sym (ap (λ vs. present (upto c.args.index vs)) at ∙ ap present (sym c.in-None.ensures))
