use Rattle.std.proofs.Common.{◌≡◌, ◌<◌, ◌∷◌, length, arith, ap, sym, ◌∙◌}
use Rattle.r3_chain.specs.Versions.{last_upto as upto}
use Rattle.r3_chain.specs.Links.{chain_in}
use Rattle.r3_chain.proofs.LinkLemmas.{chain_step}
use Rattle.r3_chain.proofs.WalkLemmas.{upto_later}
use Rattle.r3_chain.proofs.node.last_upto.Goals as goal

pub walk-smaller : goal.walk-smaller
walk-smaller g c =
    let node = c.get-node.result.now in
    let step = chain_step c.args.nodes.now c.in-Some.slot c.get-node.result.now c.get-node.ensures (rw c.in-Some.is at c.walk.invariant.0) in
    let whole : chain_in c.args.nodes.now c.walk.next ≡ (c.get-node.result.now.index, c.get-node.result.now.value) ∷ chain_in c.args.nodes.now c.get-node.result.now.older =
    ap (chain_in c.args.nodes.now) c.in-Some.is ∙ step.0 in
    let less : length (chain_in c.args.nodes.now c.get-node.result.now.older) < length (chain_in c.args.nodes.now c.walk.next) = rw whole (omega arith) in less

pub walk-preserved : goal.walk-preserved
walk-preserved g c =
    let step = chain_step c.args.nodes.now c.in-Some.slot c.get-node.result.now c.get-node.ensures (rw c.in-Some.is at c.walk.invariant.0) in
    let later : upto c.args.index (chain_in c.args.nodes.now c.walk.next) ≡ upto c.args.index (chain_in c.args.nodes.now c.get-node.result.now.older) =
    ap (upto c.args.index) (ap (chain_in c.args.nodes.now) c.in-Some.is ∙ step.0) ∙ upto_later c.args.index _ _ c.if-node-index.false in
    (step.1, sym later ∙ c.walk.invariant.1)
