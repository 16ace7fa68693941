use Rattle.std.proofs.Common.{◌≡◌, ◌<◌, ◌∷◌, length, arith, ap, sym, ◌∙◌}
use Rattle.r3_chain.specs.Versions.{first_past as past}
use Rattle.r3_chain.specs.Links.{chain_in}
use Rattle.r3_chain.proofs.LinkLemmas.{chain_step}
use Rattle.r3_chain.proofs.WalkLemmas.{or_first, past_done, past_more}
use Rattle.r3_chain.proofs.node.first_past.Goals as goal

pub returns-then-node-snap : goal.returns-then-node-snap
returns-then-node-snap g c =
    let step = chain_step c.args.nodes.now c.in-Some.slot c.get-node.result.now c.get-node.ensures (rw c.in-Some.is at c.walk.invariant.chain) in
    let whole : chain_in c.args.nodes.now c.walk.next ≡ (c.get-node.result.now.index, c.get-node.result.now.value) ∷ chain_in c.args.nodes.now c.get-node.result.now.older =
    ap (chain_in c.args.nodes.now) c.in-Some.is ∙ step.0 in
    sym (c.walk.invariant.least ∙ ap (λ p. or_first p c.walk.first) (ap (past c.args.snap) whole ∙ past_done c.args.snap (c.get-node.result.now.index, c.get-node.result.now.value) _ (rw whole at c.walk.invariant.falling) c.if-node-snap.true))

pub walk-smaller : goal.walk-smaller
walk-smaller g c =
    let step = chain_step c.args.nodes.now c.in-Some.slot c.get-node.result.now c.get-node.ensures (rw c.in-Some.is at c.walk.invariant.chain) in
    let whole : chain_in c.args.nodes.now c.walk.next ≡ (c.get-node.result.now.index, c.get-node.result.now.value) ∷ chain_in c.args.nodes.now c.get-node.result.now.older =
    ap (chain_in c.args.nodes.now) c.in-Some.is ∙ step.0 in
    let less : length (chain_in c.args.nodes.now c.get-node.result.now.older) < length (chain_in c.args.nodes.now c.walk.next) = rw whole (omega arith) in less

pub walk-preserved : goal.walk-preserved
walk-preserved g c =
    let step = chain_step c.args.nodes.now c.in-Some.slot c.get-node.result.now c.get-node.ensures (rw c.in-Some.is at c.walk.invariant.chain) in
    let whole : chain_in c.args.nodes.now c.walk.next ≡ (c.get-node.result.now.index, c.get-node.result.now.value) ∷ chain_in c.args.nodes.now c.get-node.result.now.older =
    ap (chain_in c.args.nodes.now) c.in-Some.is ∙ step.0 in
    record {
      chain = step.1;
      falling = (rw whole at c.walk.invariant.falling).1;
      least = c.walk.invariant.least ∙ ap (λ p. or_first p c.walk.first) (ap (past c.args.snap) whole) ∙ past_more c.args.snap (c.get-node.result.now.index, c.get-node.result.now.value) _ c.walk.first c.if-node-snap.false;
    }
