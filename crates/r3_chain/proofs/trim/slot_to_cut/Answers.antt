use Rattle.std.proofs.Common.{◌<◌, length, arith, ap, sym, ◌∙◌}
use Rattle.r3_pool.specs.Slots.{value_at, live_count}
use Rattle.r3_chain.specs.Links.{trace}
use Rattle.r3_chain.specs.Cuts.{cut_slot}
use Rattle.r3_chain.proofs.LinkLemmas.{trace_step}
use Rattle.r3_chain.proofs.TrimLemmas.{slot_later, slot_here, before_some, before_none}
use Rattle.r3_chain.proofs.trim.slot_to_cut.Goals as goal

pub walk-smaller : goal.walk-smaller
walk-smaller g c =
    let step = trace_step (live_count c.args.nodes.now) (value_at c.args.nodes.now) c.in-Some.slot c.get-node.result.now c.get-node.ensures (rw c.in-Some.is at c.walk.invariant.0) in
    let whole = ap (trace (live_count c.args.nodes.now) (value_at c.args.nodes.now)) c.in-Some.is ∙ step.0 in
    let less : length (trace (live_count c.args.nodes.now) (value_at c.args.nodes.now) c.get-node.result.now.older) < length (trace (live_count c.args.nodes.now) (value_at c.args.nodes.now) c.walk.next) =
    rw whole (omega arith) in less

pub walk-preserved : goal.walk-preserved
walk-preserved g c =
    let step = trace_step (live_count c.args.nodes.now) (value_at c.args.nodes.now) c.in-Some.slot c.get-node.result.now c.get-node.ensures (rw c.in-Some.is at c.walk.invariant.0) in
    let whole = ap (trace (live_count c.args.nodes.now) (value_at c.args.nodes.now)) c.in-Some.is ∙ step.0 in
    let later = ap (cut_slot c.args.oldest) whole
    ∙ slot_later c.args.oldest (c.in-Some.slot, (c.get-node.result.now.index, c.get-node.result.now.value)) (trace (live_count c.args.nodes.now) (value_at c.args.nodes.now) c.get-node.result.now.older) c.if-node-oldest.false in
    (step.1, sym later ∙ c.walk.invariant.1)

pub returns-then-is_some : goal.returns-then-is_some
returns-then-is_some g c =
    let step = trace_step (live_count c.args.nodes.now) (value_at c.args.nodes.now) c.in-Some.slot c.get-node.result.now c.get-node.ensures (rw c.in-Some.is at c.walk.invariant.0) in
    let whole = ap (trace (live_count c.args.nodes.now) (value_at c.args.nodes.now)) c.in-Some.is ∙ step.0 in
    let here = ap (cut_slot c.args.oldest) whole
    ∙ slot_here c.args.oldest (c.in-Some.slot, (c.get-node.result.now.index, c.get-node.result.now.value)) (trace (live_count c.args.nodes.now) (value_at c.args.nodes.now) c.get-node.result.now.older) c.if-node-oldest.true
    ∙ before_some (live_count c.args.nodes.now) c.in-Some.slot (value_at c.args.nodes.now) c.get-node.result.now.older (sym c.is_some.ensures ∙ c.if-is_some.true) step.1 in
    sym (sym c.walk.invariant.1 ∙ here)

pub returns-else-is_some : goal.returns-else-is_some
returns-else-is_some g c =
    let step = trace_step (live_count c.args.nodes.now) (value_at c.args.nodes.now) c.in-Some.slot c.get-node.result.now c.get-node.ensures (rw c.in-Some.is at c.walk.invariant.0) in
    let whole = ap (trace (live_count c.args.nodes.now) (value_at c.args.nodes.now)) c.in-Some.is ∙ step.0 in
    let here = ap (cut_slot c.args.oldest) whole
    ∙ slot_here c.args.oldest (c.in-Some.slot, (c.get-node.result.now.index, c.get-node.result.now.value)) (trace (live_count c.args.nodes.now) (value_at c.args.nodes.now) c.get-node.result.now.older) c.if-node-oldest.true
    ∙ before_none (live_count c.args.nodes.now) c.in-Some.slot (value_at c.args.nodes.now) c.get-node.result.now.older (sym c.is_some.ensures ∙ c.if-is_some.false) in
    sym (sym c.walk.invariant.1 ∙ here)
