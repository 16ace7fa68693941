use Rattle.std.proofs.Common.{List, map, sym, ap, ◌∙◌}
use Rattle.r3_model.specs.Rows as machine
use Rattle.r3_plain.specs.Flows.{flow_of}
use Rattle.r3_plain.specs.declared.flows.Flow.{Flow}
use Rattle.r3_plain.proofs.Sorting.{all_placed, map_last, one_placed, placed_all}
use Rattle.r3_plain.proofs.flows.by_start.Goals as goal

pub flows-init : goal.flows-init
flows-init c =
    all_placed (map flow_of c.args.flows.items)
    ∙ ap (λ (xs : List Flow). placed_all (map flow_of c.args.flows.items) (map flow_of xs)) (sym c.new-sorted.ensures.items)

pub flows-preserved : goal.flows-preserved
flows-preserved c =
    let left = c.pop.new.self.items in
    let sorted = map flow_of c.flows.sorted.items in
    c.flows.invariant
    ∙ ap (λ (xs : List Flow). placed_all (map flow_of xs) sorted) c.in-Some.ensures.items
    ∙ ap (λ (fs : List machine.Flow). placed_all fs sorted) (map_last left c.in-Some.flow)
    ∙ one_placed (map flow_of left) sorted (flow_of c.in-Some.flow)
    ∙ ap (λ (fs : List machine.Flow). placed_all (map flow_of left) fs) (sym c.in_ok-put_flow.ensures)
