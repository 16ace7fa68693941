use Rattle.std.proofs.Common.{List, map, refl, sym, ap, ◌∙◌}
use Rattle.std.specs.List.{insert}
use Rattle.r3_model.specs.Rows.{placed}
use Rattle.r3_plain.specs.Flows.{flow_of}
use Rattle.r3_plain.specs.declared.flows.Flow.{Flow}
use Rattle.r3_plain.proofs.Sorting.{map_insert}
use Rattle.r3_plain.proofs.flows.put_flow.Goals as goal

pub returns : goal.returns
returns c =
    let place = c.place_of-place.result in
    let f = flow_of c.args.flow in
    ap (λ (xs : List Flow). map flow_of xs) c.in_ok-insert.ensures.items
    ∙ map_insert c.args.sorted.now.items place c.args.flow
    ∙ ap (λ (xs : List Flow). insert (map flow_of xs) place f) (sym c.as_slice.ensures.value)
    ∙ sym (c.place_of-place.ensures.place f refl)
    ∙ ap (λ (xs : List Flow). placed f (map flow_of xs)) c.as_slice.ensures.value
