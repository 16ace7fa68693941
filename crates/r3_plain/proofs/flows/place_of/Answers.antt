use Rattle.std.proofs.Common.{◌≡◌, ℕ, true, false, nat_le, sym, ap, ◌∙◌}
use Rattle.r3_plain.proofs.Sorting.{insert_here, insert_later}
use Rattle.r3_plain.proofs.flows.place_of.Goals as goal

pub returns-then-is_by-clause-place : goal.returns-then-is_by-clause-place
returns-then-is_by-clause-place c = λ f is.
    let by : nat_le f.row.started c.flow_at-flow.result.now.row.started ≡ true =
    ap (λ (n : ℕ). nat_le n c.flow_at-flow.result.now.row.started) is ∙ sym c.if-is_by.ensures in
    c.places.invariant f is ∙ insert_here f c.args.sorted.now c.places.i c.flow_at-flow.result.now c.flow_at-flow.ensures by

pub places-preserved : goal.places-preserved
places-preserved c = λ f is.
    let by : nat_le f.row.started c.flow_at-flow.result.now.row.started ≡ false =
    ap (λ (n : ℕ). nat_le n c.flow_at-flow.result.now.row.started) is ∙ sym c.if-is_by.ensures in
    c.places.invariant f is ∙ insert_later f c.args.sorted.now c.places.i c.flow_at-flow.result.now c.flow_at-flow.ensures by
