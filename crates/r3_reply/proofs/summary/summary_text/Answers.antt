use Rattle.std.proofs.Common.{rules, ◌≡◌, ℤ, ap, ◌∙◌, to_z, of_z, to_z-of_z}
use Rattle.std.specs.Int.{w128}
use Rattle.std.specs.Prelude.{string_bytes}
use Rattle.r3_reply.proofs.Told.{pieces, written}
use Rattle.r3_reply.proofs.summary.summary_text.Goals as goal

pub returns : goal.returns
returns c =
    let bytes : c.into_bytes.result.items ≡ string_bytes c.in_ok-text.text = search (rules, c.into_bytes.ensures.value) in
    let same : to_z w128 (of_z w128 c.args.sum) ≡ c.args.sum = to_z-of_z c.ranges.sum in
    bytes ∙ c.in_ok-text.ensures.ok
    ∙ ap (λ (z : ℤ). pieces c.args.entries c.args.success z) same
    ∙ written c.args.entries c.args.success c.args.sum
