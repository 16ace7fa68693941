use Rattle.std.proofs.Common.{◌≡◌, ◌<◌, length, sym, ap, ◌∙◌}
use Rattle.sys_flow.specs.Children.{child_id}
use Rattle.r3_model.specs.Language.{Text}
use Rattle.r3_model.specs.Turns.{child_or_id, child_turn, now}
use Rattle.r3_turns.proofs.Pieces.{short-child}
use Rattle.r3_turns.proofs.children.child_draft.Goals as goal

pub returns-in_ok-entry-in-Ok : goal.returns-in_ok-entry-in-Ok
returns-in_ok-entry-in-Ok g c = λ language h s.
    let short : 200 < length (child_id c.as_str.result.now c.args.request.now.n) → ⊥ = λ long. (let clash = c.in-Ok.ensures.id.1 long in cc) in
    let same : child_id c.as_str.result.now c.args.request.now.n ≡ c.in-Ok.child = sym c.in-Ok.ensures.ok in
    ap (λ (x : Text). child_or_id language h c.args.id.now c.args.request.now (child_id x c.args.request.now.n)) (sym c.as_str.ensures.text)
    ∙ short-child language h c.args.id.now c.args.request.now (child_id c.as_str.result.now c.args.request.now.n) short
    ∙ ap (λ (x : Text). child_turn language h c.args.id.now c.args.request.now x (now language h c.args.id.now x)) same
    ∙ c.in_ok-entry-in-Ok.ensures language h s
