use Rattle.std.proofs.Common.{◌≡◌, length, sym, ap, ◌∙◌}
use Rattle.sys_flow.specs.Awaits.{awaited_of}
use Rattle.r3_model.specs.Language.{Text}
use Rattle.r3_model.specs.Rows.{flow_at}
use Rattle.r3_model.specs.Turns.{await_turn, text_of}
use Rattle.r3_turns.proofs.awaits.await_draft.Goals as goal

pub returns : goal.returns
returns g c = λ language h s.
    let on-is : c.in_ok-on.on ≡ text_of c.args.request.now.args = c.in_ok-on.ensures in
    let found-is : c.in_ok-found.found ≡ awaited_of (flow_at h (length h) (text_of c.args.request.now.args)) =
    c.in_ok-found.ensures ∙ ap awaited_of (c.in_ok-row.ensures.row h s)
    ∙ ap (λ (x : Text). awaited_of (flow_at h (length h) x)) (c.as_str.ensures.text ∙ on-is) in
    sym (λ i. await_turn language h c.args.id.now c.args.request.now (on-is i) (found-is i))
    ∙ c.in_ok-draft.ensures language h (sym (c.count.ensures h s))
