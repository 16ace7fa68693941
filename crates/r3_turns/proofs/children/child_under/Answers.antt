use Rattle.std.proofs.Common.{length, Option, sym, ap, ◌∙◌, arith}
use Rattle.r3_rows.specs.declared.rows.FlowRow.{FlowRow}
use Rattle.r3_model.specs.Language.{Text}
use Rattle.r3_model.specs.Rows.{flow_at}
use Rattle.r3_model.specs.Turns.{child_turn}
use Rattle.r3_turns.proofs.children.child_under.Goals as goal

pub child_by_row-requires : goal.child_by_row-requires
child_by_row-requires g c =
    omega (arith, c.count-count.ensures c.requires.stands.0 c.requires.stands.1, (c.is_past.ensures.formed c.requires.stands.0 c.requires.stands.1).few)

pub returns : goal.returns
returns g c = λ language h s.
    sym (ap (λ (o : Option FlowRow). child_turn language h c.args.id.now c.args.request.now c.args.child.now o)
    (c.in_ok-row.ensures.row h s ∙ ap (λ (x : Text). flow_at h (length h) x) c.as_str.ensures.text))
    ∙ c.in_ok-entry.ensures language h (sym (c.count-count.ensures h s))
