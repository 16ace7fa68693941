use Rattle.std.proofs.Common.{◌≡◌, ◌+◌, ◌≤◌, ◌<◌, List, [], ◌∷◌, ◌++◌, length, Some, None, sym, subst, ap, ◌∙◌, arith}
use Rattle.std.specs.Option.{option_copied}
use Rattle.r3_rows.specs.declared.rows.StepRow.{StepRow}
use Rattle.r3_model.specs.Rows.{step_at}
use Rattle.r3_past.proofs.Steps.{AreFirst, first-more, first-stops, first-ends}
use Rattle.r3_past.proofs.step_rows.recorded_below.Goals as goal

pub returns-in-None : goal.returns-in-None
returns-in-None g c = λ h s.
    let few : c.steps.n < 1000 = omega arith in
    let is : step_at h (length h) c.args.id.now c.steps.n ≡ None = sym (c.in_ok-step_row.ensures h s) ∙ ap option_copied c.in-None.is in
    first-stops h (length h) c.args.id.now c.args.below c.steps.n c.steps.rows.items few is (c.steps.invariant h s)

pub steps-preserved : goal.steps-preserved
steps-preserved g c = λ h s.
    let few : c.steps.n < 1000 = omega arith in
    let wanted : c.steps.n < c.args.below = omega arith in
    let is : step_at h (length h) c.args.id.now c.steps.n ≡ Some c.in-Some.row.now = sym (c.in_ok-step_row.ensures h s) ∙ ap option_copied c.in-Some.is in
    let pushed : c.push.new.self.items ≡ c.steps.rows.items ++ c.in-Some.row.now ∷ [] =
    c.in_ok-push-in-Some.ensures.items ∙ ap (λ (r : StepRow). c.steps.rows.items ++ r ∷ []) c.in_ok-copy-in-Some.ensures in
    subst (λ (rows : List StepRow). AreFirst h (length h) c.args.id.now c.args.below (c.steps.n + 1) rows) (sym pushed)
    (first-more h (length h) c.args.id.now c.args.below c.steps.n c.steps.rows.items c.in-Some.row.now few wanted is (c.steps.invariant h s))

pub returns : goal.returns
returns g c = λ h s.
    let past : 1000 ≤ c.steps.n = omega arith in
    first-ends h (length h) c.args.id.now c.args.below c.steps.n c.steps.rows.items past (c.steps.invariant h s)
