use Rattle.std.proofs.Common.{◌≡◌, ◌≤◌, ◌<◌, length, None, sym, ap, ◌∙◌, arith}
use Rattle.std.specs.Option.{option_copied}
use Rattle.r3_model.specs.Rows.{step_at}
use Rattle.r3_past.proofs.Steps.{some-more, some-stop, some-end}
use Rattle.r3_past.proofs.step_rows.recorded_count.Goals as goal

pub returns-in-None-clause-count : goal.returns-in-None-clause-count
returns-in-None-clause-count g c = λ h s.
    let few : c.steps.n < 1000 = omega arith in
    let is : step_at h (length h) c.args.id.now c.steps.n ≡ None = sym (c.in_ok-step_row.ensures h s) ∙ ap option_copied c.in-None.is in
    some-stop h (length h) c.args.id.now c.steps.n few is (c.steps.invariant h s)

pub steps-preserved : goal.steps-preserved
steps-preserved g c = λ h s.
    let few : c.steps.n < 1000 = omega arith in
    let is = sym (c.in_ok-step_row.ensures h s) ∙ ap option_copied c.in-Some.is in
    some-more h (length h) c.args.id.now c.steps.n _ few is (c.steps.invariant h s)

pub returns-clause-count : goal.returns-clause-count
returns-clause-count g c = λ h s.
    let past : 1000 ≤ c.steps.n = omega arith in
    let most : c.steps.n ≤ 1000 = omega arith in
    let same : 1000 ≡ c.steps.n = omega arith in
    same ∙ some-end h (length h) c.args.id.now c.steps.n past (c.steps.invariant h s)
