use Rattle.std.proofs.Common.{◌≡◌, true, ap, sym, subst, ◌∙◌, Err}
use Rattle.fn_tree.specs.Evaluation.{names_of}
use Rattle.fn_tree.specs.Expression.{evaluated, calls_of}
use Rattle.fn_tree.specs.Soundness.{expr_is_sound}
use Rattle.fn_eval.proofs.NeverLemmas.{never}
use Rattle.fn_eval.proofs.evaluation.eval.Goals as goal

pub unreachable-requires : goal.unreachable-requires
unreachable-requires g c =
    let fits = subst (λ names. expr_is_sound c.args.program.now c.args.expr.now (names_of names) ≡ true) (sym c.as_slice-2.ensures.value) c.requires.sound in
    never (λ items. evaluated (calls_of items) c.args.expr.now c.as_slice-2.result.now c.args.units c.args.steps.now) c.as_slice.result.now c.args.program.now (c.as_slice.ensures.value ∙ c.program.ensures.items) c.evaluate.new.steps
    c.evaluate.result (c.in-Err-Stuck.is ∙ ap Err c.in-Err-Stuck.field-0-is) c.evaluate.ensures
    (c.sound_is_never_stuck.ensures.expressions c.args.program.now c.args.expr.now c.as_slice-2.result.now c.args.units c.args.steps.now c.program.ensures.sound fits)
