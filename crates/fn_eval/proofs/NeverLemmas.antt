-- No call answers that a run is stuck where the law says that it has an end.
use Rattle.std.proofs.Common.{◌≡◌, ℕ, List, Result, Err, sym, subst}
use Rattle.r3_value.specs.declared.value.Val.{Val}
use Rattle.fn_tree.specs.declared.program.Item.{Item}
use Rattle.fn_tree.specs.Evaluation.{End}
use Rattle.fn_tree.specs.NeverStuck.{HasEnd}
use Rattle.fn_eval.specs.declared.halt.Halt.{Halt}
use Rattle.fn_eval.specs.declared.halt.Halt.TheVariants.{Stuck}
use Rattle.fn_eval.specs.Ends.{EndsAs}

pub never : (meaning : List Item → End Val) (items program : List Item) → items ≡ program → (after : ℕ) (r : Result (Val × ℕ) Halt) → r ≡ Err Stuck → EndsAs r (meaning items) after → HasEnd (meaning program) → ⊥
never meaning items program same after r is end has =
    let stuck = subst (λ s. EndsAs s (meaning items) after) is end in
    subst HasEnd stuck (subst (λ p. HasEnd (meaning p)) (sym same) has)
