use Rattle.std.proofs.Common.{◌≡◌, List, length, sym, ap, ◌∙◌}
use Rattle.r3_value.specs.declared.value.Val.{Val}
use Rattle.r3_value.specs.declared.value.Val.TheVariants as vals
use Rattle.r3_value.specs.Value.{Items}
use Rattle.r3_value.specs.View.{items_of}
use Rattle.r3_bytes.specs.Spelling.{count}
use Rattle.r3_bytes.proofs.Written.{count-items_of}
use Rattle.r3_model.specs.Commands.{args_count}
use Rattle.r3_commands.proofs.calls.args_count.Goals as goal

counted : (v : Val) (vs : Items) (xs : List Val) → v ≡ vals.List vs → items_of xs ≡ vs → length xs ≡ args_count v
counted v vs xs is same =
    sym (ap (λ (x : Val). args_count x) is ∙ ap (λ (x : Items). count x) (sym same) ∙ count-items_of xs)

pub returns-in-List : goal.returns-in-List
returns-in-List c = counted c.args.args.now _ c.items.result.now c.in-List.is c.items.ensures.items
