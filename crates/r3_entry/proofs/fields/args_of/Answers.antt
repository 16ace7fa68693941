use Rattle.r3_entry.proofs.Parts.{not_args}
use Rattle.r3_entry.proofs.fields.args_of.Goals as goal

pub returns-then-not-are_args : goal.returns-then-not-are_args
returns-then-not-are_args c =
    not_args c.in_ok-value.value c.args.r.now.rest c.val_of.new.r.rest c.in_ok-value.ensures.0 c.in_ok-value.ensures.1 (λ a. let yes = c.are_args.ensures.1 a in cc)
