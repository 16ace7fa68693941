use Rattle.std.proofs.Common.{rules, ◌≡◌, ◌+◌, ◌++◌, [], ◌∷◌, List, pos, sym, subst}
use Rattle.r3_value.specs.declared.value.Val.{Val}
use Rattle.r3_value.specs.declared.value.Val.TheVariants as vals
use Rattle.r3_model.specs.Language.{Text}
use Rattle.r3_gen.proofs.Counting.{AccountRows, rows-next}
use Rattle.r3_gen.proofs.lines.rows.Goals as goal

pub accounts-preserved : goal.accounts-preserved
accounts-preserved c =
    let pushed : c.push.new.self.items ≡ c.accounts.rows.items ++ (c.in_ok-account.field-0, vals.Int (pos 1000)) ∷ [] = search rules in
    subst (λ (rs : List (Text × Val)). AccountRows rs (c.accounts.i + 1)) (sym pushed)
    (rows-next c.accounts.rows.items c.accounts.i c.in_ok-account.field-0 c.in_ok-account.ensures.key c.in_ok-account.ensures.kept (search rules) c.accounts.invariant)
