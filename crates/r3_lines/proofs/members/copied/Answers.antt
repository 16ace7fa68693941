use Rattle.std.proofs.Common.{◌≡◌, ℕ, true, List, sym, subst, ◌∙◌}
use Rattle.std.specs.Prelude.{IsTrue}
use Rattle.std.specs.Str.{is_utf8}
use Rattle.std.proofs.lemmas.Str.{is_utf8-from_IsUtf8}
use Rattle.r3_model.specs.Fits.{IsText}
use Rattle.r3_lines.proofs.members.copied.Goals as goal

pub returns-clause-utf8 : goal.returns-clause-utf8
returns-clause-utf8 c =
    let h : is_utf8 c.args.text.now ≡ true = is_utf8-from_IsUtf8 _ c.utf8.text in
    let utf8 : IsTrue (is_utf8 c.args.text.now) = cc in
    subst (λ (s : List ℕ). IsText s) (sym (c.from_string.ensures ∙ c.in_ok-copy.ensures.ok)) utf8
