use Rattle.std.proofs.Common.{◌≡◌, ◌≤◌, true, List, ℕ, length, sym, subst, arith, ◌∙◌}
use Rattle.std.specs.Prelude.{IsTrue}
use Rattle.std.specs.Str.{is_utf8}
use Rattle.std.proofs.lemmas.Str.{is_utf8-from_IsUtf8}
use Rattle.std.proofs.lemmas.Bool.Decides.{nat_tests}
use Rattle.r3_entry.specs.Limits.{IsSized}
use Rattle.r3_worked.proofs.events.name_of.Goals as goal

pub returns : goal.returns
returns c =
    let some : 1 ≤ length c.args.word.now = grind (arith, nat_tests) in
    let h : is_utf8 c.args.word.now ≡ true = is_utf8-from_IsUtf8 _ c.utf8.word in
    let utf8 : IsTrue (is_utf8 c.args.word.now) = cc in
    subst (λ (s : List ℕ). IsSized 1 64 s) (sym (c.from_string-text.ensures ∙ c.in_ok-copy.ensures.ok))
    (record { long = some; short = c.if-word-gt64.false; utf8 = utf8 })
