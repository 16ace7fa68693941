use Rattle.std.proofs.Common.{◌≡◌, ◌≤◌, true, List, ℕ, length, sym, subst, arith}
use Rattle.std.specs.Prelude.{IsTrue}
use Rattle.std.specs.Str.{is_utf8}
use Rattle.std.proofs.lemmas.Str.{is_utf8-from_IsUtf8}
use Rattle.std.proofs.lemmas.Bool.Decides.{nat_tests}
use Rattle.r3_entry.specs.Limits.{IsSized}
use Rattle.r3_worked.proofs.events.row_of.Goals as goal

pub returns-in-Ok : goal.returns-in-Ok
returns-in-Ok c =
    let some : 1 ≤ length c.args.key.now = grind (arith, nat_tests) in
    let h : is_utf8 c.args.key.now ≡ true = is_utf8-from_IsUtf8 _ c.utf8.key in
    let utf8 : IsTrue (is_utf8 c.args.key.now) = cc in
    (subst (λ (s : List ℕ). IsSized 1 256 s) (sym c.in-Ok.ensures.made.0) (record { long = some; short = c.if-key-gt256.false; utf8 = utf8 }), c.weight-weight.ensures.value)
