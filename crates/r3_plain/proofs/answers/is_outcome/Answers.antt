use Rattle.std.proofs.Common.{◌≡◌, List, ℕ, true, arith, sym, subst}
use Rattle.std.specs.Prelude.{IsTrue}
use Rattle.std.specs.Str.{is_utf8}
use Rattle.std.proofs.lemmas.Str.{is_utf8-from_IsUtf8}
use Rattle.r3_entry.specs.Limits.{IsOutcome, IsAnyText}
use Rattle.r3_plain.proofs.answers.is_outcome.Goals as goal

pub returns-in-Failure : goal.returns-in-Failure
returns-in-Failure c =
    let h : is_utf8 c.as_str.result.now ≡ true = is_utf8-from_IsUtf8 _ c.as_str.utf8 in
    let u : IsTrue (is_utf8 c.as_str.result.now) = cc in
    let text : IsAnyText c.in-Failure.word = record {
      long = omega arith;
      short = c.as_str.ensures.short;
      utf8 = subst (λ (s : List ℕ). IsTrue (is_utf8 s)) c.as_str.ensures.text u;
    } in
    subst IsOutcome (sym c.in-Failure.is) text
