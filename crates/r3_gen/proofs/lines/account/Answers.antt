use Rattle.std.proofs.Common.{rules, arith, ◌≡◌, ℕ, suc, ◌≤◌, ◌++◌, List, length, codes, decimal, IsTrue, sym, ap, subst}
use Rattle.std.specs.Str.{is_utf8}
use Rattle.std.proofs.lemmas.Str.{is_utf8-from_IsUtf8}
use Rattle.std.proofs.lemmas.Fmt.{length-decimal-le}
use Rattle.r3_gen.proofs.lines.account.Goals as goal

pub returns-in-Ok-clause-kept : goal.returns-in-Ok-clause-kept
returns-in-Ok-clause-kept c =
    let is : c.in-Ok.text ≡ codes "a" ++ decimal c.args.i = search rules in
    let len : length c.in-Ok.text ≡ suc (length (decimal c.args.i)) = ap (λ (t : List ℕ). length t) is in
    let few : length (decimal c.args.i) ≤ 10 = length-decimal-le 10 c.args.i (omega arith) (omega arith) (omega arith) in
    let same : c.in-Ok.text ≡ c.as_str.result.now = c.in-Ok.ensures.made.0 in
    let utf8 : IsTrue (is_utf8 c.as_str.result.now) = is_utf8-from_IsUtf8 c.as_str.result.now c.as_str.utf8 in
    record {
      long = omega (arith, len);
      short = omega (arith, len, few);
      utf8 = subst (λ (t : List ℕ). IsTrue (is_utf8 t)) (sym same) utf8;
    }
