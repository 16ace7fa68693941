use Rattle.std.proofs.Common.{rules, arith, ◌≡◌, ◌∙◌, ℕ, ℤ, ◌+ℤ◌, FitsSigned, to_z, of_z, to_z-of_z, sym, ap}
use Rattle.std.specs.Int.{w64, w128}
use Rattle.std.proofs.lemmas.Int.{ints}
use Rattle.r3_gen.proofs.Counting.{total_of, total-next}
use Rattle.r3_gen.proofs.summary.total.Goals as goal

pub overflow_add-sum : goal.overflow_add-sum
overflow_add-sum c =
    let fits : FitsSigned w64 c.in_ok-amount_of.field-0 = search rules in
    omega (arith, ints, fits, c.from.ensures, c.accounts.invariant.low, c.accounts.invariant.high)

pub accounts-preserved : goal.accounts-preserved
accounts-preserved c =
    let fits : FitsSigned w64 c.in_ok-amount_of.field-0 = search rules in
    let over : FitsSigned w128 (to_z w128 c.accounts.sum-bits +ℤ to_z w128 (of_z w128 c.from.result)) =
    omega (arith, ints, fits, c.from.ensures, c.accounts.invariant.low, c.accounts.invariant.high) in
    let same : to_z w128 (of_z w128 c.from.result) ≡ c.in_ok-amount_of.field-0 = omega (arith, ints, fits, c.from.ensures) in
    record {
      is = λ st s.
          to_z-of_z over
          ∙ ap (λ (z : ℤ). to_z w128 c.accounts.sum-bits +ℤ z) same
          ∙ ap (λ (z : ℤ). z +ℤ c.in_ok-amount_of.field-0) (c.accounts.invariant.is st s)
          ∙ ap (λ (z : ℤ). total_of st.history c.accounts.i +ℤ z) (c.in_ok-amount_of.ensures st s)
          ∙ sym (total-next st.history c.accounts.i);
      low = omega (arith, ints, fits, c.from.ensures, c.accounts.invariant.low, c.accounts.invariant.high);
      high = omega (arith, ints, fits, c.from.ensures, c.accounts.invariant.low, c.accounts.invariant.high);
    }

pub returns : goal.returns
returns c = λ st s.
    let last : c.accounts.i ≡ 64 = omega arith in
    c.accounts.invariant.is st s ∙ ap (λ (n : ℕ). total_of st.history n) last
