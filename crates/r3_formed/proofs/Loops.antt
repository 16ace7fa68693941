-- A loop that tests each element.
use Rattle.std.proofs.Common.{◌≡◌, ℕ, ◌+◌, ◌<◌, List, [], ◌∷◌, length, take, get_or, subst, arith, zero, suc}
use Rattle.std.specs.List.{AllByRecursion}

module _ {X : Type 0} (P : X → Type 0) where
  all_more : (xs : List X) (i : ℕ) (x : X) → i < length xs → x ≡ get_or xs i x → AllByRecursion P (take i xs) → P x → AllByRecursion P (take (suc i) xs)
  all_more [] i x within is all p = absurd (omega arith)
  all_more (y ∷ xs) zero x within is all p = (subst P is p, tt)
  all_more (y ∷ xs) (suc i) x within is all p = (all.0, all_more xs i x (omega (arith, within)) is all.1 p)

  pub all_next : (xs : List X) (i : ℕ) (x : X) → i < length xs → x ≡ get_or xs i x → AllByRecursion P (take i xs) → P x → AllByRecursion P (take (i + 1) xs)
  all_next xs i x within is all p = subst (λ (n : ℕ). AllByRecursion P (take n xs)) (let same : suc i ≡ i + 1 = omega arith in same) (all_more xs i x within is all p)
