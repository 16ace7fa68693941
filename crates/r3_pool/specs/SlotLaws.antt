-- What stands in the slots after one of them is set.
use Rattle.std.specs.Prelude.{◌≡◌, ◌≢◌, ℕ, ◌≤◌, suc, zero, List, [], ◌∷◌, length, Option, None, slice_index_or, refl}
use Rattle.std.proofs.Common.{ap, arith}
use Rattle.r3_pool.specs.Slots.{set_cell}

module _ {T : Type 0} where
  -- the cell that is set
  pub set_cell_here : (cells : List (Option T)) (s : ℕ) (c : Option T) → s ≤ length cells → slice_index_or (set_cell cells s c) s None ≡ c
  set_cell_here [] zero c le = refl
  set_cell_here [] (suc s) c le = absurd (omega arith)
  set_cell_here (x ∷ xs) zero c le = refl
  set_cell_here (x ∷ xs) (suc s) c le = set_cell_here xs s c (omega arith)

  -- and the others
  pub set_cell_other : (cells : List (Option T)) (s t : ℕ) (c : Option T) → s ≤ length cells → t ≢ s → slice_index_or (set_cell cells s c) t None ≡ slice_index_or cells t None
  set_cell_other [] zero zero c le ne = absurd (ne refl)
  set_cell_other [] zero (suc t) c le ne = refl
  set_cell_other [] (suc s) t c le ne = absurd (omega arith)
  set_cell_other (x ∷ xs) zero zero c le ne = absurd (ne refl)
  set_cell_other (x ∷ xs) zero (suc t) c le ne = refl
  set_cell_other (x ∷ xs) (suc s) zero c le ne = refl
  set_cell_other (x ∷ xs) (suc s) (suc t) c le ne = set_cell_other xs s t c (omega arith) (λ e. ne (ap suc e))
