-- The recorded steps of a workflow, one after another.
use Rattle.std.proofs.Common.{◌≡◌, ℕ, zero, suc, ◌+◌, ◌-◌, ◌≤◌, ◌<◌, List, [], ◌∷◌, ◌++◌, length, take, Option, Some, None, refl, sym, subst, ap, ◌∙◌, append_assoc, arith}
use Rattle.std.proofs.lemmas.List.{append-nil}
use Rattle.r3_rows.specs.declared.rows.StepRow.{StepRow}
use Rattle.r3_entry.specs.declared.entry.Entry.{Entry}
use Rattle.r3_model.specs.Language.{Text}
use Rattle.r3_model.specs.Rows.{step_at, steps_from, steps_at}

-- the rows are the first n recorded steps, of which at most so many are wanted
pub record AreFirst (h : List Entry) (k : ℕ) (id : Text) (below n : ℕ) (rows : List StepRow) : Type 0 where
  pub same : take below (steps_at h k id) ≡ rows ++ take (below - n) (steps_from h k (1000 - n) id n)

-- at least n steps are recorded
pub record AreSome (h : List Entry) (k : ℕ) (id : Text) (n : ℕ) : Type 0 where
  pub same : length (steps_at h k id) ≡ n + length (steps_from h k (1000 - n) id n)

module _ (h : List Entry) (k : ℕ) (id : Text) where
  abbrev by_row : ℕ → ℕ → Option StepRow → List StepRow
  by_row left n o = elim o [ Some r ↦ r ∷ steps_from h k left id (n + 1) | None ↦ [] ]

  -- one more step, or none
  one-more : (most left n : ℕ) (o : Option StepRow) → suc left ≡ most → step_at h k id n ≡ o → steps_from h k most id n ≡ by_row left n o
  one-more most left n o most-is is =
      subst (λ (m : ℕ). steps_from h k m id n ≡ by_row left n o) most-is (ap (λ (o : Option StepRow). by_row left n o) is)

  at-end : (n : ℕ) → 1000 ≤ n → steps_from h k (1000 - n) id n ≡ []
  at-end n past = let none : 0 ≡ 1000 - n = omega arith in subst (λ (m : ℕ). steps_from h k m id n ≡ []) none refl

  abbrev no-rows : List StepRow
  no-rows = []

  take-none : (m : ℕ) → take m no-rows ≡ []
  take-none zero = refl
  take-none (suc m) = refl

  pub first-begins : (below : ℕ) → AreFirst h k id below 0 []
  first-begins below = let all : below ≡ below - 0 = omega arith in record { same = ap (λ (m : ℕ). take m (steps_at h k id)) all }

  pub first-more : (below n : ℕ) (rows : List StepRow) (r : StepRow) → n < 1000 → n < below → step_at h k id n ≡ Some r
      → AreFirst h k id below n rows → AreFirst h k id below (n + 1) (rows ++ r ∷ [])
  first-more below n rows r few wanted is so_far =
      let left : suc (1000 - (n + 1)) ≡ 1000 - n = omega arith in
      let more : below - n ≡ suc (below - (n + 1)) = omega arith in
      record {
        same = so_far.same
            ∙ ap (λ (x : List StepRow). rows ++ take (below - n) x) (one-more (1000 - n) (1000 - (n + 1)) n (Some r) left is)
            ∙ ap (λ (m : ℕ). rows ++ take m (r ∷ steps_from h k (1000 - (n + 1)) id (n + 1))) more
            ∙ sym (append_assoc rows (r ∷ []) (take (below - (n + 1)) (steps_from h k (1000 - (n + 1)) id (n + 1))));
      }

  closes : (below n m : ℕ) (rows rest : List StepRow) → AreFirst h k id below n rows → steps_from h k (1000 - n) id n ≡ rest → take (below - n) rest ≡ [] → rows ≡ take below (steps_at h k id)
  closes below n m rows rest so_far is none =
      sym (so_far.same ∙ ap (λ (x : List StepRow). rows ++ take (below - n) x) is ∙ ap (λ (x : List StepRow). rows ++ x) none ∙ append-nil rows)

  pub first-ends : (below n : ℕ) (rows : List StepRow) → 1000 ≤ n → AreFirst h k id below n rows → rows ≡ take below (steps_at h k id)
  first-ends below n rows past so_far = closes below n 0 rows [] so_far (at-end n past) (take-none (below - n))

  pub first-stops : (below n : ℕ) (rows : List StepRow) → n < 1000 → step_at h k id n ≡ None → AreFirst h k id below n rows → rows ≡ take below (steps_at h k id)
  first-stops below n rows few is so_far =
      let left : suc (1000 - (n + 1)) ≡ 1000 - n = omega arith in
      closes below n 0 rows [] so_far (one-more (1000 - n) (1000 - (n + 1)) n None left is) (take-none (below - n))

  pub first-enough : (below n : ℕ) (rows : List StepRow) → below ≤ n → AreFirst h k id below n rows → rows ≡ take below (steps_at h k id)
  first-enough below n rows enough so_far =
      let none : 0 ≡ below - n = omega arith in
      closes below n 0 rows (steps_from h k (1000 - n) id n) so_far refl (subst (λ (m : ℕ). take m (steps_from h k (1000 - n) id n) ≡ []) none refl)

  -- all of them are 1,000 at most
  all-taken : (most n : ℕ) (o : Option StepRow) → take most (steps_from h k most id (n + 1)) ≡ steps_from h k most id (n + 1)
      → take (suc most) (by_row most n o) ≡ by_row most n o
  all-taken most n None rest = refl
  all-taken most n (Some r) rest = ap (λ (x : List StepRow). r ∷ x) rest

  take-steps : (most n : ℕ) → take most (steps_from h k most id n) ≡ steps_from h k most id n
  take-steps zero n = refl
  take-steps (suc most) n = all-taken most n (step_at h k id n) (take-steps most (n + 1))

  pub first-all : take 1000 (steps_at h k id) ≡ steps_at h k id
  first-all = take-steps 1000 0

  pub some-begin : AreSome h k id 0
  some-begin = record { same = omega arith }

  pub some-more : (n : ℕ) (r : StepRow) → n < 1000 → step_at h k id n ≡ Some r → AreSome h k id n → AreSome h k id (n + 1)
  some-more n r few is so_far =
      let left : suc (1000 - (n + 1)) ≡ 1000 - n = omega arith in
      let more : length (steps_from h k (1000 - n) id n) ≡ length (r ∷ steps_from h k (1000 - (n + 1)) id (n + 1)) =
      ap (λ (x : List StepRow). length x) (one-more (1000 - n) (1000 - (n + 1)) n (Some r) left is) in
      record { same = omega (arith, so_far.same, more) }

  pub some-end : (n : ℕ) → 1000 ≤ n → AreSome h k id n → n ≡ length (steps_at h k id)
  some-end n past so_far =
      let none : length (steps_from h k (1000 - n) id n) ≡ length no-rows = ap (λ (x : List StepRow). length x) (at-end n past) in
      omega (arith, so_far.same, none)

  pub some-stop : (n : ℕ) → n < 1000 → step_at h k id n ≡ None → AreSome h k id n → n ≡ length (steps_at h k id)
  some-stop n few is so_far =
      let left : suc (1000 - (n + 1)) ≡ 1000 - n = omega arith in
      let none : length (steps_from h k (1000 - n) id n) ≡ length no-rows =
      ap (λ (x : List StepRow). length x) (one-more (1000 - n) (1000 - (n + 1)) n None left is) in
      omega (arith, so_far.same, none)
