-- The recorded steps of a workflow, and what one more entry makes of them.
use Rattle.std.proofs.Common.{◌≡◌, ℕ, suc, zero, ◌+◌, ◌≤◌, List, [], ◌∷◌, length, Option, Some, None, refl, ap, ◌∙◌, arith}
use Rattle.std.specs.Prelude.{slice_get}
use Rattle.r3_rows.specs.declared.rows.FlowRow.{FlowRow}
use Rattle.r3_rows.specs.declared.rows.StepRow.{StepRow}
use Rattle.r3_entry.specs.declared.entry.Entry.{Entry}
use Rattle.r3_model.specs.Language.{Text, Language}
use Rattle.r3_model.specs.Rows.{flow_at, step_at, steps_from, steps_at}
use Rattle.r3_laws.proofs.Frame.{from_row}
use Rattle.r3_laws.proofs.Expected.{Expected}

pub record Told (P : Language) (h : List Entry) (id : Text) : Type 0 where
  pub steps : List StepRow
  pub few : length steps ≤ 1000
  pub are : (n : ℕ) → step_at h (length h) id n ≡ slice_get steps n
  -- no workflow, no steps
  pub fresh : flow_at h (length h) id ≡ None → steps ≡ []
  pub asked : (row : FlowRow) → flow_at h (length h) id ≡ Some row → Expected P row.function row.args steps

-- ---- the recorded steps are these

module _ (h : List Entry) (k : ℕ) (id : Text) where
  later_are : (n : ℕ) (r : StepRow) (rs : List StepRow) → ((j : ℕ) → step_at h k id (n + j) ≡ slice_get (r ∷ rs) j) → (j : ℕ) → step_at h k id ((n + 1) + j) ≡ slice_get rs j
  later_are n r rs are j = let z : (n + 1) + j ≡ n + suc j = omega arith in ap (λ (m : ℕ). step_at h k id m) z ∙ are (suc j)

  first_is : (n : ℕ) (steps : List StepRow) → ((j : ℕ) → step_at h k id (n + j) ≡ slice_get steps j) → step_at h k id n ≡ slice_get steps 0
  first_is n steps are = let z : n ≡ n + 0 = omega arith in ap (λ (m : ℕ). step_at h k id m) z ∙ are 0

  steps_from-are : (most n : ℕ) (steps : List StepRow) → ((j : ℕ) → step_at h k id (n + j) ≡ slice_get steps j) → length steps ≤ most → steps_from h k most id n ≡ steps
  steps_from-are zero n [] are few = refl
  steps_from-are zero n (r ∷ rs) are few = absurd (omega arith)
  steps_from-are (suc most) n [] are few = ap (λ (o : Option StepRow). from_row o (steps_from h k most id (n + 1))) (first_is n [] are)
  steps_from-are (suc most) n (r ∷ rs) are few =
      ap (λ (o : Option StepRow). from_row o (steps_from h k most id (n + 1))) (first_is n (r ∷ rs) are)
      ∙ ap (λ (more : List StepRow). r ∷ more) (steps_from-are most (n + 1) rs (later_are n r rs are) (omega arith))

pub told-steps : (P : Language) (h : List Entry) (id : Text) (t : Told P h id) → steps_at h (length h) id ≡ t.steps
told-steps P h id t =
    steps_from-are h (length h) id 1000 0 t.steps (λ j. let z : 0 + j ≡ j = omega arith in ap (λ (m : ℕ). step_at h (length h) id m) z ∙ t.are j) t.few
