-- Worked cases of retroaction: two orders with a changed transaction, and the counts of the report.
use Rattle.std.proofs.Common.{◌≡◌, Bool, not, List, [], ◌∷◌, map, length, Some, refl}
use Rattle.std.specs.Prelude.{codes, bytes_eq, count_by}
use Rattle.r3_value.specs.declared.value.Outcome.{Outcome}
use Rattle.r3_value.specs.declared.value.Outcome.TheVariants as outcomes
use Rattle.r3_model.specs.Language.{Text}
use Rattle.r3_model.specs.Event.{Call}
use Rattle.r3_model.specs.Run.{Trail}
use Rattle.r3_model.specs.Retro.{Order, Recorded, Given, retroacted}
use Rattle.r3_model.specs.Copied.{is_copied}
use Rattle.r3_model.specs.Report.{Absent, Ended, standing_in, row_in}
use Rattle.r3_model.proofs.Bank.{fee}
use Rattle.r3_model.proofs.WorkedReplay.{int, txt, m1, d1, requests}

abbrev pub stubs : List (Text × Outcome)
stubs = (codes "notify", outcomes.Value (txt (codes "stub"))) ∷ []

-- the whole run with the changed functions, last drain and all
abbrev pub changed : Order → Trail
changed order = retroacted fee (codes "fee") requests order stubs

recorded-m1 : standing_in (changed Recorded).state.history m1 ≡ Ended (outcomes.Value (int 2))
recorded-m1 = refl

recorded-b : row_in (changed Recorded).state.history (codes "acct") (codes "b") ≡ Some (int 7)
recorded-b = refl

recorded-call : map (λ (c : Call). c.answer) (changed Recorded).calls ≡ Some (outcomes.Value (txt (codes "stub"))) ∷ []
recorded-call = refl

abbrev pub is_unchanged : Text → Bool
is_unchanged name = not (bytes_eq name (codes "pay"))

recorded-counts : (length (changed Recorded).bodies ≡ 2) × (count_by (λ b. not (is_copied is_unchanged requests b)) (changed Recorded).bodies ≡ 1) × (length (changed Recorded).state.history ≡ 9)
recorded-counts = (refl, refl, refl)

-- with d1 alone
given-counts : (length (changed (Given (d1 ∷ []))).bodies ≡ 1) × (count_by (λ b. not (is_copied is_unchanged requests b)) (changed (Given (d1 ∷ []))).bodies ≡ 0) × (length (changed (Given (d1 ∷ []))).state.history ≡ 5)
given-counts = (refl, refl, refl)

given-m1 : standing_in (changed (Given (d1 ∷ []))).state.history m1 ≡ Absent
given-m1 = refl
