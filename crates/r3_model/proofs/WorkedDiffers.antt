-- Worked cases that break a definition: a history that was changed by hand, events that don't fit, and a program's own functions.
use Rattle.std.proofs.Common.{◌≡◌, ℕ, List, [], ◌∷◌, Option, Some, None, refl, ap, pos, arith}
use Rattle.std.specs.Prelude.{codes, slice_get, true, false, option_and_then}
use Rattle.r3_value.specs.declared.value.Val.TheVariants.{Int}
use Rattle.r3_value.specs.declared.value.Outcome.{Outcome}
use Rattle.r3_value.specs.declared.value.Outcome.TheVariants as outcomes
use Rattle.r3_rows.specs.declared.rows.Read.TheVariants.{At}
use Rattle.r3_rows.specs.declared.rows.StepKind.TheVariants as kinds
use Rattle.r3_rows.specs.declared.rows.StepRow.{StepRow}
use Rattle.r3_entry.specs.declared.entry.Act.TheVariants as acts
use Rattle.r3_entry.specs.declared.entry.Entry.{Entry}
use Rattle.fn_tree.specs.declared.program.Item.TheVariants as items
use Rattle.r3_model.specs.Event.{Append}
use Rattle.r3_model.specs.Fits.{Fits}
use Rattle.r3_model.specs.Functions.{language_of}
use Rattle.r3_model.specs.Language.{Language}
use Rattle.r3_model.specs.Schedule.{step_written}
use Rattle.r3_model.specs.Verdict.{Differs, IsVerdict}
use Rattle.r3_model.proofs.Bank.{bank}
use Rattle.r3_model.proofs.WorkedReplay.{int, m1, history, plain, row, step_row, args_m1}

-- the transaction's step says 4 where its body gave 3
abbrev changed : List Entry
changed = elim history [
  | [] ↦ []
  | p ∷ more ↦ elim more [
    | [] ↦ []
    | l ∷ rest ↦ elim rest [
      | [] ↦ []
      | s ∷ after ↦ p ∷ l ∷ s ∷ record {
        act = acts.Txn m1 0 args_m1;
        snap = 3;
        reads = At (codes "acct") (codes "a") 2 ∷ At (codes "acct") (codes "b") 2 ∷ [];
        writes = row (codes "a") (pos 7) ∷ row (codes "b") (pos 8) ∷ step_row m1 0 (codes "pay") kinds.Txn (int 4) ∷ [];
      } ∷ []
    ]
  ]
]

abbrev number_in : Outcome → ℕ
number_in (outcomes.Value (Int (pos n))) = n
number_in o = 0

abbrev told_by : Option StepRow → ℕ
told_by None = 0
told_by (Some r) = number_in r.outcome

abbrev told : Option Entry → ℕ
told None = 0
told (Some e) = told_by (step_written e m1 0)

it_differs : IsVerdict bank changed (Differs 4)
it_differs = (3, refl, record { before = refl; here = λ same. let z : 3 ≡ 4 = ap told same in absurd (omega (arith, z)) })

-- no program comes second
a_second_program : Fits changed (Append (codes "table t;")) → ⊥
a_second_program fits = let z : changed ≡ [] = fits.0 in cc

-- ---- a program's own functions

abbrev small : Language
small = language_of (items.Table (codes "acct") ∷ items.Queue (codes "mail") 1 ∷ items.Flow (codes "f") (codes "x" ∷ []) [] ∷ [])

it_has_its_table : (small.has_table (codes "acct") ≡ true) × (small.has_table (codes "mail") ≡ false)
it_has_its_table = (refl, refl)

its_queues : small.queues ≡ record { name = codes "mail"; bound = 1 } ∷ []
its_queues = refl

its_arities : (small.arity (codes "f") ≡ Some 1) × (small.arity (codes "acct") ≡ None)
its_arities = (refl, refl)
