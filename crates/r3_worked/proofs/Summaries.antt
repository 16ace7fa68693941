-- Worked cases of the generator's summary: amounts, workflows that succeeded, and the sum of the accounts.
use Rattle.std.proofs.Common.{◌≡◌, ℕ, pos, negsuc, List, [], ◌∷◌, ◌++◌, Option, Some, None, refl}
use Rattle.std.specs.Prelude.{codes}
use Rattle.std.specs.Fmt.{digits}
use Rattle.serde_json.specs.Data.{Data, unsigned, negative, number, object, no_members, member}
use Rattle.r3_value.specs.declared.value.Val.TheVariants.{Null, Int, Text as TextVal}
use Rattle.r3_value.specs.declared.value.Outcome.{Outcome}
use Rattle.r3_value.specs.declared.value.Outcome.TheVariants as outcomes
use Rattle.r3_rows.specs.declared.rows.Key.{Key}
use Rattle.r3_rows.specs.declared.rows.Key.TheVariants as keys
use Rattle.r3_rows.specs.declared.rows.Cell.{Cell}
use Rattle.r3_rows.specs.declared.rows.Cell.TheVariants as cells
use Rattle.r3_rows.specs.declared.rows.Status.{Status}
use Rattle.r3_rows.specs.declared.rows.Status.TheVariants.{Enqueued, Pending, Success, Error, Cancelled, MaxRecoveryAttemptsExceeded}
use Rattle.r3_entry.specs.declared.entry.Act.TheVariants as acts
use Rattle.r3_entry.specs.declared.entry.Entry.{Entry}
use Rattle.r3_model.specs.Language.{Text}
use Rattle.r3_model.specs.Generator.{amount, successes, total, summary}
use Rattle.r3_model.proofs.WorkedReplay.{int, plain, flow, row, args_m1}

-- ---- the amount of a row

amounts : (amount (Some (Int (pos 7))) ≡ pos 7) × (amount (Some (Int (negsuc 1))) ≡ negsuc 1)
amounts = (refl, refl)

-- no row, and rows that are no Int
no_amount : (amount None ≡ pos 0) × (amount (Some Null) ≡ pos 0) × (amount (Some (TextVal (codes "7"))) ≡ pos 0)
no_amount = (refl, refl, refl)

-- ---- the workflows g0, g1 and so on

abbrev stands : Text → Status → Option Outcome → Key × Option Cell
stands id s o = flow id (codes "send") args_m1 s 1 o

abbrev six : List Entry
six = plain 0 acts.Load (
    stands (codes "g0") Success (Some (outcomes.Value (int 1)))
    ∷ stands (codes "g1") Error (Some (outcomes.Failure (codes "short")))
    ∷ stands (codes "g2") Success (Some (outcomes.Value (int 2)))
    ∷ stands (codes "g3") Pending None ∷ stands (codes "g4") Enqueued None ∷ stands (codes "g5") Cancelled None
    ∷ stands (codes "g6") MaxRecoveryAttemptsExceeded None ∷ stands (codes "g7") Success (Some (outcomes.Value (int 7)))
    ∷ stands (codes "h0") Success (Some (outcomes.Value (int 9))) ∷ []) ∷ []

-- g0 and g2; g7 isn't one of the first seven, and g8 isn't there
successes_of_so_many : (successes six 0 ≡ 0) × (successes six 1 ≡ 1) × (successes six 7 ≡ 2) × (successes six 9 ≡ 3)
unfolding digits
successes_of_so_many = (refl, refl, refl, refl)

-- ---- the accounts a0 to a63

abbrev words_at : Text → Text → Key × Option Cell
words_at table key = (keys.User table key, Some (cells.Row (TextVal (codes "7"))))

abbrev accounts : List Entry
accounts =
    plain 0 (acts.Program (codes "gen")) []
    ∷ plain 1 acts.Load (row (codes "a0") (pos 1000) ∷ row (codes "a1") (pos 5) ∷ words_at (codes "acct") (codes "a2") ∷ row (codes "a63") (pos 7) ∷ row (codes "a64") (pos 100) ∷ row (codes "b0") (pos 100) ∷ [])
    ∷ []

-- a2 is no Int, and neither a64 nor b0 is one of the accounts
a_total : total accounts ≡ pos 1012
unfolding digits
a_total = refl

-- the last value of a row counts, also one below 0
a_total_after_a_transfer : total (accounts ++ plain 2 acts.Load (row (codes "a1") (negsuc 1) ∷ row (codes "a2") (pos 3) ∷ []) ∷ []) ≡ pos 1008
unfolding digits
a_total_after_a_transfer = refl

no_total : total [] ≡ pos 0
unfolding digits
no_total = refl

-- ---- the summary

abbrev told : ℕ → ℕ → Data → Data
told entries success sum = object (member (codes "entries") (number (unsigned entries)) (member (codes "success") (number (unsigned success)) (member (codes "sum") sum no_members)))

a_summary : summary (accounts ++ six) 3 ≡ told 3 2 (number (unsigned 1012))
unfolding digits
a_summary = refl

a_summary_of_nothing : summary [] 0 ≡ told 0 0 (number (unsigned 0))
unfolding digits
a_summary_of_nothing = refl

-- a sum below 0
a_summary_of_a_debt : summary (plain 0 acts.Load (row (codes "a0") (negsuc 1) ∷ []) ∷ []) 0 ≡ told 1 0 (number (negative (negsuc 1)))
unfolding digits
a_summary_of_a_debt = refl
