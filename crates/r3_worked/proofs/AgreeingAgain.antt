-- Worked cases of made entries: a resume, a fork and a recovery that agree, and others that differ in one thing; so do a
-- start, a load and an outside call.
use Rattle.std.proofs.Common.{◌≡◌, ℕ, List, [], ◌∷◌, ◌++◌, length, Option, Some, None, refl, ap, pos, arith}
use Rattle.std.specs.Prelude.{codes}
use Rattle.r3_value.specs.declared.value.Val.{Val}
use Rattle.r3_value.specs.declared.value.Val.TheVariants.{Null, Int}
use Rattle.r3_value.specs.declared.value.Outcome.TheVariants as outcomes
use Rattle.r3_rows.specs.declared.rows.Key.{Key}
use Rattle.r3_rows.specs.declared.rows.Cell.{Cell}
use Rattle.r3_rows.specs.declared.rows.FlowRow.{FlowRow}
use Rattle.r3_rows.specs.declared.rows.StepKind.TheVariants as kinds
use Rattle.r3_rows.specs.declared.rows.StepRow.{StepRow}
use Rattle.r3_rows.specs.declared.rows.Status.TheVariants.{Pending}
use Rattle.r3_entry.specs.declared.entry.Act.TheVariants as acts
use Rattle.r3_entry.specs.declared.entry.Entry.{Entry}
use Rattle.r3_model.specs.Language.{Text}
use Rattle.r3_model.specs.Event.{Entry as EntryReply, EntryOf}
use Rattle.r3_model.specs.Given.{Given, Enters, Answers}
use Rattle.r3_model.specs.Made.{Agrees}
use Rattle.r3_model.specs.Schedule.{step_written}
use Rattle.r3_model.proofs.Bank.{bank, args2}
use Rattle.r3_model.proofs.WorkedReplay.{int, txt, m1, plain, flow, row, step_row, args_m1}
use Rattle.r3_worked.proofs.Made.{program, before, paid}
use Rattle.r3_worked.proofs.Agreeing.{sent, stands, IsAnother, enters, count_given, row_given, attempts_in, queues_in, number_in, e1, s1, waits, one_waits, one_runs, cancelled}

-- ---- a resume

abbrev resumed : ℕ → Text → FlowRow → Entry
resumed snap id r = plain snap (acts.Resume id) (stands id r ∷ [])

a_resume : Agrees bank (one_runs ++ cancelled 2 s1 (sent 2) ∷ []) (resumed 3 s1 (sent 2))
a_resume = record { reply = EntryReply 4; gives = refl; fits = refl; program = refl; below = omega arith; own = refl }

-- it was cancelled in its queue, and runs without one from then on
abbrev left_its_queue : List Entry
left_its_queue = one_waits ++ cancelled 2 e1 (waits 2) ∷ []

a_resume_out_of_a_queue : Agrees bank left_its_queue (resumed 3 e1 (sent 2))
a_resume_out_of_a_queue = record { reply = EntryReply 4; gives = refl; fits = refl; program = refl; below = omega arith; own = refl }

a_resume_that_keeps_the_queue : IsAnother left_its_queue (resumed 3 e1 (record (sent 2) { queue = Some (codes "mail") }))
a_resume_that_keeps_the_queue = ((λ a. let z : 0 ≡ 1 = ap (λ g. queues_in (row_given e1 g)) a.gives in absurd (omega (arith, z))), refl, refl, omega arith, refl)

a_resume_of_one_that_runs : IsAnother one_runs (resumed 2 s1 (sent 2))
a_resume_of_one_that_runs = ((λ a. let z : 0 ≡ 1 = ap enters a.gives in absurd (omega (arith, z))), refl, refl, omega arith, refl)

-- ---- a recovery

abbrev tried : ℕ → FlowRow
tried n = record (sent 2) { attempts = n }

abbrev recovered : ℕ → FlowRow → Entry
recovered snap r = plain snap (acts.Recover s1) (stands s1 r ∷ [])

a_recovery : Agrees bank one_runs (recovered 2 (tried 1))
a_recovery = record { reply = EntryReply 3; gives = refl; fits = refl; program = refl; below = omega arith; own = refl }

a_recovery_that_counts_nothing : IsAnother one_runs (recovered 2 (tried 0))
a_recovery_that_counts_nothing = ((λ a. let z : 1 ≡ 0 = ap (λ g. attempts_in (row_given s1 g)) a.gives in absurd (omega (arith, z))), refl, refl, omega arith, refl)

a_recovery_of_one_that_is_cancelled : IsAnother (one_runs ++ cancelled 2 s1 (sent 2) ∷ []) (recovered 3 (tried 1))
a_recovery_of_one_that_is_cancelled = ((λ a. let z : 0 ≡ 1 = ap enters a.gives in absurd (omega (arith, z))), refl, refl, omega arith, refl)

-- a resume forgets the recoveries
abbrev recovered_and_cancelled : List Entry
recovered_and_cancelled = one_runs ++ recovered 2 (tried 1) ∷ cancelled 3 s1 (tried 1) ∷ []

a_resume_after_a_recovery : Agrees bank recovered_and_cancelled (resumed 4 s1 (tried 0))
a_resume_after_a_recovery = record { reply = EntryReply 5; gives = refl; fits = refl; program = refl; below = omega arith; own = refl }

a_resume_that_keeps_the_attempts : IsAnother recovered_and_cancelled (resumed 4 s1 (tried 1))
a_resume_that_keeps_the_attempts = ((λ a. let z : 0 ≡ 1 = ap (λ g. attempts_in (row_given s1 g)) a.gives in absurd (omega (arith, z))), refl, refl, omega arith, refl)

-- ---- a fork of m1, which has one step

abbrev m2 : Text
m2 = codes "m2"

abbrev source : List Entry
source = before ++ paid 3 3 ∷ []

-- the fork keeps so many steps, and these stand in it
abbrev forked : ℕ → List (Key × Option Cell) → Entry
forked below steps = plain 4 (acts.Fork m2 m1 below) (flow m2 (codes "move") args_m1 Pending 5 None ∷ steps)

abbrev pays : ℕ → Key × Option Cell
pays n = step_row m2 0 (codes "pay") kinds.Txn (int n)

a_fork : Agrees bank source (forked 1 (pays 3 ∷ []))
a_fork = record { reply = EntryOf 5 m2; gives = refl; fits = refl; program = refl; below = omega arith; own = refl }

a_fork_from_the_start : Agrees bank source (forked 0 [])
a_fork_from_the_start = record { reply = EntryOf 5 m2; gives = refl; fits = refl; program = refl; below = omega arith; own = refl }

-- it was to keep none
a_fork_with_a_step_too_many : IsAnother source (forked 0 (pays 3 ∷ []))
a_fork_with_a_step_too_many = ((λ a. let z : 1 ≡ 2 = ap count_given a.gives in absurd (omega (arith, z))), refl, refl, omega arith, refl)

a_fork_without_its_step : IsAnother source (forked 1 [])
a_fork_without_its_step = ((λ a. let z : 2 ≡ 1 = ap count_given a.gives in absurd (omega (arith, z))), refl, refl, omega arith, refl)

-- more steps than there are
a_fork_of_two_steps : IsAnother source (forked 2 (pays 3 ∷ step_row m2 1 (codes "pay") kinds.Txn (int 3) ∷ []))
a_fork_of_two_steps = ((λ a. let z : 0 ≡ 1 = ap enters a.gives in absurd (omega (arith, z))), refl, refl, omega arith, refl)

abbrev whole : Val → ℕ
whole (Int (pos n)) = n
whole v = 0

abbrev paid_by : Option StepRow → ℕ
paid_by None = 0
paid_by (Some r) = elim r.outcome [ outcomes.Value v ↦ whole v | outcomes.Failure word ↦ 0 ]

abbrev step_given : Given → ℕ
step_given (Answers r) = 0
step_given (Enters e r) = paid_by (step_written e m2 0)

a_fork_whose_step_is_another : IsAnother source (forked 1 (pays 4 ∷ []))
a_fork_whose_step_is_another = ((λ a. let z : 3 ≡ 4 = ap step_given a.gives in absurd (omega (arith, z))), refl, refl, omega arith, refl)

-- ---- a start, a load and an outside call

a_start_of_another_number : IsAnother (program ∷ []) (plain 1 (acts.Start s1) (stands s1 (sent 1) ∷ []))
a_start_of_another_number = ((λ a. let z : 2 ≡ 1 = ap (λ g. number_in (row_given s1 g)) a.gives in absurd (omega (arith, z))), refl, refl, omega arith, refl)

-- the last of equal keys is the one that is loaded
a_load_of_one_row_twice : IsAnother (program ∷ []) (plain 1 acts.Load (row (codes "a") (pos 10) ∷ row (codes "a") (pos 5) ∷ []))
a_load_of_one_row_twice = ((λ a. let z : 1 ≡ 2 = ap count_given a.gives in absurd (omega (arith, z))), refl, refl, omega arith, tt)

abbrev name_given : Given → ℕ
name_given (Answers r) = 0
name_given (Enters e r) = elim (step_written e m1 1) [ None ↦ 0 | Some r ↦ length r.name ]

-- notify is asked for
a_call_of_another_name : IsAnother source (plain 4 (acts.Outside m1 1 (args2 (txt (codes "b")) (int 3))) (step_row m1 1 (codes "tell") kinds.Outside Null ∷ []))
a_call_of_another_name = ((λ a. let z : 6 ≡ 4 = ap name_given a.gives in absurd (omega (arith, z))), refl, refl, omega arith, refl)
