-- Worked cases of made entries: children, fresh and adopted, and awaits that agree, and others that differ in one thing.
use Rattle.std.proofs.Common.{◌≡◌, ℕ, ◌+◌, List, [], ◌∷◌, ◌++◌, Option, Some, None, refl, ap, pos, arith}
use Rattle.std.specs.Prelude.{codes}
use Rattle.std.specs.Fmt.{digits}
use Rattle.r3_value.specs.declared.value.Val.TheVariants.{Int}
use Rattle.r3_value.specs.declared.value.Outcome.{Outcome}
use Rattle.r3_value.specs.declared.value.Outcome.TheVariants as outcomes
use Rattle.r3_rows.specs.declared.rows.Key.{Key}
use Rattle.r3_rows.specs.declared.rows.Key.TheVariants as keys
use Rattle.r3_rows.specs.declared.rows.Cell.{Cell}
use Rattle.r3_rows.specs.declared.rows.Cell.TheVariants as cells
use Rattle.r3_rows.specs.declared.rows.FlowRow.{FlowRow}
use Rattle.r3_rows.specs.declared.rows.StepKind.{StepKind}
use Rattle.r3_rows.specs.declared.rows.StepKind.TheVariants as kinds
use Rattle.r3_rows.specs.declared.rows.Status.TheVariants.{Pending}
use Rattle.r3_entry.specs.declared.entry.Act.TheVariants as acts
use Rattle.r3_entry.specs.declared.entry.Entry.{Entry}
use Rattle.r3_model.specs.Language.{Text}
use Rattle.r3_model.specs.Event.{Entry as EntryReply}
use Rattle.r3_model.specs.Given.{Given, Enters, Answers}
use Rattle.r3_model.specs.Made.{Agrees}
use Rattle.r3_model.specs.Schedule.{step_written}
use Rattle.r3_model.proofs.Bank.{bank, args1}
use Rattle.r3_model.proofs.WorkedReplay.{int, txt, m1, plain}
use Rattle.r3_worked.proofs.Made.{program, before, paid, told, ended}
use Rattle.r3_worked.proofs.Agreeing.{sent, stands, IsAnother, enters, count_given, row_given, is_there, s1, one_runs, cancelled}

-- a step 0 with this outcome
abbrev step_is : Text → Text → StepKind → Outcome → Key × Option Cell
step_is id name kind o = (keys.Step id 0, Some (cells.Step (record { name = name; kind = kind; outcome = o })))

-- what the step of an event says: a number, or 100 for a text and 101 for a failure
abbrev told_by : Outcome → ℕ
told_by (outcomes.Value (Int (pos n))) = n
told_by (outcomes.Value v) = 100
told_by (outcomes.Failure word) = 101

abbrev step_given : Text → Given → ℕ
step_given id (Answers r) = 0
step_given id (Enters e r) = elim (step_written e id 0) [ None ↦ 0 | Some r ↦ told_by r.outcome ]

-- ---- a child that is fresh

abbrev p1 : Text
p1 = codes "p1"

abbrev its_child : Text
its_child = codes "p1-0"

abbrev parents : List Entry
parents = program ∷ plain 1 (acts.Start p1) (stands p1 (record (sent 2) { function = codes "both" }) ∷ []) ∷ []

-- the step that starts it, behind the row of the child where it is fresh
abbrev child_on : ℕ → Outcome → List (Key × Option Cell) → Entry
child_on snap o fresh = plain snap (acts.Child p1 0 its_child) (fresh ++ step_is p1 (codes "send") kinds.Child o ∷ [])

abbrev its_id : Outcome
its_id = outcomes.Value (txt its_child)

a_fresh_child : Agrees bank parents (child_on 2 its_id (stands its_child (record (sent 3) { parent = Some p1 }) ∷ []))
unfolding digits
a_fresh_child = record { reply = EntryReply 3; gives = refl; fits = refl; program = refl; below = omega arith; own = refl }

abbrev parents_in : Option FlowRow → ℕ
parents_in None = 9
parents_in (Some r) = is_there r.parent

a_fresh_child_without_its_parent : IsAnother parents (child_on 2 its_id (stands its_child (sent 3) ∷ []))
unfolding digits
a_fresh_child_without_its_parent = ((λ a. let z : 1 ≡ 0 = ap (λ g. parents_in (row_given its_child g)) a.gives in absurd (omega (arith, z))), refl, refl, omega arith, refl)

a_fresh_child_without_its_row : IsAnother parents (child_on 2 its_id [])
unfolding digits
a_fresh_child_without_its_row = ((λ a. let z : 2 ≡ 1 = ap count_given a.gives in absurd (omega (arith, z))), refl, refl, omega arith, refl)

-- ---- a child that was there before, under the function that is asked for

abbrev there : Text → List Entry
there function = parents ++ plain 2 (acts.Start its_child) (stands its_child (record (sent 3) { function = function }) ∷ []) ∷ []

an_adopted_child : Agrees bank (there (codes "send")) (child_on 3 its_id [])
unfolding digits
an_adopted_child = record { reply = EntryReply 4; gives = refl; fits = refl; program = refl; below = omega arith; own = refl }

an_adopted_child_that_is_started_again : IsAnother (there (codes "send")) (child_on 3 its_id (stands its_child (record (sent 4) { parent = Some p1 }) ∷ []))
unfolding digits
an_adopted_child_that_is_started_again = ((λ a. let z : 1 ≡ 2 = ap count_given a.gives in absurd (omega (arith, z))), refl, refl, omega arith, refl)

-- under another function it is no child
a_child_of_another_function : Agrees bank (there (codes "move")) (child_on 3 (outcomes.Failure (codes "conflict")) [])
unfolding digits
a_child_of_another_function = record { reply = EntryReply 4; gives = refl; fits = refl; program = refl; below = omega arith; own = refl }

an_adopted_child_of_another_function : IsAnother (there (codes "move")) (child_on 3 its_id [])
unfolding digits
an_adopted_child_of_another_function = ((λ a. let z : 101 ≡ 100 = ap (step_given p1) a.gives in absurd (omega (arith, z))), refl, refl, omega arith, refl)

-- ---- an await

abbrev w1 : Text
w1 = codes "w1"

-- started as entry n, it waits for a workflow
abbrev waiting_for : Text → ℕ → Entry
waiting_for on n = plain n (acts.Start w1) (stands w1 (record {
  status = Pending;
  function = codes "wait";
  args = args1 (txt on);
  outcome = None;
  queue = None;
  started = n + 1;
  attempts = 0;
  parent = None;
}) ∷ [])

abbrev awaited : ℕ → Text → Outcome → Entry
awaited snap on o = plain snap (acts.Await w1 0 on) (step_is w1 (codes "await") kinds.Await o ∷ [])

-- m1 ended with 3
abbrev after_its_end : List Entry
after_its_end = before ++ paid 3 3 ∷ told ∷ ended ∷ waiting_for m1 6 ∷ []

an_await : Agrees bank after_its_end (awaited 7 m1 (outcomes.Value (int 3)))
an_await = record { reply = EntryReply 8; gives = refl; fits = refl; program = refl; below = omega arith; own = refl }

an_await_with_another_outcome : IsAnother after_its_end (awaited 7 m1 (outcomes.Value (int 4)))
an_await_with_another_outcome = ((λ a. let z : 3 ≡ 4 = ap (step_given w1) a.gives in absurd (omega (arith, z))), refl, refl, omega arith, refl)

abbrev after_its_cancel : List Entry
after_its_cancel = one_runs ++ cancelled 2 s1 (sent 2) ∷ waiting_for s1 3 ∷ []

an_await_of_one_that_is_cancelled : Agrees bank after_its_cancel (awaited 4 s1 (outcomes.Failure (codes "cancelled")))
an_await_of_one_that_is_cancelled = record { reply = EntryReply 5; gives = refl; fits = refl; program = refl; below = omega arith; own = refl }

-- while it runs nothing is recorded
an_await_of_one_that_runs : IsAnother (one_runs ++ waiting_for s1 2 ∷ []) (awaited 3 s1 (outcomes.Failure (codes "cancelled")))
an_await_of_one_that_runs = ((λ a. let z : 0 ≡ 1 = ap enters a.gives in absurd (omega (arith, z))), refl, refl, omega arith, refl)
