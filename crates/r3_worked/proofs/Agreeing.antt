-- Worked cases of made entries: of each command and of a dequeue one that agrees, and others that differ in one thing.
use Rattle.std.proofs.Common.{◌≡◌, ℕ, ◌≤◌, List, [], ◌∷◌, ◌++◌, length, Option, Some, None, refl, ap, arith}
use Rattle.std.specs.Prelude.{codes}
use Rattle.r3_rows.specs.declared.rows.Key.{Key}
use Rattle.r3_rows.specs.declared.rows.Key.TheVariants as keys
use Rattle.r3_rows.specs.declared.rows.Cell.{Cell}
use Rattle.r3_rows.specs.declared.rows.Cell.TheVariants as cells
use Rattle.r3_rows.specs.declared.rows.FlowRow.{FlowRow}
use Rattle.r3_rows.specs.declared.rows.Status.TheVariants.{Enqueued, Pending, Cancelled}
use Rattle.r3_entry.specs.declared.entry.Act.TheVariants as acts
use Rattle.r3_entry.specs.declared.entry.Entry.{Entry}
use Rattle.r3_entry.specs.Bytes.{status_code}
use Rattle.r3_entry.specs.Formed.{is_program, is_first}
use Rattle.r3_model.specs.Language.{Text}
use Rattle.r3_model.specs.Event.{Entry as EntryReply, EntryOf}
use Rattle.r3_model.specs.Given.{Given, Enters, Answers}
use Rattle.r3_model.specs.Made.{Agrees, AreOwnUnwritten, id_of}
use Rattle.r3_model.specs.Schedule.{flow_written}
use Rattle.r3_model.proofs.Bank.{bank}
use Rattle.r3_model.proofs.WorkedReplay.{plain, args_m1}
use Rattle.r3_worked.proofs.Made.{Fits, program}

-- the row of a transfer that entry n started
abbrev pub sent : ℕ → FlowRow
sent n = record {
  status = Pending;
  function = codes "send";
  args = args_m1;
  outcome = None;
  queue = None;
  started = n;
  attempts = 0;
  parent = None;
}

abbrev pub stands : Text → FlowRow → Key × Option Cell
stands id r = (keys.Flow id, Some (cells.Flow r))

-- all of an entry agrees, but it isn't the one that its event gives
abbrev pub IsAnother : List Entry → Entry → Type 0
IsAnother h e = (Agrees bank h e → ⊥) × Fits h e × (is_program e.act ≡ is_first h) × (e.snap ≤ length h) × AreOwnUnwritten h e.snap (id_of e.act)

-- ---- what the event gives

abbrev pub enters : Given → ℕ
enters (Answers r) = 0
enters (Enters e r) = 1

abbrev pub count_given : Given → ℕ
count_given (Answers r) = 0
count_given (Enters e r) = length e.writes

abbrev pub row_given : Text → Given → Option FlowRow
row_given id (Answers r) = None
row_given id (Enters e r) = flow_written e id

abbrev pub is_there : {X : Type 0} → Option X → ℕ
is_there None = 0
is_there (Some x) = 1

abbrev status_in : Option FlowRow → ℕ
status_in None = 9
status_in (Some r) = status_code r.status

abbrev pub attempts_in : Option FlowRow → ℕ
attempts_in None = 9
attempts_in (Some r) = r.attempts

abbrev pub queues_in : Option FlowRow → ℕ
queues_in None = 9
queues_in (Some r) = is_there r.queue

abbrev pub number_in : Option FlowRow → ℕ
number_in None = 0
number_in (Some r) = r.started

-- ---- an enqueue

abbrev pub e1 : Text
e1 = codes "e1"

abbrev e2 : Text
e2 = codes "e2"

-- enqueued by entry n
abbrev pub waits : ℕ → FlowRow
waits n = record (sent n) { status = Enqueued; queue = Some (codes "mail") }

abbrev enqueued : ℕ → Text → FlowRow → Entry
enqueued snap id r = plain snap (acts.Enqueue id) (stands id r ∷ [])

an_enqueue : Agrees bank (program ∷ []) (enqueued 1 e1 (waits 2))
an_enqueue = record { reply = EntryOf 2 e1; gives = refl; fits = refl; program = refl; below = omega arith; own = refl }

an_enqueue_that_runs_at_once : IsAnother (program ∷ []) (enqueued 1 e1 (record (waits 2) { status = Pending }))
an_enqueue_that_runs_at_once = ((λ a. let z : 0 ≡ 1 = ap (λ g. status_in (row_given e1 g)) a.gives in absurd (omega (arith, z))), refl, refl, omega arith, refl)

an_enqueue_of_another_number : IsAnother (program ∷ []) (enqueued 1 e1 (waits 1))
an_enqueue_of_another_number = ((λ a. let z : 2 ≡ 1 = ap (λ g. number_in (row_given e1 g)) a.gives in absurd (omega (arith, z))), refl, refl, omega arith, refl)

-- ---- a dequeue

abbrev pub one_waits : List Entry
one_waits = program ∷ enqueued 1 e1 (waits 2) ∷ []

abbrev two_wait : List Entry
two_wait = one_waits ++ enqueued 2 e2 (waits 3) ∷ []

abbrev dequeued : ℕ → Text → FlowRow → Entry
dequeued snap id r = plain snap (acts.Dequeue id) (stands id (record r { status = Pending }) ∷ [])

a_dequeue : Agrees bank one_waits (dequeued 2 e1 (waits 2))
a_dequeue = record { reply = EntryOf 3 e1; gives = refl; fits = refl; program = refl; below = omega arith; own = refl }

a_dequeue_that_goes_on_waiting : IsAnother one_waits (plain 2 (acts.Dequeue e1) (stands e1 (waits 2) ∷ []))
a_dequeue_that_goes_on_waiting = ((λ a. let z : 1 ≡ 0 = ap (λ g. status_in (row_given e1 g)) a.gives in absurd (omega (arith, z))), refl, refl, omega arith, refl)

-- the queue would start the other one
a_dequeue_of_the_second : IsAnother two_wait (dequeued 3 e2 (waits 3))
a_dequeue_of_the_second = ((λ a. let z : 0 ≡ 1 = ap (λ g. is_there (row_given e2 g)) a.gives in absurd (omega (arith, z))), refl, refl, omega arith, refl)

-- it runs, and nobody waits
a_dequeue_of_one_that_runs : IsAnother (one_waits ++ dequeued 2 e1 (waits 2) ∷ []) (dequeued 3 e1 (waits 2))
a_dequeue_of_one_that_runs = ((λ a. let z : 0 ≡ 1 = ap enters a.gives in absurd (omega (arith, z))), refl, refl, omega arith, refl)

-- ---- a cancel

abbrev pub s1 : Text
s1 = codes "s1"

abbrev pub one_runs : List Entry
one_runs = program ∷ plain 1 (acts.Start s1) (stands s1 (sent 2) ∷ []) ∷ []

abbrev pub cancelled : ℕ → Text → FlowRow → Entry
cancelled snap id r = plain snap (acts.Cancel id) (stands id (record r { status = Cancelled }) ∷ [])

a_cancel : Agrees bank one_runs (cancelled 2 s1 (sent 2))
a_cancel = record { reply = EntryReply 3; gives = refl; fits = refl; program = refl; below = omega arith; own = refl }

a_cancel_that_keeps_the_status : IsAnother one_runs (plain 2 (acts.Cancel s1) (stands s1 (sent 2) ∷ []))
a_cancel_that_keeps_the_status = ((λ a. let z : 4 ≡ 1 = ap (λ g. status_in (row_given s1 g)) a.gives in absurd (omega (arith, z))), refl, refl, omega arith, refl)

a_second_cancel : IsAnother (one_runs ++ cancelled 2 s1 (sent 2) ∷ []) (cancelled 3 s1 (sent 2))
a_second_cancel = ((λ a. let z : 0 ≡ 1 = ap enters a.gives in absurd (omega (arith, z))), refl, refl, omega arith, refl)
