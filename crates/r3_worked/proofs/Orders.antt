-- Worked cases of retroaction: what a call is answered, and the orders in which a history is run again.
use Rattle.std.proofs.Common.{◌≡◌, ℕ, ◌+◌, ℤ, List, [], ◌∷◌, ◌++◌, map, length, Option, Some, None, refl, pos, negsuc}
use Rattle.std.specs.Prelude.{codes, filter}
use Rattle.r3_value.specs.declared.value.Val.{Val}
use Rattle.r3_value.specs.declared.value.Val.TheVariants.{Int}
use Rattle.r3_value.specs.declared.value.Outcome.{Outcome}
use Rattle.r3_value.specs.declared.value.Outcome.TheVariants as outcomes
use Rattle.r3_rows.specs.declared.rows.Key.TheVariants as keys
use Rattle.r3_rows.specs.declared.rows.Cell.TheVariants as cells
use Rattle.r3_rows.specs.declared.rows.StepKind.{StepKind}
use Rattle.r3_rows.specs.declared.rows.StepKind.TheVariants as kinds
use Rattle.r3_rows.specs.declared.rows.Status.TheVariants.{Pending}
use Rattle.r3_rows.specs.declared.rows.Read.TheVariants.{At}
use Rattle.r3_entry.specs.declared.entry.Act.TheVariants as acts
use Rattle.r3_entry.specs.declared.entry.Entry.{Entry}
use Rattle.sys_flow.specs.declared.command.Command.TheVariants.{Load, Start, Cancel, Resume}
use Rattle.r3_model.specs.Language.{Text}
use Rattle.r3_model.specs.Event.{Event, Append, Run, Call, Idle}
use Rattle.r3_model.specs.Run.{Trail, from_state, empty, next, run}
use Rattle.r3_model.specs.Drain.{Form, Plain, Paired, Drained, drained}
use Rattle.r3_model.specs.Schedule.{event_of}
use Rattle.r3_model.specs.Verdict.{recorded_answer, replay_answer, unrecorded}
use Rattle.r3_model.specs.Retro.{Stubs, retro_answer, Order, Recorded, Serial, Given, is_request, maker_of, retroacted}
use Rattle.r3_model.specs.Report.{Absent, Ended, standing_in}
use Rattle.r3_model.proofs.Bank.{bank, args2, args3}
use Rattle.r3_model.proofs.WorkedReplay.{int, txt, m1, plain, flow, row, step_row}

-- ---- what a call is answered

abbrev call : Text → Call
call name = record { id = m1; n = 1; name = name; args = args2 (txt (codes "b")) (int 3); answer = None }

-- step 1 of m1 called so, and its row has this name, kind and value
abbrev recording : Text → StepKind → Val → List Entry
recording name kind v = plain 4 (acts.Outside m1 1 (args2 (txt (codes "b")) (int 3))) (step_row m1 1 name kind v ∷ []) ∷ []

abbrev stubs : Stubs
stubs = (codes "tell", outcomes.Value (txt (codes "other"))) ∷ (codes "notify", outcomes.Value (txt (codes "stub"))) ∷ (codes "notify", outcomes.Value (txt (codes "later"))) ∷ []

abbrev value_of : Text → Option Outcome
value_of s = Some (outcomes.Value (txt s))

abbrev ok : List Entry
ok = recording (codes "notify") kinds.Outside (txt (codes "sent"))

the_record_comes_first : retro_answer ok stubs (call (codes "notify")) ≡ value_of (codes "sent")
the_record_comes_first = refl

the_first_stub_of_its_name : retro_answer [] stubs (call (codes "notify")) ≡ value_of (codes "stub")
the_first_stub_of_its_name = refl

neither : retro_answer [] stubs (call (codes "mail")) ≡ Some (outcomes.Failure (codes "unrecorded"))
neither = refl

a_record_of_another_name : retro_answer (recording (codes "tell") kinds.Outside (txt (codes "sent"))) stubs (call (codes "notify")) ≡ value_of (codes "stub")
a_record_of_another_name = refl

a_record_of_another_kind : retro_answer (recording (codes "notify") kinds.Txn (txt (codes "sent"))) stubs (call (codes "notify")) ≡ value_of (codes "stub")
a_record_of_another_kind = refl

-- of another workflow, another step, other arguments
a_record_of_another_call : (recorded_answer ok (record (call (codes "notify")) { id = codes "m2" }) ≡ None)
    × (recorded_answer ok (record (call (codes "notify")) { n = 2 }) ≡ None)
    × (recorded_answer ok (record (call (codes "notify")) { args = args2 (txt (codes "b")) (int 4) }) ≡ None)
a_record_of_another_call = (refl, refl, refl)

-- the act tells of the call, and no step stands beside it
a_record_without_its_step : recorded_answer (plain 4 (acts.Outside m1 1 (args2 (txt (codes "b")) (int 3))) [] ∷ []) (call (codes "notify")) ≡ None
a_record_without_its_step = refl

-- the least of two records is the one
the_first_record : recorded_answer (ok ++ recording (codes "notify") kinds.Outside (txt (codes "again"))) (call (codes "notify")) ≡ value_of (codes "sent")
the_first_record = refl

-- a replay knows no stubs
a_replay_takes_the_record_alone : (replay_answer ok (call (codes "notify")) ≡ value_of (codes "sent")) × (replay_answer [] (call (codes "notify")) ≡ Some unrecorded)
a_replay_takes_the_record_alone = (refl, refl)

-- ---- two withdrawals from two accounts: 10 and 5 are enough for one of 12

abbrev s1 : Text
s1 = codes "s1"

abbrev s2 : Text
s2 = codes "s2"

abbrev draw : Text → Text → Text → Event
draw id a b = Run (Start (Some id) (codes "draw") (args3 (txt a) (txt b) (int 12)))

abbrev opened : List Event
opened = Append (codes "bank") ∷ Run (Load (codes "acct") ((codes "a", int 10) ∷ (codes "b", int 5) ∷ [])) ∷ []

abbrev two_draws : Trail
two_draws = run bank (from_state empty []) (opened ++ draw s1 (codes "a") (codes "b") ∷ draw s2 (codes "b") (codes "a") ∷ [])

abbrev after_drain : Form → Drained
after_drain form = drained (next bank) bank.queues form 100 two_draws

-- both snapshots are opened before either commits, and both withdraw
a_plain_drain : (standing_in (after_drain Plain).trail.state.history s1 ≡ Ended (outcomes.Value (Int (negsuc 1))))
    × (standing_in (after_drain Plain).trail.state.history s2 ≡ Ended (outcomes.Value (Int (negsuc 6))))
    × ((after_drain Plain).reply ≡ Idle 10)
a_plain_drain = (refl, refl, refl)

-- the second opens its own after the first has committed, and finds too little
a_paired_drain : (standing_in (after_drain Paired).trail.state.history s1 ≡ Ended (outcomes.Value (Int (negsuc 1))))
    × (standing_in (after_drain Paired).trail.state.history s2 ≡ Ended (outcomes.Failure (codes "short")))
    × ((after_drain Paired).reply ≡ Idle 9)
a_paired_drain = (refl, refl, refl)

-- ---- the history in which both withdrew, run again

abbrev args_of : Text → Text → Val
args_of a b = args3 (txt a) (txt b) (int 12)

abbrev drawn : Text → Text → Text → ℤ → Entry
drawn id a b z = record {
  act = acts.Txn id 0 (args_of a b);
  snap = 4;
  reads = At (codes "acct") a 2 ∷ At (codes "acct") b 2 ∷ [];
  writes = row a z ∷ (keys.Step id 0, Some (cells.Step (record { name = codes "take"; kind = kinds.Txn; outcome = outcomes.Value (Int z) }))) ∷ [];
}

abbrev started : Text → Text → Text → ℕ → Entry
started id a b snap = plain snap (acts.Start id) (flow id (codes "draw") (args_of a b) Pending (snap + 1) None ∷ [])

abbrev skew : List Entry
skew =
    plain 0 (acts.Program (codes "bank")) [] ∷ plain 1 acts.Load (row (codes "a") (pos 10) ∷ row (codes "b") (pos 5) ∷ [])
    ∷ started s1 (codes "a") (codes "b") 2 ∷ started s2 (codes "b") (codes "a") 3
    ∷ drawn s1 (codes "a") (codes "b") (negsuc 1) ∷ drawn s2 (codes "b") (codes "a") (negsuc 6) ∷ []

abbrev again : Order → List Entry
again order = (retroacted bank (codes "bank") skew order []).state.history

abbrev Withdrew : Text → ℕ → List Entry → Type 0
Withdrew id n h = standing_in h id ≡ Ended (outcomes.Value (Int (negsuc n)))

abbrev FallsShort : Text → List Entry → Type 0
FallsShort id h = standing_in h id ≡ Ended (outcomes.Failure (codes "short"))

-- as they were scheduled, with a last drain in which both end
in_the_recorded_order : Withdrew s1 1 (again Recorded) × Withdrew s2 6 (again Recorded) × (length (again Recorded) ≡ 8)
in_the_recorded_order = (refl, refl, refl)

-- one after another
in_serial_order : Withdrew s1 1 (again Serial) × FallsShort s2 (again Serial) × (length (again Serial) ≡ 8)
in_serial_order = (refl, refl, refl)

-- in the order of the IDs that are given
the_second_first : FallsShort s1 (again (Given (s2 ∷ s1 ∷ []))) × Withdrew s2 6 (again (Given (s2 ∷ s1 ∷ [])))
the_second_first = (refl, refl)

the_second_alone : (standing_in (again (Given (s2 ∷ []))) s1 ≡ Absent) × Withdrew s2 6 (again (Given (s2 ∷ [])))
the_second_alone = (refl, refl)

-- nobody made it: the loads alone
an_id_of_none : length (again (Given (codes "zz" ∷ []))) ≡ 2
an_id_of_none = refl

-- twice the same ID is one workflow
twice_the_same : (length (again (Given (s1 ∷ s1 ∷ []))) ≡ 5) × Withdrew s1 1 (again (Given (s1 ∷ s1 ∷ [])))
twice_the_same = (refl, refl)

-- ---- what came from outside: a start, a cancel and a resume, but no recovery and no dequeue

abbrev as_requested : List Entry
as_requested =
    plain 0 (acts.Program (codes "bank")) [] ∷ plain 1 acts.Load (row (codes "a") (pos 10) ∷ row (codes "b") (pos 5) ∷ [])
    ∷ started s1 (codes "a") (codes "b") 2 ∷ plain 3 (acts.Recover s1) [] ∷ plain 4 (acts.Cancel s1) [] ∷ plain 5 (acts.Resume s1) []
    ∷ plain 6 (acts.Dequeue s1) [] ∷ plain 7 (acts.Finish s1) [] ∷ []

requests_of_a_history : map event_of (filter (λ (e : Entry). is_request e.act) as_requested)
    ≡ Run (Load (codes "acct") ((codes "a", int 10) ∷ (codes "b", int 5) ∷ [])) ∷ draw s1 (codes "a") (codes "b") ∷ Run (Cancel s1) ∷ Run (Resume s1) ∷ []
requests_of_a_history = refl

-- a fork makes a workflow, and so does an enqueue; the least entry is the maker
abbrev act_of : Option Entry → ℕ
act_of None = 0
act_of (Some e) = e.snap

abbrev makers : List Entry
makers = plain 1 (acts.Dequeue s2) [] ∷ plain 2 (acts.Enqueue s1) [] ∷ plain 3 (acts.Fork s2 s1 0) [] ∷ plain 4 (acts.Start s2) [] ∷ []

the_makers : (act_of (maker_of makers s1) ≡ 2) × (act_of (maker_of makers s2) ≡ 3) × (act_of (maker_of makers m1) ≡ 0)
the_makers = (refl, refl, refl)
