-- Worked cases at the edges of drains, queues, children, IDs and recoveries.
use Rattle.std.proofs.Common.{◌≡◌, ℕ, true, false, List, [], ◌∷◌, ◌++◌, length, drop, replicate, Option, Some, None, refl}
use Rattle.std.specs.Prelude.{codes}
use Rattle.std.specs.Fmt.{digits}
use Rattle.r3_value.specs.declared.value.Outcome.{Outcome}
use Rattle.r3_value.specs.declared.value.Outcome.TheVariants as outcomes
use Rattle.r3_rows.specs.declared.rows.Key.TheVariants as keys
use Rattle.r3_rows.specs.declared.rows.Cell.TheVariants as cells
use Rattle.r3_rows.specs.declared.rows.Status.{Status}
use Rattle.r3_rows.specs.declared.rows.Status.TheVariants.{Pending, MaxRecoveryAttemptsExceeded}
use Rattle.r3_entry.specs.declared.entry.Act.TheVariants as acts
use Rattle.r3_entry.specs.declared.entry.Entry.{Entry}
use Rattle.sys_flow.specs.declared.command.Command.TheVariants.{Start, Enqueue, Recover}
use Rattle.sys_flow.specs.declared.command.Refusal.TheVariants as refusals
use Rattle.r3_model.specs.Language.{Text, Language}
use Rattle.r3_model.specs.Event.{Event, Run, Turn, Dequeue, Reply, Entry as EntryReply, EntryOf, Refused, Began, Waiting, Empty, AtLimit, Idle, Spent}
use Rattle.r3_model.specs.Given.{is_id}
use Rattle.r3_model.specs.Rows.{step_at, flow_at}
use Rattle.r3_model.specs.Run.{Trail, from_state, restarted, next, run, pending_ids}
use Rattle.r3_model.specs.Drain.{Drained, drained, Plain}
use Rattle.r3_model.proofs.Bank.{bank, args1, args3}
use Rattle.r3_model.proofs.WorkedTurns.{int, txt, after, replies_of, start, start_move, a, b, s1}
use Rattle.r3_model.proofs.WorkedReplay.{plain, flow, args_m1}

abbrev drain : ℕ → Trail → Drained
drain n t = drained (next bank) bank.queues Plain n t

-- ---- drains: idle on the last turn that is allowed, and spent one before

-- a dequeue and a turn change nothing
abbrev waits : Trail
waits = after (Run (Start (Some (codes "w1")) (codes "wait") (args1 (txt (codes "w1")))) ∷ [])

idle_on_the_last_turn : ((drain 2 waits).reply ≡ Idle 2) × ((drain 1 waits).reply ≡ Spent 1)
idle_on_the_last_turn = (refl, refl)

-- four rounds of a dequeue and a turn, and a last dequeue
idle_after_a_transfer : ((drain 9 (after (start_move ∷ []))).reply ≡ Idle 9) × ((drain 8 (after (start_move ∷ []))).reply ≡ Spent 8)
idle_after_a_transfer = (refl, refl)

-- the workflow has ended in the last turn, and no round says yet that nothing is left
a_round_that_is_not_over : ((drain 8 (after (start_move ∷ []))).trail.last ≡ EntryReply 6) × ((drain 0 waits).reply ≡ Spent 0)
a_round_that_is_not_over = (refl, refl)

-- ---- a child that is started in a round has its first turn in the next

abbrev p1 : Text
p1 = codes "p1"

abbrev parent : List Event
parent = start p1 (codes "both") a b 3 ∷ []

a_child_waits_for_the_next_round : drop 3 (drain 5 (after parent)).trail.replies
    ≡ Empty ∷ EntryReply 4 ∷ Empty ∷ Waiting (codes "p1-0") ∷ Began 4 ∷ []
unfolding digits
a_child_waits_for_the_next_round = refl

-- ---- IDs of children: 198 bytes and "-0" are 200, and one more is too long

abbrev long : ℕ → Text
long n = replicate n 112

abbrev parent_of : ℕ → Trail
parent_of n = after (start (long n) (codes "both") a b 3 ∷ Turn (long n) ∷ [])

abbrev outcome_at : Trail → Text → Option Outcome
outcome_at t id = elim (step_at t.state.history (length t.state.history) id 0) [ None ↦ None | Some r ↦ Some r.outcome ]

a_child_of_200_bytes : (outcome_at (parent_of 198) (long 198) ≡ Some (outcomes.Value (txt (long 198 ++ codes "-0")))) × (length (pending_ids (parent_of 198).state) ≡ 2)
unfolding digits
a_child_of_200_bytes = (refl, refl)

-- the step fails with `id`, and no workflow is started
a_child_of_201_bytes : (outcome_at (parent_of 199) (long 199) ≡ Some (outcomes.Failure (codes "id"))) × (length (pending_ids (parent_of 199).state) ≡ 1)
unfolding digits
a_child_of_201_bytes = (refl, refl)

-- ---- IDs have 1 to 200 bytes

ids : (is_id [] ≡ false) × (is_id (long 1) ≡ true) × (is_id (long 200) ≡ true) × (is_id (long 201) ≡ false)
ids = (refl, refl, refl, refl)

starts_of_long_ids : replies_of (start (long 201) (codes "send") a b 1 ∷ start (long 200) (codes "send") a b 1 ∷ []) ≡ Refused refusals.Id ∷ EntryOf 3 (long 200) ∷ []
starts_of_long_ids = refl

-- ---- workflows that the same entry started go by their IDs

abbrev at_once : List Entry
at_once =
    plain 0 (acts.Program (codes "bank")) []
    ∷ plain 1 acts.Load (flow (codes "x") (codes "send") args_m1 Pending 2 None ∷ flow (codes "y") (codes "send") args_m1 Pending 1 None ∷ flow (codes "z") (codes "send") args_m1 Pending 2 None ∷ [])
    ∷ []

first_started_then_by_id : pending_ids (restarted at_once) ≡ codes "y" ∷ codes "x" ∷ codes "z" ∷ []
first_started_then_by_id = refl

-- ---- a workflow that runs after 50 or 51 recoveries

abbrev with_attempts : ℕ → List Entry
with_attempts n =
    plain 0 (acts.Program (codes "bank")) []
    ∷ plain 1 (acts.Start s1) ((
      keys.Flow s1,
      Some (cells.Flow (record {
        status = Pending;
        function = codes "send";
        args = args_m1;
        outcome = None;
        queue = None;
        started = 2;
        attempts = n;
        parent = None;
      })),
    ) ∷ [])
    ∷ []

abbrev attempts_of : Trail → Option (Status × ℕ)
attempts_of t = elim (flow_at t.state.history (length t.state.history) s1) [ None ↦ None | Some r ↦ Some (r.status, r.attempts) ]

abbrev recovered : ℕ → Option (Status × ℕ)
recovered n = attempts_of (run bank (from_state (restarted (with_attempts n)) []) (Run (Recover s1) ∷ []))

recoveries : (recovered 49 ≡ Some (Pending, 50)) × (recovered 50 ≡ Some (MaxRecoveryAttemptsExceeded, 51)) × (recovered 51 ≡ Some (MaxRecoveryAttemptsExceeded, 51))
recoveries = (refl, refl, refl)

-- ---- a queue in which two may run

abbrev enqueue : Text → Event
enqueue id = Run (Enqueue (Some id) (codes "mail") (codes "send") (args3 (txt a) (txt b) (int 1)))

abbrev mail : Event
mail = Dequeue (codes "mail")

abbrev e1 : Text
e1 = codes "e1"

abbrev e2 : Text
e2 = codes "e2"

abbrev two : Language
two = record bank { queues = record { name = codes "mail"; bound = 2 } ∷ [] }

abbrev of_two : List Event → List Reply
of_two evs = drop 5 (run two (after (enqueue e1 ∷ enqueue e2 ∷ enqueue (codes "e3") ∷ [])) evs).replies

two_run_at_a_time : of_two (mail ∷ mail ∷ mail ∷ replicate 3 (Turn e1) ++ mail ∷ mail ∷ [])
    ≡ EntryOf 6 e1 ∷ EntryOf 7 e2 ∷ AtLimit 2 ∷ Began 7 ∷ EntryReply 8 ∷ EntryReply 9 ∷ EntryOf 10 (codes "e3") ∷ AtLimit 2 ∷ []
two_run_at_a_time = refl

-- the bound comes before what waits
at_its_limit_with_nobody_waiting : replies_of (enqueue e1 ∷ mail ∷ mail ∷ []) ≡ EntryOf 3 e1 ∷ EntryOf 4 e1 ∷ AtLimit 1 ∷ []
at_its_limit_with_nobody_waiting = refl
