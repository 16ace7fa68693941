-- Worked cases of turns and commands, on the bank: each reply of each event.
use Rattle.std.proofs.Common.{◌≡◌, ℕ, List, [], ◌∷◌, ◌++◌, Some, None, refl, pos, negsuc, drop, replicate}
use Rattle.std.specs.Prelude.{codes}
use Rattle.std.specs.Fmt.{digits}
use Rattle.r3_rows.specs.declared.rows.Status.TheVariants.{Success, Cancelled}
use Rattle.r3_value.specs.declared.value.Val.{Val}
use Rattle.r3_value.specs.declared.value.Val.TheVariants.{Null, Int, Text as TextVal}
use Rattle.r3_value.specs.declared.value.Outcome.TheVariants as outcomes
use Rattle.sys_flow.specs.declared.command.Command.TheVariants.{Load, Start, Enqueue, Cancel, Resume, Fork}
use Rattle.sys_flow.specs.declared.command.Refusal.TheVariants as refusals
use Rattle.r3_model.specs.Language.{Text}
use Rattle.r3_model.specs.Event.{Event, Append, Run, Turn, Dequeue, GetRow, Reply, Entry, EntryOf, Began, Conflicts, NotPending, Value, ShowStatus, Row, Waiting, Again, Empty, AtLimit, Refused}
use Rattle.r3_model.specs.Run.{Trail, from_state, empty, run}
use Rattle.r3_model.proofs.Bank.{bank, args1, args2, args3}

abbrev pub int : ℕ → Val
int n = Int (pos n)

abbrev pub txt : Text → Val
txt s = TextVal s

abbrev pub load : Event
load = Run (Load (codes "acct") ((codes "a", int 10) ∷ (codes "b", int 5) ∷ (codes "c", int 0) ∷ []))

abbrev pub start : Text → Text → Text → Text → ℕ → Event
start id function a b n = Run (Start (Some id) function (args3 (txt a) (txt b) (int n)))

abbrev pub opened : List Event
opened = Append (codes "bank") ∷ load ∷ []

-- the outside answers null twice
abbrev pub after : List Event → Trail
after evs = run bank (from_state empty (Some (outcomes.Value Null) ∷ Some (outcomes.Value Null) ∷ [])) (opened ++ evs)

abbrev pub replies_of : List Event → List Reply
replies_of evs = drop 2 (after evs).replies

abbrev pub get : Text → Event
get key = GetRow (codes "acct") key

abbrev pub turns : ℕ → Text → List Event
turns n id = replicate n (Turn id)

abbrev pub a : Text
a = codes "a"

abbrev pub b : Text
b = codes "b"

abbrev pub m1 : Text
m1 = codes "m1"

abbrev pub s1 : Text
s1 = codes "s1"

abbrev pub s2 : Text
s2 = codes "s2"

abbrev pub start_move : Event
start_move = start m1 (codes "move") a b 3

-- ---- one workflow: a transaction in two turns, an outside call, and the end

abbrev pub moved : List Event
moved = start_move ∷ turns 5 m1

a_workflow_ends : replies_of moved ≡ EntryOf 3 m1 ∷ Began 3 ∷ Entry 4 ∷ Entry 5 ∷ Entry 6 ∷ NotPending Success ∷ []
a_workflow_ends = refl

the_outside_is_asked_once : (after moved).calls ≡ record {
  id = m1;
  n = 1;
  name = codes "notify";
  args = args2 (txt b) (int 3);
  answer = Some (outcomes.Value Null);
} ∷ []
the_outside_is_asked_once = refl

its_row_is_shown : drop 6 (replies_of (moved ++ ShowStatus m1 ∷ get a ∷ []))
    ≡ Row m1 (record {
      status = Success;
      function = codes "move";
      args = args3 (txt a) (txt b) (int 3);
      outcome = Some (outcomes.Value (int 3));
      queue = None;
      started = 3;
      attempts = 0;
      parent = None;
    })
    ∷ Value (int 7) ∷ []
its_row_is_shown = refl

-- another function under the same ID
a_repeat_of_another_conflicts : drop 6 (replies_of (moved ++ start m1 (codes "send") a b 1 ∷ start_move ∷ []))
    ≡ Refused refusals.Conflict ∷ EntryOf 3 m1 ∷ []
a_repeat_of_another_conflicts = refl

-- the first ask fails
a_failed_ask_is_made_again : drop 2 (run bank (from_state empty (None ∷ Some (outcomes.Value Null) ∷ [])) (opened ++ moved)).replies
    ≡ EntryOf 3 m1 ∷ Began 3 ∷ Entry 4 ∷ Again ∷ Entry 5 ∷ Entry 6 ∷ []
a_failed_ask_is_made_again = refl

-- ---- two transactions

on_one_row_the_second_conflicts : replies_of (
    start s1 (codes "send") a b 3 ∷ start s2 (codes "send") a (codes "c") 4
    ∷ Turn s1 ∷ Turn s2 ∷ Turn s1 ∷ Turn s2 ∷ Turn s2 ∷ Turn s2 ∷ get a ∷ [])
    ≡ EntryOf 3 s1 ∷ EntryOf 4 s2 ∷ Began 4 ∷ Began 4 ∷ Entry 5 ∷ Conflicts 5 ∷ Began 5 ∷ Entry 6 ∷ Value (int 3) ∷ []
on_one_row_the_second_conflicts = refl

-- each reads what the other writes: snapshot isolation isn't serial
write_skew_commits : replies_of (
    start s1 (codes "draw") a b 12 ∷ start s2 (codes "draw") b a 12
    ∷ Turn s1 ∷ Turn s2 ∷ Turn s1 ∷ Turn s2 ∷ get a ∷ get b ∷ [])
    ≡ EntryOf 3 s1 ∷ EntryOf 4 s2 ∷ Began 4 ∷ Began 4 ∷ Entry 5 ∷ Entry 6 ∷ Value (Int (negsuc 1)) ∷ Value (Int (negsuc 6)) ∷ []
write_skew_commits = refl

-- ---- a queue with bound 1

abbrev enqueue : Text → Event
enqueue id = Run (Enqueue (Some id) (codes "mail") (codes "send") (args3 (txt a) (txt b) (int 1)))

abbrev e1 : Text
e1 = codes "e1"

abbrev e2 : Text
e2 = codes "e2"

abbrev mail : Event
mail = Dequeue (codes "mail")

a_queue_runs_one_at_a_time : replies_of (enqueue e1 ∷ enqueue e2 ∷ enqueue (codes "e3") ∷ mail ∷ mail ∷ turns 3 e1 ++ mail ∷ [])
    ≡ EntryOf 3 e1 ∷ EntryOf 4 e2 ∷ EntryOf 5 (codes "e3") ∷ EntryOf 6 e1 ∷ AtLimit 1 ∷ Began 6 ∷ Entry 7 ∷ Entry 8 ∷ EntryOf 9 e2 ∷ []
a_queue_runs_one_at_a_time = refl

an_empty_queue_and_none : replies_of (mail ∷ Dequeue (codes "post_box") ∷ []) ≡ Empty ∷ Refused refusals.UnknownQueue ∷ []
an_empty_queue_and_none = refl

-- ---- a parent and its child

abbrev p1 : Text
p1 = codes "p1"

a_parent_awaits_its_child : replies_of (
    start p1 (codes "both") a b 3 ∷ Turn p1 ∷ Turn p1 ∷ turns 3 (codes "p1-0") ++ Turn p1 ∷ Turn p1 ∷ [])
    ≡ EntryOf 3 p1 ∷ Entry 4 ∷ Waiting (codes "p1-0") ∷ Began 4 ∷ Entry 5 ∷ Entry 6 ∷ Entry 7 ∷ Entry 8 ∷ []
unfolding digits
a_parent_awaits_its_child = refl

-- ---- cancelled, and resumed

a_cancelled_one_is_resumed : replies_of (
    start s1 (codes "send") a b 3 ∷ Turn s1 ∷ Run (Cancel s1) ∷ Turn s1 ∷ Run (Cancel s1) ∷ Run (Resume s1) ∷ Turn s1 ∷ Turn s1 ∷ [])
    ≡ EntryOf 3 s1 ∷ Began 3 ∷ Entry 4 ∷ NotPending Cancelled ∷ Refused (refusals.Status Cancelled) ∷ Entry 5 ∷ Began 5 ∷ Entry 6 ∷ []
a_cancelled_one_is_resumed = refl

-- ---- a fork

abbrev m2 : Text
m2 = codes "m2"

a_fork_keeps_the_first_steps : drop 6 (replies_of (
    moved ++ Run (Fork m1 1 (Some m2)) ∷ Turn m2 ∷ Turn m2 ∷ get a ∷ Run (Fork m1 3 (Some (codes "m3"))) ∷ []))
    ≡ EntryOf 7 m2 ∷ Entry 8 ∷ Entry 9 ∷ Value (int 7) ∷ Refused refusals.Step ∷ []
a_fork_keeps_the_first_steps = refl

-- ---- refusals in their order: a new ID that is too short comes before all, and the function before the arguments

abbrev bad : Text → Text → Event
bad id function = Run (Start (Some id) function (args1 (txt a)))

refusals_in_order : replies_of (
    Run (Load (codes "none") ((a, int 1) ∷ [])) ∷ bad [] (codes "pay") ∷ bad s1 (codes "pay") ∷ bad s1 (codes "move") ∷ Turn s1 ∷ Run (Cancel s1) ∷ [])
    ≡ Refused refusals.UnknownTable ∷ Refused refusals.Id ∷ Refused refusals.UnknownFunction ∷ Refused refusals.Arity
    ∷ Refused refusals.UnknownId ∷ Refused refusals.UnknownId ∷ []
refusals_in_order = refl
