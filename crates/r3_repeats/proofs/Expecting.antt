-- On a history that was made no event is answered that a turn is unexpected.
use Rattle.std.proofs.Common.{◌≡◌, ℕ, ◌+◌, Bool, true, false, List, [], ◌∷◌, length, Option, Some, None, refl}
use Rattle.std.specs.Prelude.{codes, find, not, if◌then◌else◌, nat_lt, bytes_eq}
use Rattle.r3_value.specs.declared.value.Outcome.{Outcome}
use Rattle.r3_value.specs.declared.value.Outcome.TheVariants as outcomes
use Rattle.r3_value.specs.declared.value.Val.{Val}
use Rattle.r3_value.specs.declared.value.Val.TheVariants as vals
use Rattle.r3_rows.specs.declared.rows.FlowRow.{FlowRow}
use Rattle.r3_rows.specs.declared.rows.Status.{Status}
use Rattle.r3_rows.specs.declared.rows.Status.TheVariants as status
use Rattle.r3_entry.specs.declared.entry.Entry.{Entry}
use Rattle.fn_tree.specs.declared.flow.AskKind.{AskKind}
use Rattle.fn_tree.specs.declared.flow.AskKind.TheVariants as asking
use Rattle.fn_tree.specs.declared.flow.FlowEnd.{FlowEnd}
use Rattle.fn_tree.specs.declared.flow.FlowEnd.TheVariants.{Done, Asks, Unexpected}
use Rattle.fn_tree.specs.declared.flow.Request.{Request}
use Rattle.sys_flow.specs.declared.awaits.Awaited.{Awaited}
use Rattle.sys_flow.specs.declared.awaits.Awaited.TheVariants as awaited
use Rattle.sys_flow.specs.Awaits.{awaited_of}
use Rattle.sys_flow.specs.Children.{child_id}
use Rattle.sys_flow.specs.declared.command.Command.{Command}
use Rattle.sys_flow.specs.declared.command.Command.TheVariants.{Load, Start, Enqueue, Cancel, Resume, Fork, Recover}
use Rattle.sys_flow.specs.declared.command.Refusal.{Refusal}
use Rattle.sys_flow.specs.declared.command.Refusal.TheVariants as refusals
use Rattle.sys_flow.specs.declared.repeats.Repeat.{Repeat}
use Rattle.sys_flow.specs.declared.repeats.Repeat.TheVariants as repeats
use Rattle.sys_flow.specs.Repeats.{repeat_of}
use Rattle.sys_flow.specs.Statuses.{may_cancel, may_resume, recovered}
use Rattle.sys_queue.specs.Rows.{is_pending}
use Rattle.r3_model.specs.Language.{Text, Language, Queue}
use Rattle.r3_model.specs.Event.{Event, Append, Run, Turn, Dequeue, ShowStatus, GetRow, Nothing, Limit, Reply, EntryOf, Refused, NotPending}
use Rattle.r3_model.specs.Event as reply
use Rattle.r3_model.specs.Given.{Given, Enters, Answers, unless, once}
use Rattle.r3_model.specs.Commands.{commanded, on_flow, forked, id_or_made, start_tests, enqueue_tests, fork_tests}
use Rattle.r3_model.specs.Acts.{load_entry, start_entry, enqueue_entry, cancel_entry, resume_entry, fork_entry, recover_entry, child_entry}
use Rattle.r3_model.specs.Lawful.{IsLawful}
use Rattle.r3_model.specs.Machine.{State, came, entered, full_of, given, got, shown, snap_of, stepped}
use Rattle.r3_model.specs.Made.{IsMade}
use Rattle.r3_model.specs.Queues.{Next, Ready, NoneWaits, Limited, dequeued_from, dequeued_next, next_of}
use Rattle.r3_model.specs.Rows.{flow_at, flows_at, row_at}
use Rattle.r3_model.specs.Turns.{asked, enters, await_turn, child_turn, committed, conflict_keys, ended, flow_end, outside_turn, run_on, text_of, turned_row, txn_turn, writer_past}
use Rattle.r3_laws.specs.OfHistories.{ExpectsAll}
use Rattle.r3_repeats.specs.Steps.{IsExpected}

abbrev Expected : Given → Type 0
Expected (Enters e r) = IsExpected r
Expected (Answers r) = IsExpected r

either : (b : Bool) (g g' : Given) → Expected g → Expected g' → Expected (if b then g else g')
either true g g' one two = one
either false g g' one two = two

-- ---- commands

unless-expected : (tests : List (Bool × Refusal)) (g : Given) → Expected g → Expected (unless tests g)
unless-expected [] g is = is
unless-expected ((true, refusal) ∷ tests) g is = tt
unless-expected ((false, refusal) ∷ tests) g is = unless-expected tests g is

once-expected : (repeat : Repeat) (id : Text) (g : Given) → Expected g → Expected (once repeat id g)
once-expected repeats.Fresh id g is = is
once-expected (repeats.Known started) id g is = tt
once-expected repeats.Conflict id g is = tt

on_flow-expected : (may : Status → Bool) (go : FlowRow → Given) (o : Option FlowRow) → ((row : FlowRow) → Expected (go row)) → Expected (on_flow may go o)
on_flow-expected may go None each = tt
on_flow-expected may go (Some row) each = either (may row.status) (go row) (Answers (Refused (refusals.Status row.status))) (each row) tt

module _ (P : Language) (h : List Entry) where
  forked-expected : (id source : Text) (below : ℕ) (o : Option FlowRow) → Expected (forked P h id source below o)
  forked-expected id source below None = tt
  forked-expected id source below (Some row) =
      let repeat : Repeat = repeat_of (flow_at h (length h) id) row.function in
      let g : Given = Enters (fork_entry h id source row below) (EntryOf (length h + 1) id) in
      unless-expected (fork_tests P h id source below) (once repeat id g) (once-expected repeat id g tt)

  commanded-expected : (command : Command) → Expected (commanded P h command)
  commanded-expected (Load table rows) =
      unless-expected ((not (P.has_table table), refusals.UnknownTable) ∷ []) (Enters (load_entry h table rows) (reply.Entry (length h + 1))) tt
  commanded-expected (Start given function args) =
      let id : Text = id_or_made h given in
      let repeat : Repeat = repeat_of (flow_at h (length h) id) function in
      let g : Given = Enters (start_entry h id function args) (EntryOf (length h + 1) id) in
      unless-expected (start_tests P h id function args) (once repeat id g) (once-expected repeat id g tt)
  commanded-expected (Enqueue given queue function args) =
      let id : Text = id_or_made h given in
      let repeat : Repeat = repeat_of (flow_at h (length h) id) function in
      let g : Given = Enters (enqueue_entry h id queue function args) (EntryOf (length h + 1) id) in
      unless-expected (enqueue_tests P h id queue function args) (once repeat id g) (once-expected repeat id g tt)
  commanded-expected (Cancel id) =
      on_flow-expected may_cancel (λ (row : FlowRow). Enters (cancel_entry h id row) (reply.Entry (length h + 1))) (flow_at h (length h) id) (λ row. tt)
  commanded-expected (Resume id) =
      on_flow-expected may_resume (λ (row : FlowRow). Enters (resume_entry h id row) (reply.Entry (length h + 1))) (flow_at h (length h) id) (λ row. tt)
  commanded-expected (Fork source below to) = forked-expected (id_or_made h to) source below (flow_at h (length h) source)
  commanded-expected (Recover id) =
      on_flow-expected is_pending (λ (row : FlowRow). Enters (recover_entry h id row (recovered row.status row.attempts)) (reply.Entry (length h + 1))) (flow_at h (length h) id) (λ row. tt)

  -- ---- dequeues and looks

  next-expected : (n : Next) → Expected (dequeued_next h n)
  next-expected (Ready f) = tt
  next-expected NoneWaits = tt
  next-expected (Limited running) = tt

  dequeued-expected : (o : Option Queue) → Expected (dequeued_from h o)
  dequeued-expected None = tt
  dequeued-expected (Some q) = next-expected (next_of q (flows_at h (length h)))

  shown-expected : (id : Text) (o : Option FlowRow) → IsExpected (shown id o)
  shown-expected id None = tt
  shown-expected id (Some row) = tt

  got-expected : (o : Option Val) → IsExpected (got o)
  got-expected None = tt
  got-expected (Some v) = tt

  -- ---- turns

  module _ (id : Text) where
    committed-expected : (s : ℕ) (q : Request) (o : Option ℕ) → Expected (committed P h id s q (run_on P h id s q) o)
    committed-expected s q None = tt
    committed-expected s q (Some j) = tt

    txn-expected : (snap : Option ℕ) (q : Request) → Expected (txn_turn P h id snap q)
    txn-expected None q = tt
    txn-expected (Some s) q = committed-expected s q (writer_past h s (conflict_keys (run_on P h id s q)))

    outside-expected : (q : Request) (answer : Option Outcome) → Expected (outside_turn P h id q answer)
    outside-expected q None = tt
    outside-expected q (Some o) = tt

    child-expected : (q : Request) (child : Text) (o : Option FlowRow) → Expected (child_turn P h id q child o)
    child-expected q child None = tt
    child-expected q child (Some row) =
        either (bytes_eq row.function q.name)
        (enters P h id (child_entry h id q child (outcomes.Value (vals.Text child)) []))
        (enters P h id (child_entry h id q child (outcomes.Failure (codes "conflict")) [])) tt tt

    await-expected : (q : Request) (on : Text) (a : Awaited) → Expected (await_turn P h id q on a)
    await-expected q on awaited.Waiting = tt
    await-expected q on (awaited.Answer o) = tt

    asked-expected : (snap : Option ℕ) (answer : Option Outcome) (kind : AskKind) (q : Request) → Expected (asked P h id snap answer kind q)
    asked-expected snap answer asking.Txn q = txn-expected snap q
    asked-expected snap answer asking.Outside q = outside-expected q answer
    asked-expected snap answer asking.Child q =
        either (nat_lt 200 (length (child_id id q.n)))
        (enters P h id (child_entry h id q id (outcomes.Failure (codes "id")) []))
        (child_turn P h id q (child_id id q.n) (flow_at h (length h) (child_id id q.n))) tt (child-expected q (child_id id q.n) (flow_at h (length h) (child_id id q.n)))
    asked-expected snap answer asking.Await q = await-expected q (text_of q.args) (awaited_of (flow_at h (length h) (text_of q.args)))

    pending-is : (s : Status) → is_pending s ≡ true → s ≡ status.Pending
    pending-is status.Enqueued is = absurd cc
    pending-is status.Pending is = refl
    pending-is status.Success is = absurd cc
    pending-is status.Error is = absurd cc
    pending-is status.Cancelled is = absurd cc
    pending-is status.MaxRecoveryAttemptsExceeded is = absurd cc

    module _ (expects : ExpectsAll) (lawful : IsLawful P) (made : IsMade P h) (snap : Option ℕ) (answer : Option Outcome) where
      ended-expected : (row : FlowRow) → flow_at h (length h) id ≡ Some row → row.status ≡ status.Pending → (end : FlowEnd) → flow_end P h id row ≡ end → Expected (ended P h id snap answer row end)
      ended-expected row there runs (Done o) is = tt
      ended-expected row there runs (Asks q) is = asked-expected snap answer q.kind q
      ended-expected row there runs (Unexpected n recorded asks) is = expects P h id row lawful made there runs n recorded asks is

      by_status : (row : FlowRow) → flow_at h (length h) id ≡ Some row → (b : Bool) → is_pending row.status ≡ b
          → Expected (if b then ended P h id snap answer row (flow_end P h id row) else Answers (NotPending row.status))
      by_status row there true is = ended-expected row there (pending-is row.status is) (flow_end P h id row) refl
      by_status row there false is = tt

      turned-expected : (o : Option FlowRow) → flow_at h (length h) id ≡ o → Expected (turned_row P h id snap answer o)
      turned-expected None is = tt
      turned-expected (Some row) is = by_status row is (is_pending row.status) refl

module _ (P : Language) (expects : ExpectsAll) (lawful : IsLawful P) where
  given-expected : (h : List Entry) → IsMade P h → (ev : Event) (snap : Option ℕ) (answer : Option Outcome) → Expected (given P h ev snap answer)
  given-expected h made (Append text) snap answer = tt
  given-expected h made (Run command) snap answer = commanded-expected P h command
  given-expected h made (Turn id) snap answer = turned-expected P h id expects lawful made snap answer (flow_at h (length h) id) refl
  given-expected h made (Dequeue queue) snap answer = dequeued-expected P h (find (λ (q : Queue). bytes_eq q.name queue) P.queues)
  given-expected h made (ShowStatus id) snap answer = shown-expected P h id (flow_at h (length h) id)
  given-expected h made (GetRow table key) snap answer =
      either (P.has_table table) (Answers (got (row_at h (length h) table key))) (Answers (Refused refusals.UnknownTable)) (got-expected P h (row_at h (length h) table key)) tt
  given-expected h made Nothing snap answer = tt

  entered-expected : (st : State) (e : Entry) (r : Reply) (o : Option Limit) → IsExpected r → IsExpected (entered st e r o).1
  entered-expected st e r (Some limit) is = tt
  entered-expected st e r None is = is

  came-expected : (st : State) (ev : Event) (g : Given) → Expected g → IsExpected (came st ev g).1
  came-expected st ev (Enters e r) is = entered-expected st e r (full_of st.history e) is
  came-expected st ev (Answers r) is = is

  pub stepped-expected : (st : State) (ev : Event) (answer : Option Outcome) → IsMade P st.history → IsExpected (stepped P st ev answer).reply
  stepped-expected st ev answer made = came-expected st ev (given P st.history ev (snap_of st.begun ev) answer) (given-expected st.history made ev (snap_of st.begun ev) answer)
