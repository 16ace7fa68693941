-- Each entry that an event gives is one of the cases.
use Rattle.std.proofs.Common.{◌≡◌, ℕ, ◌+◌, ◌≤◌, Bool, true, false, cond, List, [], ◌∷◌, length, Option, Some, None, refl, sym, arith, inl, inr}
use Rattle.std.specs.Prelude.{if◌then◌else◌, nat_lt, nat_le, bytes_eq, not, codes, find, filter}
use Rattle.std.specs.List.{AllByRecursion}
use Rattle.r3_value.specs.declared.value.Val.TheVariants as vals
use Rattle.r3_value.specs.declared.value.Outcome.{Outcome}
use Rattle.r3_value.specs.declared.value.Outcome.TheVariants as outcomes
use Rattle.r3_rows.specs.declared.rows.FlowRow.{FlowRow}
use Rattle.r3_rows.specs.declared.rows.Status.TheVariants as status
use Rattle.r3_entry.specs.declared.entry.Entry.{Entry}
use Rattle.r3_model.specs.Language.{Text, Language, Queue}
use Rattle.fn_tree.specs.declared.flow.Request.{Request}
use Rattle.fn_tree.specs.declared.flow.AskKind.{AskKind}
use Rattle.fn_tree.specs.declared.flow.AskKind.TheVariants as asking
use Rattle.fn_tree.specs.declared.flow.FlowEnd.{FlowEnd}
use Rattle.fn_tree.specs.declared.flow.FlowEnd.TheVariants.{Done, Asks, Unexpected}
use Rattle.sys_flow.specs.declared.command.Command.TheVariants.{Load, Start, Enqueue, Cancel, Resume, Fork, Recover}
use Rattle.r3_model.specs.Event.{Event, Append, Run, Turn, Dequeue, ShowStatus, GetRow, Nothing, Reply, Refused}
use Rattle.sys_flow.specs.declared.command.Refusal.TheVariants.{UnknownTable}
use Rattle.r3_model.specs.Event as reply
use Rattle.r3_model.specs.Given.{Enters, Answers}
use Rattle.sys_flow.specs.Children.{child_id}
use Rattle.r3_model.specs.Rows.{Flow, flow_at, flows_at, row_at}
use Rattle.sys_queue.specs.Rows.{is_pending, is_enqueued, is_in, is_waiting}
use Rattle.r3_model.specs.Acts.{load_entry, cancel_entry, resume_entry, recover_entry, child_entry}
use Rattle.sys_flow.specs.Statuses.{may_cancel, may_resume, recovered}
use Rattle.r3_model.specs.Commands.{id_or_made, start_tests, enqueue_tests, fork_tests, forked}
use Rattle.r3_model.specs.Queues.{Next, Ready, NoneWaits, Limited, next_of, waiting, running, dequeued_next, dequeued_from}
use Rattle.r3_model.specs.Turns.{enters, turned_row, ended, asked, flow_end, txn_turn, committed, outside_turn, child_turn, await_turn, text_of, run_on, writer_past, conflict_keys}
use Rattle.sys_flow.specs.declared.awaits.Awaited.{Awaited}
use Rattle.sys_flow.specs.declared.awaits.Awaited.TheVariants as awaited
use Rattle.sys_flow.specs.Awaits.{awaited_of}
use Rattle.r3_model.specs.Machine.{given, got}
use Rattle.r3_laws.proofs.Cases.{AskCase, commits, hears, bears, links, awaits, TurnCase, finishes, goes_on, Case, programs, loads, starts, enqueues, dequeues, turns, cancels, resumes, forks, recovers}
use Rattle.r3_laws.proofs.Flows.{flows_at-there}
use Rattle.r3_laws.proofs.Refusals.{passed, fresh, by_test, there, pending-is, enqueued-is}
use Rattle.r3_laws.proofs.Tells.{same_entry, no_entry}
use Rattle.r3_laws.proofs.TellsDequeue.{both, all-by_start, first-is, by_bound}

module _ (P : Language) (h : List Entry) (id : Text) (snap : Option ℕ) (answer : Option Outcome) (e : Entry) (r : Reply) where
  abbrev IsAskCase : Request → Type 0
  IsAskCase q = AskCase P h id q snap answer e

  made : {e0 : Entry} {r0 : Reply} → Enters e0 r0 ≡ Enters e r → e ≡ e0
  made {e0 = e0} {r0 = r0} is = sym (same_entry e0 e r0 r is)

  committed-case : (q : Request) (s : ℕ) (o : Option ℕ) → q.kind ≡ asking.Txn → snap ≡ Some s → writer_past h s (conflict_keys (run_on P h id s q)) ≡ o → committed P h id s q (run_on P h id s q) o ≡ Enters e r → IsAskCase q
  committed-case q s None kind open_at none is = commits s kind open_at none (made is)
  committed-case q s (Some j) kind open_at none is = no_entry _ r e is

  txn-case : (q : Request) (o : Option ℕ) → q.kind ≡ asking.Txn → snap ≡ o → txn_turn P h id o q ≡ Enters e r → IsAskCase q
  txn-case q None kind open_at is = no_entry _ r e is
  txn-case q (Some s) kind open_at is = committed-case q s (writer_past h s (conflict_keys (run_on P h id s q))) kind open_at refl is

  outside-case : (q : Request) (o : Option Outcome) → q.kind ≡ asking.Outside → answer ≡ o → outside_turn P h id q o ≡ Enters e r → IsAskCase q
  outside-case q None kind heard is = no_entry _ r e is
  outside-case q (Some o) kind heard is = hears o kind heard (made is)

  child_by : (q : Request) (b : Bool) → q.kind ≡ asking.Child → length (child_id id q.n) ≤ 200
      → (if b then enters P h id (child_entry h id q (child_id id q.n) (outcomes.Value (vals.Text (child_id id q.n))) []) else enters P h id (child_entry h id q (child_id id q.n) (outcomes.Failure (codes "conflict")) [])) ≡ Enters e r → IsAskCase q
  child_by q true kind few is = links (child_id id q.n) _ kind (inr (refl, few)) (inl refl) (made is)
  child_by q false kind few is = links (child_id id q.n) _ kind (inr (refl, few)) (inr (inr refl)) (made is)

  child-case : (q : Request) (o : Option FlowRow) → q.kind ≡ asking.Child → flow_at h (length h) (child_id id q.n) ≡ o → length (child_id id q.n) ≤ 200 → child_turn P h id q (child_id id q.n) o ≡ Enters e r → IsAskCase q
  child-case q None kind gone few is = bears kind gone few (made is)
  child-case q (Some row) kind gone few is = child_by q (bytes_eq row.function q.name) kind few is

  few_bytes : (n : ℕ) → nat_lt 200 n ≡ false → n ≤ 200
  few_bytes n is = grind arith

  id-case : (q : Request) (b : Bool) → q.kind ≡ asking.Child → nat_lt 200 (length (child_id id q.n)) ≡ b
      → (if b then enters P h id (child_entry h id q id (outcomes.Failure (codes "id")) []) else child_turn P h id q (child_id id q.n) (flow_at h (length h) (child_id id q.n))) ≡ Enters e r → IsAskCase q
  id-case q true kind long is = links id _ kind (inl refl) (inr (inl refl)) (made is)
  id-case q false kind long is = child-case q (flow_at h (length h) (child_id id q.n)) kind refl (few_bytes _ long) is

  await-case : (q : Request) (w : Awaited) → q.kind ≡ asking.Await → awaited_of (flow_at h (length h) (text_of q.args)) ≡ w → await_turn P h id q (text_of q.args) w ≡ Enters e r → IsAskCase q
  await-case q awaited.Waiting kind found is = no_entry _ r e is
  await-case q (awaited.Answer o) kind found is = awaits o kind found (made is)

  asked-case : (q : Request) (kind : AskKind) → q.kind ≡ kind → asked P h id snap answer kind q ≡ Enters e r → IsAskCase q
  asked-case q asking.Txn kind is = txn-case q snap kind refl is
  asked-case q asking.Outside kind is = outside-case q answer kind refl is
  asked-case q asking.Child kind is = id-case q (nat_lt 200 (length (child_id id q.n))) kind refl is
  asked-case q asking.Await kind is = await-case q (awaited_of (flow_at h (length h) (text_of q.args))) kind refl is

  ended-case : (row : FlowRow) (f : FlowEnd) → flow_end P h id row ≡ f → ended P h id snap answer row f ≡ Enters e r → TurnCase P h id row snap answer e
  ended-case row (Done o) ends is = finishes o ends (made is)
  ended-case row (Asks q) ends is = goes_on q ends (asked-case q q.kind refl is)
  ended-case row (Unexpected n recorded asks) ends is = no_entry _ r e is

  turned-case : (o : Option FlowRow) → flow_at h (length h) id ≡ o → turned_row P h id snap answer o ≡ Enters e r → Case P h (Turn id) snap answer e
  turned-case None found is = no_entry _ r e is
  turned-case (Some row) found is =
      let t = by_test (is_pending row.status) (ended P h id snap answer row (flow_end P h id row)) _ e r is in
      turns id row refl found (pending-is row.status t.0) (ended-case row (flow_end P h id row) refl t.1)

-- ---- a queue's next workflow waits there

kept_too : {X : Type 0} (A : X → Type 0) (test : X → Bool) (x : X) (xs : List X) (b : Bool) → test x ≡ b → A x → AllByRecursion (λ y. A y × (test y ≡ true)) xs → AllByRecursion (λ y. A y × (test y ≡ true)) (cond b (x ∷ xs) xs)
kept_too A test x xs true is a all = ((a, is), all)
kept_too A test x xs false is a all = all

pub all-kept : {X : Type 0} (A : X → Type 0) (test : X → Bool) (xs : List X) → AllByRecursion A xs → AllByRecursion (λ y. A y × (test y ≡ true)) (filter test xs)
all-kept A test [] all = tt
all-kept A test (x ∷ xs) all = kept_too A test x (filter test xs) (test x) refl all.0 (all-kept A test xs all.1)

waiting-is : (h : List Entry) (q : Queue) (fs : List Flow) (f : Flow) → AllByRecursion (λ (g : Flow). flow_at h (length h) g.id ≡ Some g.row) fs → next_of q fs ≡ Ready f
    → (flow_at h (length h) f.id ≡ Some f.row) × (f.row.status ≡ status.Enqueued)
waiting-is h q fs f all found =
    let IsThere : Flow → Type 0 = λ g. flow_at h (length h) g.id ≡ Some g.row in
    let waits : Flow → Bool = λ g. is_waiting q.name g.row in
    let Waits : Flow → Type 0 = λ g. IsThere g × (waits g ≡ true) in
    let w = first-is Waits (waiting q.name fs) f (all-by_start Waits _ (all-kept IsThere waits fs all)) (by_bound q fs f (nat_le q.bound (length (running q.name fs))) found) in
    (w.0, enqueued-is f.row.status (both (is_in q.name f.row.queue) (is_enqueued f.row.status) w.1).1)

module _ (P : Language) (h : List Entry) (snap : Option ℕ) (answer : Option Outcome) (e : Entry) (r : Reply) where
  by_next : (queue : Text) (q : Queue) (n : Next) → next_of q (flows_at h (length h)) ≡ n → dequeued_next h n ≡ Enters e r → Case P h (Dequeue queue) snap answer e
  by_next queue q (Ready f) found is =
      let w = waiting-is h q (flows_at h (length h)) f (flows_at-there h (length h)) found in
      dequeues queue f refl w.0 w.1 (sym (same_entry _ e _ r is))
  by_next queue q NoneWaits found is = no_entry _ r e is
  by_next queue q (Limited k) found is = no_entry _ r e is

  queue-case : (queue : Text) (o : Option Queue) → dequeued_from h o ≡ Enters e r → Case P h (Dequeue queue) snap answer e
  queue-case queue None is = no_entry _ r e is
  queue-case queue (Some q) is = by_next queue q (next_of q (flows_at h (length h))) refl is

  fork-case : (id : Option Text) (source : Text) (below : ℕ) (o : Option FlowRow) → flow_at h (length h) source ≡ o → forked P h (id_or_made h id) source below o ≡ Enters e r → Case P h (Run (Fork source below id)) snap answer e
  fork-case id source below None found is = no_entry _ r e is
  fork-case id source below (Some row) found is =
      let t = passed (fork_tests P h (id_or_made h id) source below) _ e r is in
      let f = fresh (flow_at h (length h) (id_or_made h id)) row.function (id_or_made h id) _ e r t.1 in
      forks id source below row refl f.0 found t.0 (sym (same_entry _ e _ r f.1))

  looked : (b : Bool) (x y : Reply) → (if b then Answers x else Answers y) ≡ Enters e r → ⊥
  looked true x y is = no_entry x r e is
  looked false x y is = no_entry y r e is

  pub case-of : (ev : Event) → given P h ev snap answer ≡ Enters e r → Case P h ev snap answer e
  case-of (Append text) is = programs text refl (sym (same_entry _ e _ r is))
  case-of (Run (Load table rows)) is =
      let t = passed ((not (P.has_table table), UnknownTable) ∷ []) (Enters (load_entry h table rows) (reply.Entry (length h + 1))) e r is in
      loads table rows refl (sym (same_entry _ e _ r t.1))
  case-of (Run (Start id function args)) is =
      let t = passed (start_tests P h (id_or_made h id) function args) _ e r is in
      let f = fresh (flow_at h (length h) (id_or_made h id)) function (id_or_made h id) _ e r t.1 in
      starts id function args refl f.0 t.0 (sym (same_entry _ e _ r f.1))
  case-of (Run (Enqueue id queue function args)) is =
      let t = passed (enqueue_tests P h (id_or_made h id) queue function args) _ e r is in
      let f = fresh (flow_at h (length h) (id_or_made h id)) function (id_or_made h id) _ e r t.1 in
      enqueues id queue function args refl f.0 t.0 (sym (same_entry _ e _ r f.1))
  case-of (Run (Cancel id)) is = let t = there may_cancel (λ row. cancel_entry h id row) _ (flow_at h (length h) id) e r is in cancels id t.0 refl t.1 t.2 t.3
  case-of (Run (Resume id)) is = let t = there may_resume (λ row. resume_entry h id row) _ (flow_at h (length h) id) e r is in resumes id t.0 refl t.1 t.2 t.3
  case-of (Run (Fork source below id)) is = fork-case id source below (flow_at h (length h) source) refl is
  case-of (Run (Recover id)) is =
      let t = there is_pending (λ row. recover_entry h id row (recovered row.status row.attempts)) _ (flow_at h (length h) id) e r is in
      recovers id t.0 refl t.1 (pending-is t.0.status t.2) t.3
  case-of (Turn id) is = turned-case P h id snap answer e r (flow_at h (length h) id) refl is
  case-of (Dequeue queue) is = queue-case queue (find (λ (q : Queue). bytes_eq q.name queue) P.queues) is
  case-of (ShowStatus id) is = no_entry _ r e is
  case-of (GetRow table key) is = absurd (looked (P.has_table table) (got (row_at h (length h) table key)) (Refused UnknownTable) is)
  case-of Nothing is = no_entry _ r e is
