-- Each way in which a turn ends, as a step of the machine. The executor's answers cite these.
use Rattle.std.proofs.Common.{◌≡◌, ℕ, ◌+◌, Bool, true, false, List, [], length, Option, Some, None, refl, ap, ◌∙◌}
use Rattle.std.specs.Prelude.{if◌then◌else◌}
use Rattle.std.specs.FinMap.Entries.{find}
use Rattle.r3_value.specs.declared.value.Outcome.{Outcome}
use Rattle.r3_rows.specs.declared.rows.FlowRow.{FlowRow}
use Rattle.r3_entry.specs.declared.entry.Entry.{Entry}
use Rattle.r3_rows.specs.Keys.{bytes_cmp}
use Rattle.r3_model.specs.Language.{Text, Language}
use Rattle.fn_tree.specs.declared.flow.Request.{Request}
use Rattle.fn_tree.specs.declared.flow.AskKind.{AskKind}
use Rattle.fn_tree.specs.declared.flow.AskKind.TheVariants as asking
use Rattle.fn_tree.specs.declared.flow.FlowEnd.{FlowEnd}
use Rattle.fn_tree.specs.declared.flow.FlowEnd.TheVariants.{Done, Asks, Unexpected}
use Rattle.r3_model.specs.Event.{Event, Turn, Reply, NotPending, Unexpects, Began, Call}
use Rattle.r3_model.specs.Event as reply
use Rattle.r3_model.specs.Given.{Given, Enters, Answers}
use Rattle.r3_model.specs.Rows.{flow_at}
use Rattle.sys_queue.specs.Rows.{is_pending}
use Rattle.r3_model.specs.Acts.{finish_entry}
use Rattle.r3_model.specs.Turns.{turned_row, ended, asked, flow_end, calls_row, asks_outside}
use Rattle.r3_model.specs.Machine.{State, Out, given, calls_of, call_with, came, entered, full_of, snap_of, after_reply, opened}
use Rattle.r3_model.specs.Goes.{Steps}

module _ (P : Language) (st : State) (ev : Event) (answer : Option Outcome) (calls : List Call) (calls_are : calls_of P st.history ev answer ≡ calls) where
  out : State × Reply → Out
  out x = record { state = x.0; reply = x.1; calls = calls_of P st.history ev answer }

  -- an event that is answered with no entry
  pub steps-answers : (r : Reply) → given P st.history ev (snap_of st.begun ev) answer ≡ Answers r → Steps P st ev r calls (record { history = st.history; begun = after_reply ev r st.begun })
  steps-answers r is = record {
    answer = answer;
    is =
        ap (λ (g : Given). record { state = (came st ev g).0; reply = (came st ev g).1; calls = calls_of P st.history ev answer }) is
        ∙ ap (λ (k : List Call). record { state = record { history = st.history; begun = after_reply ev r st.begun }; reply = r; calls = k }) calls_are;
  }

  -- an event with an entry, for which there was room or not
  pub steps-enters : (e : Entry) (r r' : Reply) (new : State) → given P st.history ev (snap_of st.begun ev) answer ≡ Enters e r → entered st e r (full_of st.history e) ≡ (new, r') → Steps P st ev r' calls new
  steps-enters e r r' new is put = record {
    answer = answer;
    is =
        ap (λ (g : Given). record { state = (came st ev g).0; reply = (came st ev g).1; calls = calls_of P st.history ev answer }) is
        ∙ ap (λ (x : State × Reply). record { state = x.0; reply = x.1; calls = calls_of P st.history ev answer }) put
        ∙ ap (λ (k : List Call). record { state = new; reply = r'; calls = k }) calls_are;
  }

module _ (P : Language) (st : State) (id : Text) (row : FlowRow) (there : flow_at st.history (length st.history) id ≡ Some row) where
  abbrev h : List Entry
  h = st.history

  not_pending : (b : Bool) (g o : Given) → b ≡ false → (if b then g else o) ≡ o
  not_pending false g o e = refl
  not_pending true g o e = absurd cc

  pending : {A : Type 0} (b : Bool) (g o : A) → b ≡ true → (if b then g else o) ≡ g
  pending true g o e = refl
  pending false g o e = absurd cc

  not_asking : (b : Bool) (q : Option Request) → b ≡ false → (if b then q else None) ≡ None
  not_asking false q e = refl
  not_asking true q e = absurd cc

  -- a workflow that isn't running
  pub steps-not_pending : is_pending row.status ≡ false → Steps P st (Turn id) (NotPending row.status) [] st
  steps-not_pending ended =
      let none : calls_of P h (Turn id) None ≡ [] = ap (λ (o : Option FlowRow). call_with P h id None (calls_row P h id o)) there ∙ ap (λ (q : Option Request). call_with P h id None q) (not_asking (is_pending row.status) _ ended) in
      let is : given P h (Turn id) (snap_of st.begun (Turn id)) None ≡ Answers (NotPending row.status) = ap (λ (o : Option FlowRow). turned_row P h id (snap_of st.begun (Turn id)) None o) there ∙ not_pending (is_pending row.status) _ _ ended in
      steps-answers P st (Turn id) None [] none (NotPending row.status) is

  -- a running one is where its function's run ends
  pub given-pending : is_pending row.status ≡ true → (snap : Option ℕ) (answer : Option Outcome) (e : FlowEnd) → flow_end P h id row ≡ e → given P h (Turn id) snap answer ≡ ended P h id snap answer row e
  given-pending runs snap answer e is =
      ap (λ (o : Option FlowRow). turned_row P h id snap answer o) there ∙ pending (is_pending row.status) _ _ runs ∙ ap (λ (x : FlowEnd). ended P h id snap answer row x) is

  pub calls-pending : is_pending row.status ≡ true → (answer : Option Outcome) (e : FlowEnd) → flow_end P h id row ≡ e → calls_of P h (Turn id) answer ≡ call_with P h id answer (asks_outside P h id e)
  calls-pending runs answer e is =
      ap (λ (o : Option FlowRow). call_with P h id answer (calls_row P h id o)) there ∙ ap (λ (q : Option Request). call_with P h id answer q) (pending (is_pending row.status) _ _ runs)
      ∙ ap (λ (x : FlowEnd). call_with P h id answer (asks_outside P h id x)) is

  -- ---- each end

  pub steps-unexpected : is_pending row.status ≡ true → (n : ℕ) (recorded asks : Text) → flow_end P h id row ≡ Unexpected n recorded asks → Steps P st (Turn id) (Unexpects n recorded asks) [] st
  steps-unexpected runs n recorded asks is = steps-answers P st (Turn id) None [] (calls-pending runs None _ is) (Unexpects n recorded asks) (given-pending runs _ None _ is)

  pub steps-done : is_pending row.status ≡ true → (o : Outcome) → flow_end P h id row ≡ Done o → (new : State) (r : Reply) → entered st (finish_entry h id row o) (reply.Entry (length h + 1)) (full_of h (finish_entry h id row o)) ≡ (new, r) → Steps P st (Turn id) r [] new
  steps-done runs o is new r put = steps-enters P st (Turn id) None [] (calls-pending runs None _ is) (finish_entry h id row o) _ r new (given-pending runs _ None _ is) put

  pub steps-began : is_pending row.status ≡ true → (q : Request) → flow_end P h id row ≡ Asks q → q.kind ≡ asking.Txn → find bytes_cmp id st.begun ≡ None → Steps P st (Turn id) (Began (length h)) [] (record { history = h; begun = opened id (length h) st.begun })
  steps-began runs q is kind none =
      let no_call : calls_of P h (Turn id) None ≡ [] = calls-pending runs None _ is ∙ ap (λ (k : AskKind). call_with P h id None (elim k as (λ _. Option Request) [ asking.Txn ↦ None | asking.Outside ↦ Some q | _ ↦ None ])) kind in
      let gives : given P h (Turn id) (snap_of st.begun (Turn id)) None ≡ Answers (Began (length h)) =
      given-pending runs (snap_of st.begun (Turn id)) None _ is ∙ ap (λ (k : AskKind). asked P h id (snap_of st.begun (Turn id)) None k q) kind ∙ ap (λ (s : Option ℕ). asked P h id s None asking.Txn q) none in
      steps-answers P st (Turn id) None [] no_call (Began (length h)) gives
