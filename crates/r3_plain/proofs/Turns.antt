-- What a turn comes to, by its pieces.
use Rattle.std.proofs.Common.{◌≡◌, ℕ, ◌+◌, Bool, true, List, length, Option, Some, None, refl, sym, ap, ◌∙◌, subst}
use Rattle.std.specs.Prelude.{find, if◌then◌else◌, bytes_eq}
use Rattle.std.specs.FinMap.Entries as sorted_list
use Rattle.r3_value.specs.declared.value.Outcome.{Outcome}
use Rattle.r3_rows.specs.declared.rows.FlowRow.{FlowRow}
use Rattle.r3_rows.specs.declared.rows.Status.TheVariants as status
use Rattle.r3_rows.specs.Keys.{bytes_cmp}
use Rattle.r3_entry.specs.declared.entry.Entry.{Entry}
use Rattle.fn_tree.specs.declared.flow.AskKind.{AskKind}
use Rattle.fn_tree.specs.declared.flow.AskKind.TheVariants as asking
use Rattle.fn_tree.specs.declared.flow.FlowEnd.{FlowEnd}
use Rattle.fn_tree.specs.declared.flow.FlowEnd.TheVariants.{Asks}
use Rattle.fn_tree.specs.declared.flow.Request.{Request}
use Rattle.fn_tree.specs.declared.look.TxnRun.{TxnRun}
use Rattle.sys_queue.specs.Rows.{is_pending}
use Rattle.r3_model.specs.Acts.{txn_entry}
use Rattle.r3_model.specs.Event.{Turn}
use Rattle.r3_model.specs.Event as reply
use Rattle.r3_model.specs.Given.{Enters, Answers}
use Rattle.r3_model.specs.Language.{Language, Text, Queue}
use Rattle.r3_model.specs.Machine.{State, call_with}
use Rattle.r3_model.specs.Queues.{dequeued, dequeued_from, dequeued_next, next_of}
use Rattle.r3_model.specs.Rows.{Flow, flow_at, flows_at}
use Rattle.r3_model.specs.Turns.{asked, asks_outside, calls_row, committed, ended, flow_end, turned_row}
use Rattle.r3_plain.specs.Comes.{ComesTo, Happens}
use Rattle.r3_plain.specs.declared.given.Turned.{Turned}

-- ---- a dequeue

pub dequeue_by : (P : Language) (h : List Entry) (name : Text) (q : Queue) (fs : List Flow) → find (λ (q : Queue). bytes_eq q.name name) P.queues ≡ Some q → fs ≡ flows_at h (length h)
    → dequeued_next h (next_of q fs) ≡ dequeued h P name
dequeue_by P h name q fs found all =
    ap (λ (gs : List Flow). dequeued_next h (next_of q gs)) all ∙ ap (λ (o : Option Queue). dequeued_from h o) (sym found)

module _ (P : Language) (h : List Entry) (id : Text) where
  -- ---- a transaction

  pub commits : (q : Request) (s : ℕ) (run : TxnRun) (o : Option ℕ) (e : Entry) (n : ℕ) → o ≡ None → e ≡ txn_entry h id q s run → n ≡ length h + 1
      → Enters e (reply.Entry n) ≡ committed P h id s q run o
  commits q s run o e n none made next =
      ap (λ (x : Entry). Enters x (reply.Entry n)) made ∙ ap (λ (k : ℕ). Enters (txn_entry h id q s run) (reply.Entry k)) next
      ∙ ap (λ (x : Option ℕ). committed P h id s q run x) (sym none)

  -- ---- an ask

  abbrev called_for : Request → AskKind → Option Request
  called_for q asking.Txn = None
  called_for q asking.Outside = Some q
  called_for q asking.Child = None
  called_for q asking.Await = None

  called_as : (r : Request) (x : AskKind) → elim x [ asking.Txn ↦ None | asking.Outside ↦ Some r | asking.Child ↦ None | asking.Await ↦ None ] ≡ called_for r x
  called_as r asking.Txn = refl
  called_as r asking.Outside = refl
  called_as r asking.Child = refl
  called_as r asking.Await = refl

  call_by : (q : Request) (k : AskKind) → q.kind ≡ k → asks_outside P h id (Asks q) ≡ called_for q k
  call_by q k kind = called_as q q.kind ∙ ap (λ (x : AskKind). called_for q x) kind

  module _ (snap : Option ℕ) (answer : Option Outcome) (t : Turned) where
    pub by_kind : (q : Request) (k : AskKind) → q.kind ≡ k → ComesTo t (asked P h id snap answer k q) (call_with P h id answer (called_for q k))
        → ComesTo t (asked P h id snap answer q.kind q) (call_with P h id answer (asks_outside P h id (Asks q)))
    by_kind q k kind comes = record {
      given = comes.given ∙ ap (λ (x : AskKind). asked P h id snap answer x q) (sym kind);
      calls = comes.calls ∙ ap (λ (o : Option Request). call_with P h id answer o) (sym (call_by q k kind));
    }

    -- ---- the function's end

    pub by_end : (row : FlowRow) (end : FlowEnd) → end ≡ flow_end P h id row → ComesTo t (ended P h id snap answer row end) (call_with P h id answer (asks_outside P h id end))
        → ComesTo t (ended P h id snap answer row (flow_end P h id row)) (call_with P h id answer (asks_outside P h id (flow_end P h id row)))
    by_end row end is comes = subst (λ (e : FlowEnd). ComesTo t (ended P h id snap answer row e) (call_with P h id answer (asks_outside P h id e))) is comes

    pub running : (row : FlowRow) → row.status ≡ status.Pending
        → ComesTo t (ended P h id snap answer row (flow_end P h id row)) (call_with P h id answer (asks_outside P h id (flow_end P h id row)))
        → ComesTo t (turned_row P h id snap answer (Some row)) (call_with P h id answer (calls_row P h id (Some row)))
    running row pending comes =
        let is : is_pending row.status ≡ true = ap is_pending pending in
        record {
          given = comes.given
              ∙ ap (λ (b : Bool). if b then ended P h id snap answer row (flow_end P h id row) else Answers (reply.NotPending row.status)) (sym is);
          calls = comes.calls ∙ ap (λ (b : Bool). call_with P h id answer (if b then asks_outside P h id (flow_end P h id row) else None)) (sym is);
        }

-- ---- the row that stands

pub of_row : (P : Language) (st : State) (id copy : Text) (row : FlowRow) (snap : Option ℕ) (answer : Option Outcome) (t : Turned)
    → flow_at st.history (length st.history) id ≡ Some row → copy ≡ id → snap ≡ sorted_list.find bytes_cmp copy st.begun
    → ComesTo t (turned_row P st.history copy snap answer (Some row)) (call_with P st.history copy answer (calls_row P st.history copy (Some row)))
    → Happens P st (Turn id) answer t
of_row P st id copy row snap answer t there same is comes =
    let at : ComesTo t (turned_row P st.history id (sorted_list.find bytes_cmp id st.begun) answer (Some row)) (call_with P st.history id answer (calls_row P st.history id (Some row))) =
    subst (λ (i : Text). ComesTo t (turned_row P st.history i (sorted_list.find bytes_cmp i st.begun) answer (Some row)) (call_with P st.history i answer (calls_row P st.history i (Some row)))) same
    (subst (λ (s : Option ℕ). ComesTo t (turned_row P st.history copy s answer (Some row)) (call_with P st.history copy answer (calls_row P st.history copy (Some row)))) is comes) in
    subst (λ (o : Option FlowRow). ComesTo t (turned_row P st.history id (sorted_list.find bytes_cmp id st.begun) answer o) (call_with P st.history id answer (calls_row P st.history id o))) (sym there) at
