-- An entry of a turn tells its event: the same turn, on the entry's snapshot and with the outcome that it records, gives it again.
use Rattle.std.proofs.Common.{◌≡◌, ℕ, Bool, true, false, List, length, Option, Some, None, refl, sym, ap, ◌∙◌, arith}
use Rattle.std.specs.Prelude.{if◌then◌else◌, bytes_eq, nat_lt}
use Rattle.std.specs.Ordering.{eq_by_cmp, is_eq, ordering_reverse}
use Rattle.std.specs.declared.cmp.Ordering.{Ordering}
use Rattle.std.specs.declared.cmp.Ordering.TheVariants.{Less, Equal, Greater}
use Rattle.r3_value.specs.declared.value.Outcome.{Outcome}
use Rattle.r3_rows.specs.declared.rows.Key.{Key}
use Rattle.r3_rows.specs.declared.rows.Key.TheVariants as keys
use Rattle.r3_rows.specs.declared.rows.FlowRow.{FlowRow}
use Rattle.r3_entry.specs.declared.entry.Act.TheVariants as acts
use Rattle.r3_entry.specs.declared.entry.Entry.{Entry}
use Rattle.r3_rows.specs.Keys.{key_cmp}
use Rattle.r3_rows.specs.KeyOrder.{key_cmp-total}
use Rattle.r3_model.specs.Language.{Text, Language}
use Rattle.fn_tree.specs.declared.flow.Request.{Request}
use Rattle.fn_tree.specs.declared.flow.AskKind.{AskKind}
use Rattle.fn_tree.specs.declared.flow.AskKind.TheVariants as asking
use Rattle.fn_tree.specs.declared.flow.FlowEnd.{FlowEnd}
use Rattle.fn_tree.specs.declared.flow.FlowEnd.TheVariants.{Done, Asks, Unexpected}
use Rattle.fn_tree.specs.declared.look.TxnRun.{TxnRun}
use Rattle.r3_model.specs.Event.{Turn, Reply, Conflicts}
use Rattle.r3_model.specs.Given.{Given, Enters, Answers}
use Rattle.r3_model.specs.Rows.{flow_at}
use Rattle.sys_queue.specs.Rows.{is_pending}
use Rattle.r3_model.specs.Acts.{txn_entry, outside_entry}
use Rattle.r3_model.specs.Turns.{turned, turned_row, ended, asked, flow_end, txn_turn, committed, outside_turn, child_turn, await_turn, text_of, run_on, writer_past, conflict_keys}
use Rattle.sys_flow.specs.declared.awaits.Awaited.{Awaited}
use Rattle.sys_flow.specs.declared.awaits.Awaited.TheVariants as awaited
use Rattle.sys_flow.specs.Awaits.{awaited_of}
use Rattle.r3_model.specs.Schedule.{event_of}
use Rattle.r3_model.specs.Made.{recorded}
use Rattle.sys_flow.specs.Children.{child_id}

pub same_entry : (e e' : Entry) (r r' : Reply) → Enters e r ≡ Enters e' r' → e ≡ e'
same_entry e e' r r' is = cc

pub no_entry : {A : Type 0} (r r' : Reply) (e : Entry) → Answers r ≡ Enters e r' → A
no_entry r r' e is = absurd cc

own_reverse : (o : Ordering) → o ≡ ordering_reverse o → is_eq o ≡ true
own_reverse Less e = absurd cc
own_reverse Equal e = refl
own_reverse Greater e = absurd cc

pub tie-refl : (q : Key) → eq_by_cmp key_cmp q q ≡ true
tie-refl q = own_reverse (key_cmp q q) (key_cmp-total.antisymm q q)

module _ (P : Language) (h : List Entry) (id : Text) where
  -- what is given, by the snapshot and the answer, is given again by the entry's own
  pub record Tells (G : Option ℕ → Option Outcome → Given) (e : Entry) (r : Reply) : Type 0 where
    pub event : event_of e ≡ Turn id
    pub again : G (Some e.snap) (recorded e e.act) ≡ Enters e r

  abbrev pub TellsAll : (Option ℕ → Option Outcome → Given) → Type 0
  TellsAll G = (snap : Option ℕ) (a : Option Outcome) (e : Entry) (r : Reply) → G snap a ≡ Enters e r → Tells G e r

  -- where snapshot and answer don't matter
  constant : (g : Given) → ((e : Entry) (r : Reply) → g ≡ Enters e r → event_of e ≡ Turn id) → TellsAll (λ snap a. g)
  constant g events snap a e r is = record { event = events e r is; again = is }

  entered_once : (e0 : Entry) (r0 : Reply) → event_of e0 ≡ Turn id → TellsAll (λ snap a. Enters e0 r0)
  entered_once e0 r0 ev = constant (Enters e0 r0) (λ e r is. ap event_of (sym (same_entry e0 e r0 r is)) ∙ ev)

  answered : (r0 : Reply) → TellsAll (λ snap a. Answers r0)
  answered r0 snap a e r is = no_entry r0 r e is

  -- ---- each ask

  committed-tells : (s : ℕ) (q : Request) (run : TxnRun) (o : Option ℕ) (e : Entry) (r : Reply) → committed P h id s q run o ≡ Enters e r → (event_of e ≡ Turn id) × (e.snap ≡ s)
  committed-tells s q run None e r is =
      let same : txn_entry h id q s run ≡ e = same_entry _ e _ r is in
      (ap event_of (sym same), ap (λ (x : Entry). x.snap) (sym same))
  committed-tells s q run (Some j) e r is = no_entry (Conflicts j) r e is

  txn-tells : (q : Request) → TellsAll (λ snap a. txn_turn P h id snap q)
  txn-tells q None a e r is = no_entry _ r e is
  txn-tells q (Some s) a e r is =
      let c = committed-tells s q (run_on P h id s q) (writer_past h s (conflict_keys (run_on P h id s q))) e r is in
      record { event = c.0; again = ap (λ (k : ℕ). txn_turn P h id (Some k) q) c.1 ∙ is }

  -- its entry records the outcome
  outside-recorded : (q : Request) (o : Outcome) → recorded (outside_entry h id q o) (acts.Outside id q.n q.args) ≡ Some o
  outside-recorded q o = grind (arith, tie-refl (keys.Step id q.n))

  outside-tells : (q : Request) → TellsAll (λ snap a. outside_turn P h id q a)
  outside-tells q snap None e r is = no_entry _ r e is
  outside-tells q snap (Some o) e r is =
      let same : outside_entry h id q o ≡ e = same_entry _ e _ r is in
      record {
        event = ap event_of (sym same);
        again = ap (λ (x : Entry). outside_turn P h id q (recorded x x.act)) (sym same) ∙ ap (λ (a : Option Outcome). outside_turn P h id q a) (outside-recorded q o) ∙ is;
      }

  by_test : (b : Bool) (x y : Given) → TellsAll (λ snap a. x) → TellsAll (λ snap a. y) → TellsAll (λ snap a. (if b then x else y))
  by_test true x y tx ty = tx
  by_test false x y tx ty = ty

  child-tells : (q : Request) (child : Text) (o : Option FlowRow) → TellsAll (λ snap a. child_turn P h id q child o)
  child-tells q child None = entered_once _ _ refl
  child-tells q child (Some row) = by_test (bytes_eq row.function q.name) _ _ (entered_once _ _ refl) (entered_once _ _ refl)

  await-tells : (q : Request) (on : Text) (w : Awaited) → TellsAll (λ snap a. await_turn P h id q on w)
  await-tells q on awaited.Waiting = answered _
  await-tells q on (awaited.Answer o) = entered_once _ _ refl

  asked-tells : (q : Request) (kind : AskKind) → TellsAll (λ snap a. asked P h id snap a kind q)
  asked-tells q asking.Txn = txn-tells q
  asked-tells q asking.Outside = outside-tells q
  asked-tells q asking.Child = by_test (nat_lt 200 (length (child_id id q.n))) _ _ (entered_once _ _ refl) (child-tells q (child_id id q.n) (flow_at h (length h) (child_id id q.n)))
  asked-tells q asking.Await = await-tells q (text_of q.args) (awaited_of (flow_at h (length h) (text_of q.args)))

  ended-tells : (row : FlowRow) (f : FlowEnd) → TellsAll (λ snap a. ended P h id snap a row f)
  ended-tells row (Done o) = entered_once _ _ refl
  ended-tells row (Asks q) = asked-tells q q.kind
  ended-tells row (Unexpected n recorded asks) = answered _

  by_status : (b : Bool) (G : Option ℕ → Option Outcome → Given) (r : Reply) → TellsAll G → TellsAll (λ snap a. (if b then G snap a else Answers r))
  by_status true G r t = t
  by_status false G r t = answered r

  row-tells : (o : Option FlowRow) → TellsAll (λ snap a. turned_row P h id snap a o)
  row-tells None = answered _
  row-tells (Some row) = by_status (is_pending row.status) (λ snap a. ended P h id snap a row (flow_end P h id row)) _ (ended-tells row (flow_end P h id row))

  pub turned-tells : TellsAll (λ snap a. turned P h id snap a)
  turned-tells = row-tells (flow_at h (length h) id)
