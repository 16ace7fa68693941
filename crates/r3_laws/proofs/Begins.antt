-- A turn that begins opens a snapshot.
use Rattle.std.proofs.Common.{◌≡◌, ℕ, ◌+◌, ◌≤◌, Bool, true, false, cond, ◌&&◌, List, [], ◌∷◌, length, Option, Some, None, refl, sym, subst, ap, ◌∙◌, arith}
use Rattle.std.specs.Prelude.{if◌then◌else◌, find, nat_lt, bytes_eq, option_map, codes}
use Rattle.std.specs.List.{enumerate_from, list_any}
use Rattle.r3_value.specs.declared.value.Val.TheVariants as vals
use Rattle.r3_value.specs.declared.value.Outcome.{Outcome}
use Rattle.r3_value.specs.declared.value.Outcome.TheVariants as outcomes
use Rattle.r3_rows.specs.declared.rows.Key.{Key}
use Rattle.r3_rows.specs.declared.rows.Cell.{Cell}
use Rattle.r3_rows.specs.declared.rows.FlowRow.{FlowRow}
use Rattle.r3_rows.specs.declared.rows.Status.TheVariants as status
use Rattle.r3_entry.specs.declared.entry.Entry.{Entry}
use Rattle.r3_model.specs.Language.{Text, Language}
use Rattle.fn_tree.specs.declared.flow.Request.{Request}
use Rattle.fn_tree.specs.declared.flow.AskKind.{AskKind}
use Rattle.fn_tree.specs.declared.flow.AskKind.TheVariants as asking
use Rattle.fn_tree.specs.declared.flow.FlowEnd.{FlowEnd}
use Rattle.fn_tree.specs.declared.flow.FlowEnd.TheVariants.{Done, Asks, Unexpected}
use Rattle.r3_model.specs.Event.{Reply, Began}
use Rattle.r3_model.specs.Given.{Given, Enters, Answers}
use Rattle.sys_flow.specs.Children.{child_id}
use Rattle.r3_model.specs.Rows.{flow_at}
use Rattle.sys_queue.specs.Rows.{is_pending}
use Rattle.r3_model.specs.Acts.{child_entry}
use Rattle.r3_model.specs.Turns.{enters, turned, turned_row, ended, asked, flow_end, txn_turn, committed, outside_turn, child_turn, await_turn, text_of, run_on, writer_past, conflict_keys}
use Rattle.sys_flow.specs.declared.awaits.Awaited.{Awaited}
use Rattle.sys_flow.specs.declared.awaits.Awaited.TheVariants as awaited
use Rattle.sys_flow.specs.Awaits.{awaited_of}
use Rattle.r3_model.specs.Made.{is_own}
use Rattle.r3_model.specs.Valid.{IsOpen}
use Rattle.r3_laws.proofs.Opens.{writes}
use Rattle.r3_laws.proofs.Refusals.{pending-is}

-- ---- no entry is past the last

early : (s n : ℕ) (b : Bool) → n ≤ s → (nat_lt s n && b) ≡ false
early s n b le = let e : nat_lt s n ≡ false = grind arith in ap (λ (c : Bool). c && b) e

none-late : (s : ℕ) (p : Key → Bool) (n : ℕ) (h : List Entry) → n + length h ≤ s + 1 → find (writes s p) (enumerate_from n h) ≡ None
none-late s p n [] le = refl
none-late s p n (x ∷ xs) le =
    ap (λ (b : Bool). cond b (Some (n, x)) (find (writes s p) (enumerate_from (n + 1) xs))) (early s n (list_any (λ (w : Key × Option Cell). p w.0) x.writes) (omega arith))
    ∙ none-late s p (n + 1) xs (omega arith)

pub none-past_end : (h : List Entry) (p : Key → Bool) → writer_past h (length h) p ≡ None
none-past_end h p = ap (λ (o : Option (ℕ × Entry)). option_map (λ (e : ℕ × Entry). e.0) o) (none-late (length h) p 1 h (omega arith))

-- ---- what began

no_answer : {A : Type 0} (e : Entry) (r r' : Reply) → Enters e r ≡ Answers r' → A
no_answer e r r' is = absurd cc

module _ (P : Language) (h : List Entry) (id : Text) (snap : Option ℕ) (answer : Option Outcome) (s : ℕ) where
  abbrev Begun : Given → Type 0
  Begun g = g ≡ Answers (Began s)

  committed-begun : {A : Type 0} (q : Request) (k : ℕ) (o : Option ℕ) → Begun (committed P h id k q (run_on P h id k q) o) → A
  committed-begun q k None is = no_answer _ _ _ is
  committed-begun q k (Some j) is = absurd cc

  txn-begun : (q : Request) (o : Option ℕ) → Begun (txn_turn P h id o q) → s ≡ length h
  txn-begun q None is = cc
  txn-begun q (Some k) is = committed-begun q k (writer_past h k (conflict_keys (run_on P h id k q))) is

  outside-begun : {A : Type 0} (q : Request) (o : Option Outcome) → Begun (outside_turn P h id q o) → A
  outside-begun q None is = absurd cc
  outside-begun q (Some o) is = no_answer _ _ _ is

  enters-begun : {A : Type 0} (b : Bool) (e f : Entry) → Begun (if b then enters P h id e else enters P h id f) → A
  enters-begun true e f is = no_answer _ _ _ is
  enters-begun false e f is = no_answer _ _ _ is

  child-begun : {A : Type 0} (q : Request) (child : Text) (o : Option FlowRow) → Begun (child_turn P h id q child o) → A
  child-begun q child None is = no_answer _ _ _ is
  child-begun q child (Some row) is =
      enters-begun (bytes_eq row.function q.name) (child_entry h id q child (outcomes.Value (vals.Text child)) []) (child_entry h id q child (outcomes.Failure (codes "conflict")) []) is

  id-begun : {A : Type 0} (q : Request) (child : Text) (b : Bool) (e : Entry) → Begun (if b then enters P h id e else child_turn P h id q child (flow_at h (length h) child)) → A
  id-begun q child true e is = no_answer _ _ _ is
  id-begun q child false e is = child-begun q child (flow_at h (length h) child) is

  await-begun : {A : Type 0} (q : Request) (on : Text) (w : Awaited) → Begun (await_turn P h id q on w) → A
  await-begun q on awaited.Waiting is = absurd cc
  await-begun q on (awaited.Answer o) is = no_answer _ _ _ is

  asked-begun : (q : Request) (kind : AskKind) → Begun (asked P h id snap answer kind q) → (s ≡ length h) × (kind ≡ asking.Txn)
  asked-begun q asking.Txn is = (txn-begun q snap is, refl)
  asked-begun q asking.Outside is = outside-begun q answer is
  asked-begun q asking.Child is = id-begun q (child_id id q.n) (nat_lt 200 (length (child_id id q.n))) (child_entry h id q id (outcomes.Failure (codes "id")) []) is
  asked-begun q asking.Await is = await-begun q (text_of q.args) (awaited_of (flow_at h (length h) (text_of q.args))) is

  opened_at : (row : FlowRow) (f : FlowEnd) → flow_at h (length h) id ≡ Some row → row.status ≡ status.Pending → flow_end P h id row ≡ f → Begun (ended P h id snap answer row f) → IsOpen P h id s
  opened_at row (Done o) there runs ends is = no_answer _ _ _ is
  opened_at row (Unexpected n recorded asks) there runs ends is = absurd cc
  opened_at row (Asks q) there runs ends is =
      let a = asked-begun q q.kind is in
      let now : IsOpen P h id (length h) = record { past = omega arith; row = row; there = there; pending = runs; request = q; asks = ends; kind = a.1; own = none-past_end h (is_own id) } in
      let Of : ℕ → Type 0 = λ k. IsOpen P h id k in
      subst Of (sym a.0) now

  by_status : (row : FlowRow) (b : Bool) (r : Reply) → is_pending row.status ≡ b → flow_at h (length h) id ≡ Some row → Begun (if b then ended P h id snap answer row (flow_end P h id row) else Answers r) → (r ≡ Began s → ⊥) → IsOpen P h id s
  by_status row true r runs there is other = opened_at row (flow_end P h id row) there (pending-is row.status runs) refl is
  by_status row false r runs there is other = absurd (other cc)

  row-begun : (o : Option FlowRow) → flow_at h (length h) id ≡ o → Begun (turned_row P h id snap answer o) → IsOpen P h id s
  row-begun None there is = absurd cc
  row-begun (Some row) there is = by_status row (is_pending row.status) _ refl there is (λ e. absurd cc)

  pub turned-begun : Begun (turned P h id snap answer) → IsOpen P h id s
  turned-begun is = row-begun (flow_at h (length h) id) refl is
