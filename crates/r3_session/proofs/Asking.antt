-- A step looks at the outside's answer only where it asks, and then its call tells the answer.
use Rattle.std.proofs.Common.{◌≡◌, ℕ, Bool, true, false, List, [], ◌∷◌, ◌++◌, length, Option, Some, None, refl, sym, ap, ◌∙◌}
use Rattle.std.specs.Prelude.{if◌then◌else◌}
use Rattle.r3_value.specs.declared.value.Outcome.{Outcome}
use Rattle.r3_rows.specs.declared.rows.FlowRow.{FlowRow}
use Rattle.r3_entry.specs.declared.entry.Entry.{Entry}
use Rattle.r3_model.specs.Language.{Text, Language}
use Rattle.fn_tree.specs.declared.flow.Request.{Request}
use Rattle.fn_tree.specs.declared.flow.AskKind.{AskKind}
use Rattle.fn_tree.specs.declared.flow.AskKind.TheVariants as asking
use Rattle.fn_tree.specs.declared.flow.FlowEnd.{FlowEnd}
use Rattle.fn_tree.specs.declared.flow.FlowEnd.TheVariants.{Done, Asks, Unexpected}
use Rattle.r3_model.specs.Event.{Event, Append, Run, Turn, Dequeue, ShowStatus, GetRow, Nothing, Reply, Call}
use Rattle.r3_model.specs.Given.{Given}
use Rattle.r3_model.specs.Rows.{flow_at}
use Rattle.sys_queue.specs.Rows.{is_pending}
use Rattle.r3_model.specs.Turns.{asked, ended, flow_end, turned_row, turned, asks_outside, calls_row, call_of_turn}
use Rattle.r3_model.specs.Machine.{State, Out, given, call_with, calls_of, snap_of, came, stepped, step, first_of}
use Rattle.r3_model.specs.Goes.{Steps}
use Rattle.r3_recover.specs.Drained.{answers_of}

module _ (P : Language) (h : List Entry) (id : Text) (snap : Option ℕ) (a b : Option Outcome) where
  asked-same : (q : Request) (kind : AskKind) → elim kind as (λ _. Option Request) [ asking.Txn ↦ None | asking.Outside ↦ Some q | asking.Child ↦ None | asking.Await ↦ None ] ≡ None → asked P h id snap a kind q ≡ asked P h id snap b kind q
  asked-same q asking.Txn none = refl
  asked-same q asking.Outside none = absurd (let e : Some q ≡ None = none in cc)
  asked-same q asking.Child none = refl
  asked-same q asking.Await none = refl

  ended-same : (row : FlowRow) (e : FlowEnd) → asks_outside P h id e ≡ None → ended P h id snap a row e ≡ ended P h id snap b row e
  ended-same row (Done o) none = refl
  ended-same row (Asks q) none = asked-same q q.kind none
  ended-same row (Unexpected n recorded asks) none = refl

  by_status : (row : FlowRow) (e : FlowEnd) (otherwise : Given) (c : Bool) → (if c then asks_outside P h id e else None) ≡ None
      → (if c then ended P h id snap a row e else otherwise) ≡ (if c then ended P h id snap b row e else otherwise)
  by_status row e otherwise true none = ended-same row e none
  by_status row e otherwise false none = refl

  row-same : (o : Option FlowRow) → calls_row P h id o ≡ None → turned_row P h id snap a o ≡ turned_row P h id snap b o
  row-same None none = refl
  row-same (Some row) none = by_status row (flow_end P h id row) _ (is_pending row.status) none

  turned-same : call_of_turn P h id ≡ None → turned P h id snap a ≡ turned P h id snap b
  turned-same none = row-same (flow_at h (length h) id) none

module _ (P : Language) (h : List Entry) where
  no_call : (id : Text) (a : Option Outcome) (o : Option Request) → call_with P h id a o ≡ [] → o ≡ None
  no_call id a None e = refl
  no_call id a (Some q) e = absurd (let f : record { id = id; n = q.n; name = q.name; args = q.args; answer = a } ∷ [] ≡ [] = e in cc)

  -- where no call is made the answer doesn't matter
  given-same : (ev : Event) (snap : Option ℕ) (a b : Option Outcome) → calls_of P h ev a ≡ [] → given P h ev snap a ≡ given P h ev snap b
  given-same (Append text) snap a b none = refl
  given-same (Run command) snap a b none = refl
  given-same (Turn id) snap a b none = turned-same P h id snap a b (no_call id a (call_of_turn P h id) none)
  given-same (Dequeue queue) snap a b none = refl
  given-same (ShowStatus id) snap a b none = refl
  given-same (GetRow table key) snap a b none = refl
  given-same Nothing snap a b none = refl

  calls-none : (id : Text) (a b : Option Outcome) (o : Option Request) → call_with P h id a o ≡ [] → call_with P h id b o ≡ []
  calls-none id a b None e = refl
  calls-none id a b (Some q) e = absurd (let f : record { id = id; n = q.n; name = q.name; args = q.args; answer = a } ∷ [] ≡ [] = e in cc)

  calls-same : (ev : Event) (a b : Option Outcome) → calls_of P h ev a ≡ [] → calls_of P h ev a ≡ calls_of P h ev b
  calls-same (Append text) a b none = refl
  calls-same (Run command) a b none = refl
  calls-same (Turn id) a b none = none ∙ sym (calls-none id a b (call_of_turn P h id) none)
  calls-same (Dequeue queue) a b none = refl
  calls-same (ShowStatus id) a b none = refl
  calls-same (GetRow table key) a b none = refl
  calls-same Nothing a b none = refl

  -- a call tells its answer, and no other call is made
  one_call : (id : Text) (a : Option Outcome) (o : Option Request) (c : Call) (cs : List Call) → call_with P h id a o ≡ c ∷ cs → (c.answer ≡ a) × (cs ≡ [])
  one_call id a None c cs e = absurd (let f : [] ≡ c ∷ cs = e in cc)
  one_call id a (Some q) c cs e =
      let head : record { id = id; n = q.n; name = q.name; args = q.args; answer = a } ≡ c = cc in
      let tail : [] ≡ cs = cc in
      (ap (λ (x : Call). x.answer) (sym head), sym tail)

  call-tells : (ev : Event) (a : Option Outcome) (c : Call) (cs : List Call) → calls_of P h ev a ≡ c ∷ cs → (c.answer ≡ a) × (cs ≡ [])
  call-tells (Append text) a c cs e = absurd (let f : [] ≡ c ∷ cs = e in cc)
  call-tells (Run command) a c cs e = absurd (let f : [] ≡ c ∷ cs = e in cc)
  call-tells (Turn id) a c cs e = one_call id a (call_of_turn P h id) c cs e
  call-tells (Dequeue queue) a c cs e = absurd (let f : [] ≡ c ∷ cs = e in cc)
  call-tells (ShowStatus id) a c cs e = absurd (let f : [] ≡ c ∷ cs = e in cc)
  call-tells (GetRow table key) a c cs e = absurd (let f : [] ≡ c ∷ cs = e in cc)
  call-tells Nothing a c cs e = absurd (let f : [] ≡ c ∷ cs = e in cc)

module _ (P : Language) where
  -- a step takes from the answers just those that its calls tell
  step-from : (st : State) (ev : Event) (a : Option Outcome) (rest : List (Option Outcome)) (calls : List Call) → calls_of P st.history ev a ≡ calls
      → step P st ev (answers_of calls ++ rest) ≡ stepped P st ev a
  step-from st ev a rest [] none =
      let s : Option ℕ = snap_of st.begun ev in
      let g : given P st.history ev s (first_of rest) ≡ given P st.history ev s a = sym (given-same P st.history ev s a (first_of rest) none) in
      let k : calls_of P st.history ev (first_of rest) ≡ calls_of P st.history ev a = sym (calls-same P st.history ev a (first_of rest) none) in
      ap (λ (x : Given). record { state = (came st ev x).0; reply = (came st ev x).1; calls = calls_of P st.history ev (first_of rest) }) g
      ∙ ap (λ (x : List Call). record { state = (came st ev (given P st.history ev s a)).0; reply = (came st ev (given P st.history ev s a)).1; calls = x }) k
  step-from st ev a rest (c ∷ cs) is = ap (λ (x : Option Outcome). stepped P st ev x) (call-tells P st.history ev a c cs is).0

  pub step-steps : (old new : State) (ev : Event) (r : Reply) (calls : List Call) (rest : List (Option Outcome)) → Steps P old ev r calls new
      → step P old ev (answers_of calls ++ rest) ≡ record { state = new; reply = r; calls = calls }
  step-steps old new ev r calls rest s =
      let same : calls_of P old.history ev s.answer ≡ calls = ap (λ (o : Out). o.calls) s.is in
      step-from old ev s.answer rest calls same ∙ s.is
