-- No recorded step is asked of the outside again.
use Rattle.std.proofs.Common.{◌≡◌, ℕ, suc, zero, ◌+◌, ◌<◌, Bool, true, false, List, [], ◌∷◌, map, length, Option, Some, None, refl, ap, ◌∙◌, arith}
use Rattle.std.specs.List.{AllByRecursion}
use Rattle.std.specs.Prelude.{if◌then◌else◌}
use Rattle.std.proofs.lemmas.List.{length-map}
use Rattle.r3_value.specs.declared.value.Outcome.{Outcome}
use Rattle.r3_rows.specs.declared.rows.FlowRow.{FlowRow}
use Rattle.r3_rows.specs.declared.rows.StepRow.{StepRow}
use Rattle.r3_entry.specs.declared.entry.Entry.{Entry}
use Rattle.r3_model.specs.Language.{Text, Language}
use Rattle.fn_tree.specs.declared.flow.Request.{Request}
use Rattle.fn_tree.specs.declared.flow.AskKind.{AskKind}
use Rattle.fn_tree.specs.declared.flow.AskKind.TheVariants as asking
use Rattle.fn_tree.specs.declared.flow.FlowEnd.{FlowEnd}
use Rattle.fn_tree.specs.declared.flow.FlowEnd.TheVariants.{Done, Asks, Unexpected}
use Rattle.r3_model.specs.Event.{Event, Append, Run, Turn, Dequeue, ShowStatus, GetRow, Nothing, Call}
use Rattle.r3_model.specs.Rows.{step_at, steps_from, steps_at, flow_at, answer_of}
use Rattle.sys_queue.specs.Rows.{is_pending}
use Rattle.r3_model.specs.Turns.{flow_end, asks_outside, calls_row}
use Rattle.r3_model.specs.Machine.{State, step, call_with, calls_of, first_of}
use Rattle.r3_model.specs.Lawful.{IsLawful, Counts}

module _ (h : List Entry) (k : ℕ) (id : Text) where
  by_row : (most n : ℕ) (more : List StepRow) → (length more < most → step_at h k id ((n + 1) + length more) ≡ None)
      → (o : Option StepRow) → step_at h k id n ≡ o → length (elim o as (λ _. List StepRow) [ Some r ↦ r ∷ more | None ↦ [] ]) < suc most → step_at h k id (n + length (elim o as (λ _. List StepRow) [ Some r ↦ r ∷ more | None ↦ [] ])) ≡ None
  by_row most n more later None is lt = let z : n + 0 ≡ n = omega arith in ap (λ (m : ℕ). step_at h k id m) z ∙ is
  by_row most n more later (Some r) is lt =
      let z : n + suc (length more) ≡ (n + 1) + length more = omega arith in
      ap (λ (m : ℕ). step_at h k id m) z ∙ later (omega arith)

  -- past the recorded steps there is no row
  pub steps_from-end : (most n : ℕ) → length (steps_from h k most id n) < most → step_at h k id (n + length (steps_from h k most id n)) ≡ None
  steps_from-end zero n lt = absurd (omega arith)
  steps_from-end (suc most) n lt = by_row most n (steps_from h k most id (n + 1)) (steps_from-end most (n + 1)) (step_at h k id n) refl lt

  pub steps_at-end : length (steps_at h k id) < 1000 → step_at h k id (length (steps_at h k id)) ≡ None
  steps_at-end lt =
      let z : length (steps_at h k id) ≡ 0 + length (steps_at h k id) = omega arith in
      ap (λ (m : ℕ). step_at h k id m) z ∙ steps_from-end 1000 0 lt

module _ (P : Language) (lawful : IsLawful P) (h : List Entry) where
  abbrev IsNew : Call → Type 0
  IsNew c = step_at h (length h) c.id c.n ≡ None

  abbrev AreNew : List Call → Type 0
  AreNew calls = AllByRecursion IsNew calls

  at_kind : (id : Text) (answer : Option Outcome) (q : Request) → step_at h (length h) id q.n ≡ None → (kind : AskKind) → AreNew (call_with P h id answer (elim kind [ asking.Txn ↦ None | asking.Outside ↦ Some q | asking.Child ↦ None | asking.Await ↦ None ]))
  at_kind id answer q new asking.Txn = tt
  at_kind id answer q new asking.Outside = (new, tt)
  at_kind id answer q new asking.Child = tt
  at_kind id answer q new asking.Await = tt

  at_end : (id : Text) (answer : Option Outcome) (e : FlowEnd) → Counts (length (map answer_of (steps_at h (length h) id))) e → AreNew (call_with P h id answer (asks_outside P h id e))
  at_end id answer (Done o) well = tt
  at_end id answer (Unexpected n recorded asked) well = tt
  at_end id answer (Asks q) well =
      let steps = steps_at h (length h) id in
      let same : length (map answer_of steps) ≡ length steps = length-map steps answer_of in
      let number : q.n ≡ length steps = well.0 ∙ same in
      let few : length steps < 1000 = omega (arith, same, well.1) in
      at_kind id answer q (ap (λ (m : ℕ). step_at h (length h) id m) number ∙ steps_at-end h (length h) id few) q.kind

  at_row : (id : Text) (answer : Option Outcome) (row : FlowRow) (b : Bool) → AreNew (call_with P h id answer (asks_outside P h id (flow_end P h id row))) → AreNew (call_with P h id answer (if b then asks_outside P h id (flow_end P h id row) else None))
  at_row id answer row true new = new
  at_row id answer row false new = tt

  at_flow : (id : Text) (answer : Option Outcome) (o : Option FlowRow) → AreNew (call_with P h id answer (calls_row P h id o))
  at_flow id answer None = tt
  at_flow id answer (Some row) = at_row id answer row (is_pending row.status) (at_end id answer (flow_end P h id row) (lawful.counts row.function row.args (map answer_of (steps_at h (length h) id))))

  pub calls-new : (ev : Event) (answer : Option Outcome) → AreNew (calls_of P h ev answer)
  calls-new (Append text) answer = tt
  calls-new (Run command) answer = tt
  calls-new (Turn id) answer = at_flow id answer (flow_at h (length h) id)
  calls-new (Dequeue queue) answer = tt
  calls-new (ShowStatus id) answer = tt
  calls-new (GetRow table key) answer = tt
  calls-new Nothing answer = tt

pub step-asks_new : (P : Language) (st : State) (ev : Event) (answers : List (Option Outcome)) → IsLawful P → AllByRecursion (λ (c : Call). step_at st.history (length st.history) c.id c.n ≡ None) (step P st ev answers).calls
step-asks_new P st ev answers lawful = calls-new P lawful st.history ev (first_of answers)
