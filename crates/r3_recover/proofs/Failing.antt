-- The outside's count of faults in a drain: once for each call that got no answer.
use Rattle.std.proofs.Common.{◌≡◌, ℕ, zero, suc, ◌+◌, Bool, true, false, List, [], ◌∷◌, ◌++◌, length, Option, Some, None, Ok, Result, refl, sym, ap, ◌∙◌, subst, arith}
use Rattle.std.specs.Prelude.{if◌then◌else◌, nat_lt, bytes_eq}
use Rattle.r3_value.specs.declared.value.Outcome.{Outcome}
use Rattle.r3_rows.specs.declared.rows.FlowRow.{FlowRow}
use Rattle.r3_entry.specs.declared.entry.Entry.{Entry}
use Rattle.r3_desk.specs.Asked as desk
use Rattle.r3_desk.specs.Causes.{Rose}
use Rattle.fn_tree.specs.declared.flow.Request.{Request}
use Rattle.fn_tree.specs.declared.flow.AskKind.{AskKind}
use Rattle.fn_tree.specs.declared.flow.AskKind.TheVariants as asking
use Rattle.fn_tree.specs.declared.flow.FlowEnd.{FlowEnd}
use Rattle.fn_tree.specs.declared.flow.FlowEnd.TheVariants.{Done, Asks, Unexpected}
use Rattle.sys_flow.specs.declared.awaits.Awaited.{Awaited}
use Rattle.sys_flow.specs.declared.awaits.Awaited.TheVariants as awaited
use Rattle.sys_flow.specs.Children.{child_id}
use Rattle.sys_queue.specs.Rows.{is_pending}
use Rattle.r3_model.specs.Language.{Text, Language}
use Rattle.r3_model.specs.Event.{Call, Limit, Reply, Turn}
use Rattle.r3_model.specs.Event as reply
use Rattle.r3_model.specs.Given.{Given, Enters, Answers}
use Rattle.r3_model.specs.Rows.{flow_at, view_at}
use Rattle.r3_model.specs.Turns.{asked, ended, flow_end, turned_row, asks_outside, calls_row, outside_turn, txn_turn, committed, child_turn, child_or_id, await_turn}
use Rattle.r3_model.specs.Machine.{State, Out, given, call_with, calls_of, snap_of, came, entered, full_of}
use Rattle.r3_model.specs.Goes.{Steps}
use Rattle.r3_exec.specs.Does.{told_after}
use Rattle.r3_exec.specs.Ends.{turn_reply}
use Rattle.r3_exec.specs.declared.ends.ExecFault.{ExecFault}
use Rattle.r3_exec.specs.declared.ends.TurnEnd.{TurnEnd}
use Rattle.r3_exec.specs.declared.ends.TurnEnd.TheVariants as turns
use Rattle.r3_recover.specs.Drained.{CountsFaults, Raised, no_answer, unanswered}
use Rattle.r3_recover.proofs.Leaving.{told-append, told-none}

-- ---- the machine's reply to a turn tells whether its call got an answer

abbrev again : Reply → ℕ
again reply.Again = 1
again r = 0

abbrev Fits : Given → ℕ → Type 0
Fits (Enters e r) n = (again r ≡ 0) × (n ≡ 0)
Fits (Answers r) n = again r ≡ n

fits-if : (c : Bool) (x y : Given) (n : ℕ) → Fits x n → Fits y n → Fits (if c then x else y) n
fits-if true x y n p q = p
fits-if false x y n p q = q

module _ (P : Language) (h : List Entry) (id : Text) (snap : Option ℕ) (a : Option Outcome) where
  committed-fits : (s : ℕ) (q : Request) (writer : Option ℕ) → Fits (committed P h id s q (P.txn q.name q.args (view_at h s)) writer) 0
  committed-fits s q None = (refl, refl)
  committed-fits s q (Some j) = refl

  txn-fits : (q : Request) (s : Option ℕ) → Fits (txn_turn P h id s q) 0
  txn-fits q None = refl
  txn-fits q (Some s) = committed-fits s q _

  child-fits : (q : Request) (child : Text) (o : Option FlowRow) → Fits (child_turn P h id q child o) 0
  child-fits q child None = (refl, refl)
  child-fits q child (Some row) = fits-if (bytes_eq row.function q.name) _ _ 0 (refl, refl) (refl, refl)

  id-fits : (q : Request) (child : Text) → Fits (child_or_id P h id q child) 0
  id-fits q child = fits-if (nat_lt 200 (length child)) _ _ 0 (refl, refl) (child-fits q child (flow_at h (length h) child))

  await-fits : (q : Request) (on : Text) (w : Awaited) → Fits (await_turn P h id q on w) 0
  await-fits q on awaited.Waiting = refl
  await-fits q on (awaited.Answer o) = (refl, refl)

  outside-fits : (q : Request) (o : Option Outcome) → Fits (outside_turn P h id q o) (no_answer o + 0)
  outside-fits q None = refl
  outside-fits q (Some o) = (refl, refl)

  asked-fits : (q : Request) (kind : AskKind)
      → Fits (asked P h id snap a kind q) (unanswered (call_with P h id a (elim kind as (λ _. Option Request) [ asking.Txn ↦ None | asking.Outside ↦ Some q | asking.Child ↦ None | asking.Await ↦ None ])))
  asked-fits q asking.Txn = txn-fits q snap
  asked-fits q asking.Outside = outside-fits q a
  asked-fits q asking.Child = id-fits q (child_id id q.n)
  asked-fits q asking.Await = await-fits q _ _

  ended-fits : (row : FlowRow) (e : FlowEnd) → Fits (ended P h id snap a row e) (unanswered (call_with P h id a (asks_outside P h id e)))
  ended-fits row (Done o) = (refl, refl)
  ended-fits row (Asks q) = asked-fits q q.kind
  ended-fits row (Unexpected n recorded asks) = refl

  by-status : (row : FlowRow) (e : FlowEnd) (c : Bool)
      → Fits (if c then ended P h id snap a row e else Answers (reply.NotPending row.status)) (unanswered (call_with P h id a (if c then asks_outside P h id e else None)))
  by-status row e true = ended-fits row e
  by-status row e false = refl

  row-fits : (o : Option FlowRow) → Fits (turned_row P h id snap a o) (unanswered (call_with P h id a (calls_row P h id o)))
  row-fits None = refl
  row-fits (Some row) = by-status row (flow_end P h id row) (is_pending row.status)

entered-fits : (st : State) (e : Entry) (r : Reply) (o : Option Limit) → again r ≡ 0 → again (entered st e r o).1 ≡ 0
entered-fits st e r None is = is
entered-fits st e r (Some limit) is = refl

came-fits : (st : State) (id : Text) (g : Given) (n : ℕ) → Fits g n → again (came st (Turn id) g).1 ≡ n
came-fits st id (Enters e r) n fits = entered-fits st e r (full_of st.history e) fits.0 ∙ sym fits.1
came-fits st id (Answers r) n fits = fits

turn-tells : (P : Language) (st new : State) (id : Text) (r : Reply) (calls : List Call) → Steps P st (Turn id) r calls new → again r ≡ unanswered calls
turn-tells P st new id r calls s =
    let snap : Option ℕ = snap_of st.begun (Turn id) in
    let same : unanswered (calls_of P st.history (Turn id) s.answer) ≡ unanswered calls = ap (λ (o : Out). unanswered o.calls) s.is in
    let fits = row-fits P st.history id snap s.answer (flow_at st.history (length st.history) id) in
    sym (ap (λ (o : Out). again o.reply) s.is)
    ∙ came-fits st id (given P st.history (Turn id) snap s.answer) (unanswered (calls_of P st.history (Turn id) s.answer)) fits
    ∙ same

-- ---- counts

abbrev IsAgain : TurnEnd → Type 0
IsAgain end = ◌≡◌ {A = Result TurnEnd ExecFault} (Ok end) (Ok turns.Again)

raised-again : (end : TurnEnd) (a b : ℕ) → (IsAgain end → Rose a b) → ((IsAgain end → ⊥) → b ≡ a) → Raised (again (turn_reply end)) a b
raised-again (turns.None status) a b rose same = same (λ (is : IsAgain (turns.None status)). cc)
raised-again (turns.Began snap) a b rose same = same (λ (is : IsAgain (turns.Began snap)). cc)
raised-again (turns.Entry number) a b rose same = same (λ (is : IsAgain (turns.Entry number)). cc)
raised-again (turns.Conflict entry) a b rose same = same (λ (is : IsAgain (turns.Conflict entry)). cc)
raised-again (turns.Waiting id) a b rose same = same (λ (is : IsAgain (turns.Waiting id)). cc)
raised-again turns.Again a b rose same = (a, refl, rose refl)
raised-again (turns.Unexpected n recorded asked) a b rose same = same (λ (is : IsAgain (turns.Unexpected n recorded asked)). cc)
raised-again (turns.Full limit) a b rose same = same (λ (is : IsAgain (turns.Full limit)). cc)

raised-sum : (m n k a b c : ℕ) → k ≡ n + m → Raised m a b → Raised n b c → Raised k a c
raised-sum m zero k a b c is first second =
    let same : m ≡ k = omega (arith, is) in
    subst (λ (i : ℕ). Raised i a c) same (subst (λ (x : ℕ). Raised m a x) (sym second) first)
raised-sum m (suc n) zero a b c is first second = absurd (omega (arith, is))
raised-sum m (suc n) (suc k) a b c is first second =
    let less : k ≡ n + m = omega (arith, is) in
    (second.0, raised-sum m n k a b second.0 less first second.1, second.2)

unanswered-append : (xs ys : List Call) → unanswered (xs ++ ys) ≡ unanswered ys + unanswered xs
unanswered-append [] ys = let e : unanswered ys ≡ unanswered ys + 0 = omega arith in e
unanswered-append (x ∷ xs) ys =
    let n : ℕ = no_answer x.answer in
    let e : n + (unanswered ys + unanswered xs) ≡ unanswered ys + (n + unanswered xs) = omega arith in
    ap (λ (k : ℕ). n + k) (unanswered-append xs ys) ∙ e

module _ {D : Type 0} (outside : D → Option (List desk.Call)) (ask_faults : D → ℕ) where
  abbrev Counts : D → D → Type 0
  Counts old new = CountsFaults outside ask_faults old new

  -- nothing was asked
  pub counts-none : (old new : D) → outside new ≡ outside old → ask_faults new ≡ ask_faults old → Counts old new
  counts-none old new same still = record { calls = []; told = same ∙ told-none (outside old); raised = still }

  -- a turn
  pub counts-turn : (old new : D) (P : Language) (st after : State) (id : Text) (end : TurnEnd) (calls : List Call) → Steps P st (Turn id) (turn_reply end) calls after
      → outside new ≡ told_after (outside old) calls → (IsAgain end → Rose (ask_faults old) (ask_faults new)) → ((IsAgain end → ⊥) → ask_faults new ≡ ask_faults old)
      → Counts old new
  counts-turn old new P st after id end calls steps told rose same = record {
    calls = calls;
    told = told;
    raised = subst (λ (n : ℕ). Raised n (ask_faults old) (ask_faults new)) (turn-tells P st after id (turn_reply end) calls steps)
        (raised-again end (ask_faults old) (ask_faults new) rose same);
  }

  -- one after another
  pub counts-then : (a b c : D) → Counts a b → Counts b c → Counts a c
  counts-then a b c first second = record {
    calls = first.calls ++ second.calls;
    told = second.told ∙ ap (λ (o : Option (List desk.Call)). told_after o second.calls) first.told ∙ told-append (outside a) first.calls second.calls;
    raised = raised-sum (unanswered first.calls) (unanswered second.calls) (unanswered (first.calls ++ second.calls)) (ask_faults a) (ask_faults b) (ask_faults c)
        (unanswered-append first.calls second.calls) first.raised second.raised;
  }

  -- so often it rose
  pub counts-raised : (old new : D) → Counts old new → (n : ℕ) × Raised n (ask_faults old) (ask_faults new)
  counts-raised old new x = (unanswered x.calls, x.raised)
