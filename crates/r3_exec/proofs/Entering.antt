-- The entry of an event is such as the store takes, and the machine's step is done by it.
use Rattle.std.proofs.Common.{◌≡◌, ℕ, ◌+◌, ◌<◌, ◌≤◌, ◌^◌, Bool, false, cond, ◌&&◌, nat_lt, fold, List, [], ◌∷◌, length, Option, Some, None, refl, ap, ◌∙◌, arith}
use Rattle.std.proofs.lemmas.Bool.Decides.{nat_tests}
use Rattle.r3_value.specs.declared.value.Outcome.{Outcome}
use Rattle.r3_gate.specs.declared.fault.Limit.{Limit as Room}
use Rattle.r3_rows.specs.declared.rows.Key.{Key}
use Rattle.r3_entry.specs.declared.entry.Act.{Act}
use Rattle.r3_entry.specs.declared.entry.Act.TheVariants as acts
use Rattle.r3_entry.specs.declared.entry.Entry.{Entry}
use Rattle.r3_entry.specs.Bytes.{entry}
use Rattle.r3_entry.specs.Formed.{Follows}
use Rattle.r3_entry.specs.History.{writes_key}
use Rattle.r3_entry.specs.Limits.{IsEntry}
use Rattle.r3_snap.specs.Conflicts.{earlier}
use Rattle.r3_formed.specs.Past.{first_conflict, first_from, first_write}
use Rattle.r3_model.specs.Event.{Event, Reply}
use Rattle.r3_model.specs.Event as reply
use Rattle.r3_model.specs.Given.{Given}
use Rattle.r3_model.specs.Language.{Language}
use Rattle.r3_model.specs.Lawful.{IsLawful, IsLimited}
use Rattle.r3_model.specs.Machine.{State, Begun, after_act, calls_of, came, entered, full_of, given, snap_of, stepped}
use Rattle.r3_model.specs.Valid.{IsValid}
use Rattle.r3_laws.specs.OfStates.{EntersLight, EntersWhatFollows, EntersWithinLimits, KeepsValid, flows_in}
use Rattle.r3_exec.specs.Ends.{limit_of}
use Rattle.r3_exec.specs.Entered.{Gives, after_closing, closing, reply_after, state_after}
use Rattle.r3_exec.specs.declared.enter.Entered.TheVariants as ends

-- ---- no entry stands past the length

none_past : (j snap : ℕ) (key : Key) (h : List Entry) → j + length h ≤ snap + 1 → first_from j snap key h ≡ None
none_past j snap key [] few = refl
none_past j snap key (e ∷ es) few =
    let t : nat_lt snap j ≡ false = grind (arith, nat_tests) in
    ap (λ (b : Bool). cond (b && writes_key e key) (Some j) (first_from (j + 1) snap key es)) t ∙ none_past (j + 1) snap key es (omega (arith, few))

no_write : (h : List Entry) (key : Key) → first_write h (length h) key ≡ None
no_write h key = none_past 1 (length h) key h (omega arith)

pub no_conflict : (h : List Entry) (keys : List Key) → first_conflict h (length h) keys ≡ None
no_conflict h [] = refl
no_conflict h (k ∷ ks) = ap (λ (o : Option ℕ). fold (λ (least : Option ℕ) (key : Key). earlier least (first_write h (length h) key)) (earlier None o) ks) (no_write h k) ∙ no_conflict h ks

-- ---- what an act closes

pub closes : (act : Act) (begun : Begun) → after_closing (closing act) begun ≡ after_act act begun
closes (acts.Program text) begun = refl
closes acts.Load begun = refl
closes (acts.Start id) begun = refl
closes (acts.Enqueue id) begun = refl
closes (acts.Dequeue id) begun = refl
closes (acts.Txn id n args) begun = refl
closes (acts.Outside id n args) begun = refl
closes (acts.Child id n child) begun = refl
closes (acts.Await id n on) begun = refl
closes (acts.Finish id) begun = refl
closes (acts.Cancel id) begun = refl
closes (acts.Resume id) begun = refl
closes (acts.Fork id from below) begun = refl
closes (acts.Recover id) begun = refl

module _ (P : Language) (st : State) (ev : Event) (answer : Option Outcome) (e : Entry) (r : Reply) (gives : Gives P st ev answer e r) where
  -- ---- such as the store takes

  pub within : IsLawful P → IsLimited P → EntersWithinLimits → IsValid P st → length st.history < 1000000 → IsEntry e × (length (entry e) ≤ 2 ^ 23)
  within lawful limited law valid room =
      law P st ev answer e r lawful limited valid.formed valid.snapshots gives.fits gives.outcome (omega (arith, room)) gives.given_is

  pub may : IsLawful P → EntersWhatFollows → IsValid P st → Follows st.history e
  may lawful law valid = law P st ev answer e r lawful valid.formed valid.snapshots gives.fits gives.given_is

  pub one_flow : IsLawful P → EntersLight → flows_in e.writes ≤ 1
  one_flow lawful law = (law P st ev answer e r lawful gives.fits gives.given_is).few_flows

  pub still_valid : IsLawful P → IsLimited P → KeepsValid → IsValid P st → IsValid P (stepped P st ev answer).state
  still_valid lawful limited law valid = law P st ev (answer ∷ []) lawful limited valid gives.fits (gives.outcome, tt {0})

  -- ---- the step

  step_by : (o : State × Reply) → entered st e r (full_of st.history e) ≡ o
      → stepped P st ev answer ≡ record { state = o.0; reply = o.1; calls = calls_of P st.history ev answer }
  step_by o is =
      let all : came st ev (given P st.history ev (snap_of st.begun ev) answer) ≡ o = ap (λ (g : Given). came st ev g) gives.given_is ∙ is in
      ap (λ (x : State × Reply). record { state = x.0; reply = x.1; calls = calls_of P st.history ev answer }) all

  pub step_number : (n : ℕ) → full_of st.history e ≡ None
      → stepped P st ev answer ≡ record { state = state_after st e (ends.Number n); reply = reply_after r (ends.Number n); calls = calls_of P st.history ev answer }
  step_number n none = step_by (state_after st e (ends.Number n), r) (ap (λ (o : Option reply.Limit). entered st e r o) none)

  pub step_full : (l : Room) → full_of st.history e ≡ Some (limit_of l)
      → stepped P st ev answer ≡ record { state = state_after st e (ends.Full l); reply = reply_after r (ends.Full l); calls = calls_of P st.history ev answer }
  step_full l some = step_by (st, reply.Full (limit_of l)) (ap (λ (o : Option reply.Limit). entered st e r o) some)
