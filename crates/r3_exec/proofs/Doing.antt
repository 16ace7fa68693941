-- What was done on a desk, of an event that makes no call.
use Rattle.std.proofs.Common.{◌≡◌, ℕ, List, [], ◌∷◌, Option, Some, None, refl, sym, ap, ◌∙◌, subst}
use Rattle.std.proofs.lemmas.List.{append-nil}
use Rattle.r3_value.specs.declared.value.Outcome.{Outcome}
use Rattle.r3_entry.specs.declared.entry.Entry.{Entry}
use Rattle.r3_desk.specs.Asked as desk
use Rattle.fn_tree.specs.declared.program.Item.{Item}
use Rattle.r3_model.specs.Event.{Event, Reply, Call}
use Rattle.r3_model.specs.Functions.{language_of}
use Rattle.r3_model.specs.Given.{Given, Answers}
use Rattle.r3_model.specs.Goes.{Steps}
use Rattle.r3_model.specs.Language.{Language}
use Rattle.r3_model.specs.Fits.{Fits}
use Rattle.r3_model.specs.Lawful.{IsLawful, IsLimited}
use Rattle.r3_model.specs.Valid.{IsValid}
use Rattle.r3_laws.specs.OfStates.{KeepsValid}
use Rattle.r3_store.specs.Holds.{Holds}
use Rattle.r3_model.specs.Machine.{State, Begun, Out, after_reply, calls_of, came, given, snap_of, stepped}
use Rattle.r3_exec.specs.Does.{Does, told_after}
use Rattle.r3_exec.specs.Entered.{HasCome, reply_after, state_after}
use Rattle.r3_exec.specs.Runs.{Keeps, Runs, language}
use Rattle.r3_exec.specs.declared.enter.Entered.{Entered}
use Rattle.r3_exec.specs.declared.exec.Exec.{Exec}
use Rattle.r3_exec.proofs.Syncs.{no_more}

pub told_none : (o : Option (List desk.Call)) → o ≡ told_after o []
told_none None = refl
told_none (Some k) = ap (λ (x : List desk.Call). Some x) (sym (append-nil k))

-- a step, as it is called
steps_by : (P : Language) (st : State) (ev : Event) (answer : Option Outcome) (state : State) (reply reply' : Reply) (calls calls' : List Call)
    → stepped P st ev answer ≡ record { state = state; reply = reply; calls = calls } → reply' ≡ reply → calls ≡ calls' → Steps P st ev reply' calls' state
steps_by P st ev answer state reply reply' calls calls' is same none = record {
  answer = answer;
  is = is ∙ ap (λ (r : Reply). record { state = state; reply = r; calls = calls }) (sym same) ∙ ap (λ (cs : List Call). record { state = state; reply = reply'; calls = cs }) none;
}

module _ {D : Type 0} (size : D → Option ℕ) (image : D → Option (List ℕ)) (may_leave : D → List ℕ → Type 0) (asked : D → Option (List desk.Call)) (syncs : D → Option ℕ) where
  -- an entry was appended, or there was no room
  pub by_entry : (old new : D) (before after : Exec) (st : State) (k : ℕ) (ev : Event) (answer : Option Outcome) (e : Entry) (r : Reply) (end : Entered) (reply : Reply)
      → HasCome (language before) size image may_leave new after st k ev answer e r end → calls_of (language before) st.history ev answer ≡ []
      → asked new ≡ asked old → syncs new ≡ syncs old → after.program ≡ before.program → reply ≡ reply_after r end
      → Does size image may_leave asked syncs old new after st k ev reply
  by_entry old new before after st k ev answer e r end reply come none same_asked same_syncs program is = record {
    calls = [];
    after = state_after st e end;
    steps = subst (λ (items : List Item). Steps (language_of items) st ev reply [] (state_after st e end)) (sym program)
        (steps_by (language before) st ev answer (state_after st e end) (reply_after r end) reply _ [] come.step is none);
    told = same_asked ∙ told_none (asked old);
    runs = come.runs;
    few_syncs = no_more (syncs old) (syncs new) same_syncs 0;
  }

  -- nothing was appended
  pub by_answer : (desk : D) (exec : Exec) (st : State) (k : ℕ) (ev : Event) (answer : Option Outcome) (r reply : Reply)
      → Runs size image may_leave desk exec st k → given (language exec) st.history ev (snap_of st.begun ev) answer ≡ Answers r
      → after_reply ev r st.begun ≡ st.begun → calls_of (language exec) st.history ev answer ≡ [] → reply ≡ r
      → Does size image may_leave asked syncs desk desk exec st k ev reply
  by_answer desk exec st k ev answer r reply runs is same none reply_is =
      let P = language exec in
      let came_is : came st ev (given P st.history ev (snap_of st.begun ev) answer) ≡ (st, r) =
      ap (λ (g : Given). came st ev g) is ∙ ap (λ (b : Begun). (record { history = st.history; begun = b }, r)) same in
      record {
        calls = [];
        after = st;
        steps = steps_by P st ev answer st r reply _ [] (ap (λ (x : State × Reply). record { state = x.0; reply = x.1; calls = calls_of P st.history ev answer }) came_is) reply_is none;
        told = told_none (asked desk);
        runs = runs;
        few_syncs = no_more (syncs desk) (syncs desk) refl 0;
      }

  -- the machine's step, which makes no call
  pub by_runs : (old new : D) (before after : Exec) (st then : State) (k : ℕ) (ev : Event) (r reply : Reply)
      → stepped (language before) st ev None ≡ record { state = then; reply = r; calls = [] } → Runs size image may_leave new after then k
      → asked new ≡ asked old → syncs new ≡ syncs old → after.program ≡ before.program → reply ≡ r
      → Does size image may_leave asked syncs old new after st k ev reply
  by_runs old new before after st then k ev r reply is runs same_asked same_syncs program reply_is = record {
    calls = [];
    after = then;
    steps = subst (λ (items : List Item). Steps (language_of items) st ev reply [] then) (sym program) (steps_by (language before) st ev None then r reply [] [] is reply_is refl);
    told = same_asked ∙ told_none (asked old);
    runs = runs;
    few_syncs = no_more (syncs old) (syncs new) same_syncs 0;
  }

  -- and keeps the state valid
  pub by_step : (old new : D) (before after : Exec) (st then : State) (k : ℕ) (ev : Event) (r reply : Reply)
      → stepped (language before) st ev None ≡ record { state = then; reply = r; calls = [] }
      → IsLawful (language before) → IsLimited (language before) → KeepsValid → IsValid (language before) st → Fits st.history ev
      → Keeps after then.history then.begun → Holds size image may_leave new after.store then.history k
      → asked new ≡ asked old → syncs new ≡ syncs old → after.program ≡ before.program → reply ≡ r
      → Does size image may_leave asked syncs old new after st k ev reply
  by_step old new before after st then k ev r reply is lawful limited law valid fits keeps holds same_asked same_syncs program reply_is =
      let P = language before in
      let then_valid : IsValid P then = subst (λ (o : Out). IsValid P o.state) is (law P st ev (None ∷ []) lawful limited valid fits (tt {0}, tt {0})) in
      by_runs old new before after st then k ev r reply is
      (record { stands = record { valid = subst (λ (items : List Item). IsValid (language_of items) then) (sym program) then_valid; keeps = keeps }; holds = holds })
      same_asked same_syncs program reply_is
