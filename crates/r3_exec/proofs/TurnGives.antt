-- What a turn gives whose entry is known.
use Rattle.std.proofs.Common.{◌≡◌, ◌+◌, List, [], ◌∷◌, length, Option, Some, None, sym, ap, ◌∙◌}
use Rattle.r3_value.specs.declared.value.Outcome.{Outcome}
use Rattle.r3_entry.specs.declared.entry.Entry.{Entry}
use Rattle.r3_entry.specs.Limits.{IsOutcome}
use Rattle.fn_tree.specs.declared.flow.Request.{Request}
use Rattle.r3_model.specs.Acts.{outside_entry}
use Rattle.r3_model.specs.Event.{Turn, Call}
use Rattle.r3_model.specs.Event as reply
use Rattle.r3_model.specs.Given.{Given, Enters}
use Rattle.r3_model.specs.Language.{Language, Text}
use Rattle.r3_model.specs.Machine.{State, calls_of, call_with, came, given, snap_of, stepped}
use Rattle.r3_model.specs.Turns.{call_of_turn, turned}
use Rattle.r3_laws.proofs.CasesOf.{case-of}
use Rattle.r3_exec.specs.Entered.{Gives}
use Rattle.r3_exec.specs.Turning.{Comes}
use Rattle.r3_exec.specs.declared.turning.Turning.TheVariants as turns
use Rattle.r3_exec.proofs.Plain.{of_turn}

module _ (P : Language) (st : State) (id : Text) where
  pub of_entry : (e : Entry) → Comes P st.history id (turned P st.history id) (call_of_turn P st.history id) (turns.Enters e)
      → Gives P st (Turn id) None e (reply.Entry (length st.history + 1))
  of_entry e comes = record {
    fits = tt {0};
    outcome = tt {0};
    plain = of_turn P st.history id e (case-of P st.history None None e (reply.Entry (length st.history + 1)) (Turn id) (comes.0 None None));
    given_is = comes.0 (snap_of st.begun (Turn id)) None;
  }

  pub of_answer : (q : Request) (o : Outcome) (e : Entry) → IsOutcome o → e ≡ outside_entry st.history id q o
      → Comes P st.history id (turned P st.history id) (call_of_turn P st.history id) (turns.Calls q)
      → Gives P st (Turn id) (Some o) e (reply.Entry (length st.history + 1))
  of_answer q o e is made comes = record {
    fits = tt {0};
    outcome = is;
    plain = ap (λ (x : Entry). x.snap) made;
    given_is = comes.0 (snap_of st.begun (Turn id)) (Some o) ∙ ap (λ (x : Entry). Enters x (reply.Entry (length st.history + 1))) (sym made);
  }

  -- it makes no call, or one
  pub no_call : (answer : Option Outcome) → call_of_turn P st.history id ≡ None → calls_of P st.history (Turn id) answer ≡ []
  no_call answer none = ap (λ (o : Option Request). call_with P st.history id answer o) none

  pub one_call : (answer : Option Outcome) (q : Request) → call_of_turn P st.history id ≡ Some q
      → calls_of P st.history (Turn id) answer ≡ record { id = id; n = q.n; name = q.name; args = q.args; answer = answer } ∷ []
  one_call answer q some = ap (λ (o : Option Request). call_with P st.history id answer o) some

  -- the outside fails
  pub fails : (q : Request) → Comes P st.history id (turned P st.history id) (call_of_turn P st.history id) (turns.Calls q)
      → stepped P st (Turn id) None ≡ record { state = st; reply = reply.Again; calls = record { id = id; n = q.n; name = q.name; args = q.args; answer = None } ∷ [] }
  fails q comes =
      let came_is : came st (Turn id) (given P st.history (Turn id) (snap_of st.begun (Turn id)) None) ≡ (st, reply.Again) =
      ap (λ (x : Given). came st (Turn id) x) (comes.0 (snap_of st.begun (Turn id)) None) in
      ap (λ (x : State × reply.Reply). record { state = x.0; reply = x.1; calls = calls_of P st.history (Turn id) None }) came_is
      ∙ ap (λ (cs : List Call). record { state = st; reply = reply.Again; calls = cs }) (one_call None q comes.1)
