-- Every event keeps the open snapshots those of workflows that wait for their transactions.
use Rattle.std.proofs.Common.{◌≡◌, ℕ, List, Option, Some, None, refl, sym, subst, inl, inr}
use Rattle.r3_value.specs.declared.value.Outcome.{Outcome}
use Rattle.r3_entry.specs.declared.entry.Entry.{Entry}
use Rattle.r3_model.specs.Language.{Text, Language}
use Rattle.r3_model.specs.Event.{Event, Turn, Limit, Reply, Began, Conflicts}
use Rattle.r3_model.specs.Given.{Given, Enters, Answers}
use Rattle.r3_model.specs.Machine.{State, given, came, entered, full_of, snap_of, after_reply, opened, closed, stepped, step, first_of}
use Rattle.r3_model.specs.Valid.{IsOpen, AreOpen}
use Rattle.r3_laws.proofs.CasesOf.{case-of}
use Rattle.r3_laws.proofs.Begins.{turned-begun}
use Rattle.r3_laws.proofs.Frame.{IsQuiet}
use Rattle.r3_laws.proofs.Opens.{open-push}
use Rattle.r3_laws.proofs.Snapshots.{closed-sorted, closed-kept, opened-sorted, opened-is, act-sorted, act-kept}
use Rattle.r3_laws.proofs.Spares.{IsClosing, Spares, case-spares}

module _ (P : Language) (st : State) (all : AreOpen P st) where
  spared : (i : Text) (e : Entry) → Spares i e → (IsClosing i e.act → ⊥) → IsQuiet i e
  spared i e (inl quiet) open_still = quiet
  spared i e (inr closing) open_still = absurd (open_still closing)

  by_entry : (ev : Event) (answer : Option Outcome) (e : Entry) (r : Reply) → given P st.history ev (snap_of st.begun ev) answer ≡ Enters e r → (o : Option Limit) → AreOpen P (entered st e r o).0
  by_entry ev answer e r is (Some limit) = all
  by_entry ev answer e r is None = record {
    sorted = act-sorted e.act st.begun all.sorted;
    each = λ i s found.
        let k = act-kept e.act st.begun i s found in
        let o : IsOpen P st.history i s = all.each i s k.0 in
        open-push P st.history e i s (spared i e (case-spares P st.history i s o e (case-of P st.history (snap_of st.begun ev) answer e r ev is)) k.1) o;
  }

  closes : (id : Text) → AreOpen P (record { history = st.history; begun = closed id st.begun })
  closes id = record {
    sorted = closed-sorted id st.begun all.sorted;
    each = λ i s found. all.each i s (closed-kept id i s st.begun found).0;
  }

  opens : (id : Text) (s : ℕ) → IsOpen P st.history id s → AreOpen P (record { history = st.history; begun = opened id s st.begun })
  opens id s new = record {
    sorted = opened-sorted id s st.begun all.sorted;
    each = λ i t found. opened-is id i s t st.begun found (λ same at_s. let Of : Text → Type 0 = λ j. IsOpen P st.history j t in let At : ℕ → Type 0 = λ k. IsOpen P st.history id k in subst Of (sym same) (subst At (sym at_s) new)) (λ old. all.each i t old);
  }

  by_reply : (ev : Event) (answer : Option Outcome) (r : Reply) → given P st.history ev (snap_of st.begun ev) answer ≡ Answers r → AreOpen P (record { history = st.history; begun = after_reply ev r st.begun })
  by_reply (Turn id) answer (Began s) is = opens id s (turned-begun P st.history id (snap_of st.begun (Turn id)) answer s is)
  by_reply (Turn id) answer (Conflicts j) is = closes id
  by_reply ev answer r is = all

  by_given : (ev : Event) (answer : Option Outcome) (g : Given) → given P st.history ev (snap_of st.begun ev) answer ≡ g → AreOpen P (came st ev g).0
  by_given ev answer (Enters e r) is = by_entry ev answer e r is (full_of st.history e)
  by_given ev answer (Answers r) is = by_reply ev answer r is

  pub stepped-open : (ev : Event) (answer : Option Outcome) → AreOpen P (stepped P st ev answer).state
  stepped-open ev answer = by_given ev answer (given P st.history ev (snap_of st.begun ev) answer) refl

pub step-open : (P : Language) (st : State) (ev : Event) (answers : List (Option Outcome)) → AreOpen P st → AreOpen P (step P st ev answers).state
step-open P st ev answers all = stepped-open P st all ev (first_of answers)
