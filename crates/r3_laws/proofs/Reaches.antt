-- Every history that is reached from the empty one is made.
use Rattle.std.proofs.Common.{◌≡◌, List, [], ◌∷◌, take, drop, Option, Some, None, refl, sym, subst, take-append-drop}
use Rattle.r3_value.specs.declared.value.Outcome.{Outcome}
use Rattle.r3_entry.specs.declared.entry.Entry.{Entry}
use Rattle.r3_model.specs.Language.{Language}
use Rattle.r3_model.specs.Event.{Event, Limit, Reply}
use Rattle.r3_model.specs.Given.{Given, Enters, Answers}
use Rattle.r3_model.specs.Machine.{State, given, came, entered, full_of, snap_of, stepped, first_of}
use Rattle.r3_model.specs.Run.{Trail, from_state, restarted, next, run}
use Rattle.r3_model.specs.Made.{IsMade}
use Rattle.r3_model.specs.Valid.{AreOpen}
use Rattle.r3_laws.specs.OfHistories.{AllFit, Reached, at_first, after_a_run}
use Rattle.r3_laws.proofs.Agreeing.{entry-agrees, Suits, fits-suits}
use Rattle.r3_laws.proofs.KeepsOpen.{stepped-open}
use Rattle.r3_laws.proofs.Replays.{made-before, made-push}

module _ (P : Language) where
  by_room : (st : State) (all : AreOpen P st) (ev : Event) (answer : Option Outcome) (e : Entry) (r : Reply) → Suits st.history ev → IsMade P st.history → given P st.history ev (snap_of st.begun ev) answer ≡ Enters e r
      → (o : Option Limit) → full_of st.history e ≡ o → IsMade P (entered st e r o).0.history
  by_room st all ev answer e r fits made is (Some limit) room = made
  by_room st all ev answer e r fits made is None room = made-push P st.history e made (entry-agrees P st all ev answer e r fits is room)

  by_given : (st : State) (all : AreOpen P st) (ev : Event) (answer : Option Outcome) → Suits st.history ev → IsMade P st.history → (g : Given) → given P st.history ev (snap_of st.begun ev) answer ≡ g → IsMade P (came st ev g).0.history
  by_given st all ev answer fits made (Enters e r) is = by_room st all ev answer e r fits made is (full_of st.history e) refl
  by_given st all ev answer fits made (Answers r) is = made

  pub stepped-made : (st : State) → AreOpen P st → (ev : Event) (answer : Option Outcome) → Suits st.history ev → IsMade P st.history → IsMade P (stepped P st ev answer).state.history
  stepped-made st all ev answer fits made = by_given st all ev answer fits made (given P st.history ev (snap_of st.begun ev) answer) refl

  pub run-made : (t : Trail) (evs : List Event) → AreOpen P t.state → IsMade P t.state.history → AllFit P t evs → IsMade P (run P t evs).state.history
  run-made t [] all made fits = made
  run-made t (ev ∷ evs) all made fits =
      run-made (next P t ev) evs (stepped-open P t.state all ev (first_of t.answers)) (stepped-made t.state all ev (first_of t.answers) (fits-suits t.state.history ev fits.0) made) fits.1

  -- a restart has no open snapshot
  pub restarted-open : (h : List Entry) → AreOpen P (restarted h)
  restarted-open h = record { sorted = refl; each = λ id s found. absurd (let e : None ≡ Some s = found in cc) }

  pub reached-made : (h : List Entry) → Reached P h → IsMade P h
  reached-made h at_first = tt
  reached-made g (after_a_run {h} k evs answers reached fits) =
      let last : List Entry = (run P (from_state (restarted h) answers) evs).state.history in
      let made : IsMade P last = run-made (from_state (restarted h) answers) evs (restarted-open h) (reached-made h reached) fits in
      let Of : List Entry → Type 0 = λ x. IsMade P x in
      made-before P (take k last) (drop k last) (subst Of (sym (take-append-drop k last)) made)
