-- Runs of the machine: what they settle, and a drain that hasn't begun.
use Rattle.std.proofs.Common.{◌≡◌, ℕ, ◌≤◌, List, [], ◌∷◌, ◌++◌, length, refl, sym, ap, ◌∙◌, subst, arith, length-append, append-nil}
use Rattle.r3_entry.specs.declared.entry.Entry.{Entry}
use Rattle.r3_model.specs.Language.{Language}
use Rattle.r3_model.specs.Event.{Event, Call}
use Rattle.r3_model.specs.Held.{Mark}
use Rattle.r3_model.specs.Laws.{DrainsByTurns, OnlyAppends}
use Rattle.r3_model.specs.Machine.{State, Out, step}
use Rattle.r3_model.specs.Run.{Trail, from_state, next, run}
use Rattle.r3_model.specs.Drain.{Plain, drained}
use Rattle.r3_recover.specs.Drained.{Comes, Drains, answers_of}
use Rattle.r3_recover.specs.Kept.{marks_on}
use Rattle.r3_session.proofs.Marks.{AreSettled, settles-next, settles-higher}
use Rattle.r3_session.proofs.Nexts.{nothing-comes}

module _ (law : OnlyAppends) (P : Language) (first : ℕ) where
  abbrev Holds : Trail → Type 0
  Holds t = AreSettled first t.marks (length t.state.history)

  holds-next : (t : Trail) (ev : Event) → Holds t → Holds (next P t ev)
  holds-next t ev holds =
      let o : Out = step P t.state ev t.answers in
      let x = law P t.state ev t.answers in
      let higher : length t.state.history ≤ length o.state.history =
      subst (λ (h : List Entry). length t.state.history ≤ length h) (sym x.2) (omega (arith, length-append t.state.history x.0)) in
      settles-higher first (t.marks ++ marks_on t.state.history o.calls) (length t.state.history) (length o.state.history) higher
      (settles-next first t.marks t.state.history o.calls holds)

  holds-run : (t : Trail) (evs : List Event) → Holds t → Holds (run P t evs)
  holds-run t [] holds = holds
  holds-run t (ev ∷ evs) holds = holds-run (next P t ev) evs (holds-next t ev holds)

-- all that a drain promised is settled
pub drain-settles : OnlyAppends → DrainsByTurns → (P : Language) (turns : ℕ) (st new : State) (calls : List Call) (marks : List Mark)
    → Drains P turns st new calls marks → AreSettled (length st.history) marks (length new.history)
drain-settles law by_turns P turns st new calls marks drains =
    let t : Trail = from_state st (answers_of calls) in
    let c = drains t [] (refl, sym (append-nil (answers_of calls))) in
    let d = by_turns P Plain turns t in
    let u : Trail = (drained (next P) P.queues Plain turns t).trail in
    let first : AreSettled (length st.history) t.marks (length t.state.history) = record { no_less = omega arith; within = omega arith; kept = tt } in
    let all : AreSettled (length st.history) u.marks (length u.state.history) =
    subst (λ (v : Trail). AreSettled (length st.history) v.marks (length v.state.history)) (sym d.3) (holds-run law P (length st.history) t d.0 first) in
    subst (λ (ms : List Mark). AreSettled (length st.history) ms (length new.history)) c.marks_are
    (subst (λ (s : State). AreSettled (length st.history) u.marks (length s.history)) c.state all)

no-events : (evs : List Event) → length evs ≤ 0 → evs ≡ []
no-events [] le = refl
no-events (ev ∷ evs) le = absurd (omega (arith, le))

-- a drain of no turns does nothing
pub drains-none : DrainsByTurns → (P : Language) (st : State) → Drains P 0 st st [] []
drains-none by_turns P st = λ t rest here.
    let d = by_turns P Plain 0 t in
    let same : (drained (next P) P.queues Plain 0 t).trail ≡ t = d.3 ∙ ap (λ (evs : List Event). run P t evs) (no-events d.0 d.2) in
    subst (λ (u : Trail). Comes t u st [] [] rest) (sym same) (nothing-comes t st rest here)
