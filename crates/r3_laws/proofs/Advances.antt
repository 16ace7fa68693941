-- The event of each entry of a made history makes the entry again.
use Rattle.std.proofs.Common.{◌≡◌, ℕ, ◌+◌, ◌<◌, ◌≤◌, List, [], ◌∷◌, ◌++◌, map, length, Option, Some, None, refl, sym, subst, ap, ◌∙◌, arith, inl, inr}
use Rattle.std.specs.Prelude.{slice_get}
use Rattle.std.proofs.lemmas.Bool.{cases_lt}
use Rattle.std.proofs.lemmas.Option.{slice_get_within}
use Rattle.r3_value.specs.declared.value.Outcome.{Outcome}
use Rattle.r3_rows.specs.declared.rows.FlowRow.{FlowRow}
use Rattle.r3_entry.specs.declared.entry.Act.{Act}
use Rattle.r3_entry.specs.declared.entry.Act.TheVariants as acts
use Rattle.r3_entry.specs.declared.entry.Entry.{Entry}
use Rattle.r3_model.specs.Language.{Text, Language}
use Rattle.fn_tree.specs.declared.flow.Request.{Request}
use Rattle.fn_tree.specs.declared.flow.AskKind.{AskKind}
use Rattle.fn_tree.specs.declared.flow.AskKind.TheVariants as asking
use Rattle.fn_tree.specs.declared.flow.FlowEnd.TheVariants.{Asks}
use Rattle.r3_model.specs.Event.{Event, Turn, Limit, Call}
use Rattle.r3_model.specs.Given.{Given}
use Rattle.sys_queue.specs.Rows.{is_pending}
use Rattle.r3_model.specs.Turns.{asks_outside}
use Rattle.r3_model.specs.Machine.{State, given, snap_of, came, entered, after_act, calls_of, call_with, first_of}
use Rattle.r3_model.specs.Schedule.{event_of, event_of_act}
use Rattle.r3_model.specs.Made.{Agrees, IsMade, recorded}
use Rattle.r3_model.specs.Lawful.{IsLawful}
use Rattle.r3_model.specs.Verdict.{replay_answer}
use Rattle.r3_laws.proofs.Cases.{AskCase, commits, hears, bears, links, awaits, finishes, goes_on, Case, programs, loads, starts, enqueues, dequeues, turns, cancels, resumes, forks, recovers}
use Rattle.r3_laws.proofs.Committed.{made-at}
use Rattle.r3_laws.proofs.Gifts.{IsOutside, same-gift}
use Rattle.r3_laws.proofs.Heard.{heard-again}
use Rattle.r3_laws.proofs.Overlap.{take-next}
use Rattle.r3_laws.proofs.Snapshots.{act-kept, act-stays}
use Rattle.r3_laws.proofs.Spares.{IsClosing}
use Rattle.r3_laws.proofs.Stages.{Pends, Stage, txn-closing, gap, snap-below, answer_at, one}
use Rattle.r3_laws.proofs.ToldMade.{agrees-case}
use Rattle.r3_laws.proofs.TurnCases.{calls-pending}
use Rattle.r3_laws.proofs.TxnCases.{IsTxnOf}

event-turn : (e : Entry) (id : Text) (act : Act) → e.act ≡ act → IsTxnOf id act → event_of e ≡ Turn id
event-turn e id (acts.Txn i n args) is txn = ap (λ (a : Act). event_of_act e a) is ∙ ap (λ (x : Text). Turn x) txn
event-turn e id act is txn = absurd txn

module _ (P : Language) (lawful : IsLawful P) (h : List Entry) (made : IsMade P h) where
  -- ---- the event of an entry

  module _ (i m : ℕ) (st : State) (stage : Stage h i m st) (e : Entry) (at : slice_get h i ≡ Some e) (full : length h ≤ m) where
    past : i < m
    past = omega (arith, slice_get_within h i e at, full)

    agrees : Agrees P st.history e
    agrees = let Of : List Entry → Type 0 = λ g. Agrees P g e in subst Of (sym stage.history) (made-at P h i e made at)

    waits-for : (id : Text) → IsTxnOf id e.act → Pends h i m id e.snap
    waits-for id txn = record { index = i; entry = e; at = at; txn = txn; snap = refl; late = omega arith; early = snap-below P h made i e at; when = λ same. past }

    snap-there : (id : Text) → IsTxnOf id e.act → snap_of st.begun (event_of e) ≡ Some e.snap
    snap-there id txn = ap (λ (ev : Event). snap_of st.begun ev) (event-turn e id e.act refl txn) ∙ stage.begun id e.snap (waits-for id txn)

    not-outside : {A : Type 0} (e0 : Entry) → e ≡ e0 → IsOutside e.act → (IsOutside e0.act → A) → A
    not-outside e0 is outside use_it = use_it (let Of : Entry → Type 0 = λ x. IsOutside x.act in subst Of is outside)

    -- the call that it records is asked, and answered from the record
    ask-heard : {s : Option ℕ} {a : Option Outcome} (id : Text) (row : FlowRow) (q : Request) → event_of e ≡ Turn id → calls_of P st.history (Turn id) None ≡ call_with P st.history id None (asks_outside P st.history id (Asks q)) → IsOutside e.act → AskCase P st.history id q s a e → answer_at P h made st (event_of e) ≡ recorded e e.act
    ask-heard id row q ev calls outside (commits k kind begun none is) = not-outside _ is outside absurd
    ask-heard id row q ev calls outside (bears kind gone few is) = not-outside _ is outside absurd
    ask-heard id row q ev calls outside (links child o kind child_is o_is is) = not-outside _ is outside absurd
    ask-heard id row q ev calls outside (awaits o kind found is) = not-outside _ is outside absurd
    ask-heard id row q ev calls outside (hears o kind got is) =
        ap (λ (x : Event). answer_at P h made st x) ev
        ∙ ap (λ (k : List Call). first_of (map (replay_answer h) k)) calls
        ∙ ap (λ (k : AskKind). first_of (map (replay_answer h) (call_with P st.history id None (elim k [ asking.Txn ↦ None | asking.Outside ↦ Some q | asking.Child ↦ None | asking.Await ↦ None ])))) kind
        ∙ heard-again P lawful h made i e at st.history id q o is

    heard : IsOutside e.act → answer_at P h made st (event_of e) ≡ recorded e e.act
    heard outside = by_case (agrees-case P st.history e agrees) where
      by_case : {s : Option ℕ} {a : Option Outcome} → Case P st.history (event_of e) s a e → answer_at P h made st (event_of e) ≡ recorded e e.act
      by_case (programs text ev is) = not-outside _ is outside absurd
      by_case (loads table rows ev is) = not-outside _ is outside absurd
      by_case (starts given function args ev gone tests is) = not-outside _ is outside absurd
      by_case (enqueues given queue function args ev gone tests is) = not-outside _ is outside absurd
      by_case (dequeues queue f ev there waits is) = not-outside _ is outside absurd
      by_case (turns id row ev there runs (finishes o ends is)) = not-outside _ is outside absurd
      by_case (turns id row ev there runs (goes_on q ends c)) = ask-heard id row q ev (calls-pending P st id row there (ap is_pending runs) None (Asks q) ends) outside c
      by_case (cancels id row ev there may is) = not-outside _ is outside absurd
      by_case (resumes id row ev there may is) = not-outside _ is outside absurd
      by_case (forks given source below row ev gone there tests is) = not-outside _ is outside absurd
      by_case (recovers id row ev there runs is) = not-outside _ is outside absurd

    enters-it : one P h made st (event_of e) ≡ record { history = st.history ++ e ∷ []; begun = after_act e.act st.begun }
    enters-it =
        let a : Agrees P st.history e = agrees in
        ap (λ (g : Given). (came st (event_of e) g).0) (same-gift P st.history e (snap_of st.begun (event_of e)) (answer_at P h made st (event_of e)) snap-there heard a ∙ a.gives)
        ∙ ap (λ (o : Option Limit). (entered st e a.reply o).0) a.fits

    low : (id : Text) (s : ℕ) → Pends h (i + 1) 0 id s → s ≤ i
    low id s p = elim (cases_lt s (i + 1)) [ inl lt ↦ omega arith | inr ge ↦ let z : s ≡ i + 1 = omega (arith, p.early) in let lt : p.index < 0 = p.when z in absurd (omega arith) ]

    open-still : (id : Text) (s : ℕ) → Pends h (i + 1) 0 id s → IsClosing id e.act → ⊥
    open-still id s p closing = gap P h made id i p.index e p.entry at p.at closing p.txn (omega (arith, p.late)) (omega (arith, p.snap, low id s p))

    back : (id : Text) (s : ℕ) → Pends h (i + 1) 0 id s → Pends h i m id s
    back id s p = record {
      index = p.index;
      entry = p.entry;
      at = p.at;
      txn = p.txn;
      snap = p.snap;
      late = omega (arith, p.late);
      early = low id s p;
      when = λ same. omega (arith, slice_get_within h p.index p.entry p.at, full);
    }

    next-stage : Stage h (i + 1) 0 (record { history = st.history ++ e ∷ []; begun = after_act e.act st.begun })
    next-stage = record {
      history = ap (λ (g : List Entry). g ++ e ∷ []) stage.history ∙ sym (take-next i h e at);
      wanted = λ id s found.
          let k = act-kept e.act st.begun id s found in
          let p : Pends h i m id s = stage.wanted id s k.0 in
          let later : i < p.index = elim (cases_lt i p.index) [
            | inl lt ↦ lt
            | inr ge ↦
                let here : p.index ≡ i = omega (arith, p.late) in
                let both : Some p.entry ≡ Some e = sym p.at ∙ ap (λ (j : ℕ). slice_get h j) here ∙ at in
                let one_entry : p.entry ≡ e = cc in
                let Of : Entry → Type 0 = λ x. IsTxnOf id x.act in
                absurd (k.1 (txn-closing id e.act (subst Of one_entry p.txn)))
          ] in
          record { index = p.index; entry = p.entry; at = p.at; txn = p.txn; snap = p.snap; late = omega (arith, later); early = omega (arith, p.early); when = λ same. absurd (omega (arith, same, p.early)) };
      begun = λ id s p. act-stays e.act st.begun id (open-still id s p) ∙ stage.begun id s (back id s p);
    }

    pub advances : Stage h (i + 1) 0 (one P h made st (event_of e))
    advances = subst (Stage h (i + 1) 0) (sym enters-it) next-stage
