-- A history grows by entries that events give, and keeps its workflows.
use Rattle.std.proofs.Common.{◌≡◌, ℕ, suc, zero, ◌+◌, ◌-◌, ◌≤◌, List, [], ◌∷◌, ◌++◌, take, length, Option, Some, None, refl, sym, subst, ap, ◌∙◌, arith, length-append}
use Rattle.std.specs.Prelude.{fold, option_and_then, slice_get, ⊤}
use Rattle.std.specs.List.{enumerate_from}
use Rattle.std.specs.FinMap.{find}
use Rattle.std.proofs.Math.Seq.{take-length, take-append-add}
use Rattle.std.proofs.lemmas.List.{append_assoc, append-nil}
use Rattle.r3_value.specs.declared.value.Outcome.{Outcome}
use Rattle.r3_rows.specs.declared.rows.Key.TheVariants as keys
use Rattle.r3_rows.specs.declared.rows.FlowRow.{FlowRow}
use Rattle.r3_rows.specs.Keys.{key_cmp}
use Rattle.r3_entry.specs.declared.entry.Entry.{Entry}
use Rattle.r3_entry.specs.History.{Write, after_entry}
use Rattle.r3_model.specs.Language.{Text, Language}
use Rattle.r3_model.specs.Event.{Event, Limit, Reply}
use Rattle.r3_model.specs.Given.{Given, Enters, Answers}
use Rattle.r3_model.specs.Machine.{State, given, came, entered, full_of, snap_of, stepped, first_of}
use Rattle.r3_model.specs.Run.{Trail, next, run}
use Rattle.r3_model.specs.Drain.{Form, drained}
use Rattle.r3_model.specs.Rows.{flow_of, flow_at}
use Rattle.r3_model.specs.Made.{AllAgree, IsMade, recorded}
use Rattle.r3_model.specs.Schedule.{event_of}
use Rattle.r3_model.proofs.Drains.{drained-run}
use Rattle.r3_repeats.specs.Flows.{row_now, IsSameFlow}
use Rattle.r3_repeats.proofs.Same.{same-refl, same-trans}
use Rattle.r3_repeats.proofs.Keeping.{IsGiven, given-keeps}

abbrev pub AllGiven : Language → List Entry → List Entry → Type 0
AllGiven P h [] = ⊤
AllGiven P h (e ∷ es) = IsGiven P h e × AllGiven P (h ++ e ∷ []) es

pub record Grows (P : Language) (g h : List Entry) : Type 0 where
  pub entries : List Entry
  pub given : AllGiven P g entries
  pub is : h ≡ g ++ entries

-- ---- one after the other

pub grows-refl : (P : Language) (h : List Entry) → Grows P h h
grows-refl P h = record { entries = []; given = tt; is = sym (append-nil h) }

pub given-append : (P : Language) (h es fs : List Entry) → AllGiven P h es → AllGiven P (h ++ es) fs → AllGiven P h (es ++ fs)
given-append P h [] fs a b = let Of : List Entry → Type 0 = λ g. AllGiven P g fs in subst Of (append-nil h) b
given-append P h (e ∷ es) fs a b =
    let Of : List Entry → Type 0 = λ g. AllGiven P g fs in
    (a.0, given-append P (h ++ e ∷ []) es fs a.1 (subst Of (sym (append_assoc h (e ∷ []) es)) b))

pub grows-trans : (P : Language) (f g h : List Entry) → Grows P f g → Grows P g h → Grows P f h
grows-trans P f g h one two =
    let Of : List Entry → Type 0 = λ x. AllGiven P x two.entries in
    record {
      entries = one.entries ++ two.entries;
      given = given-append P f one.entries two.entries one.given (subst Of one.is two.given);
      is = two.is ∙ ap (λ (x : List Entry). x ++ two.entries) one.is ∙ append_assoc f one.entries two.entries;
    }

pub grows-at : (P : Language) (g h h' : List Entry) → h ≡ h' → Grows P g h → Grows P g h'
grows-at P g h h' same grows = let Of : List Entry → Type 0 = λ x. Grows P g x in subst Of same grows

pub grows-longer : (P : Language) (g h : List Entry) → Grows P g h → length g ≤ length h
grows-longer P g h grows = omega (arith, length-append g grows.entries, ap (λ (x : List Entry). length x) grows.is)

-- ---- events

module _ (P : Language) where
  entered-grows : (st : State) (e : Entry) (r : Reply) (limit : Option Limit) → IsGiven P st.history e → Grows P st.history (entered st e r limit).0.history
  entered-grows st e r (Some limit) g = grows-refl P st.history
  entered-grows st e r None g = record { entries = e ∷ []; given = (g, tt); is = refl }

  came-grows : (st : State) (ev : Event) (snap : Option ℕ) (answer : Option Outcome) (g : Given) → given P st.history ev snap answer ≡ g → Grows P st.history (came st ev g).0.history
  came-grows st ev snap answer (Enters e r) is = entered-grows st e r (full_of st.history e) (record { event = ev; snap = snap; answer = answer; reply = r; gives = is })
  came-grows st ev snap answer (Answers r) is = grows-refl P st.history

  pub stepped-grows : (st : State) (ev : Event) (answer : Option Outcome) → Grows P st.history (stepped P st ev answer).state.history
  stepped-grows st ev answer = came-grows st ev (snap_of st.begun ev) answer (given P st.history ev (snap_of st.begun ev) answer) refl

  pub next-grows : (t : Trail) (ev : Event) → Grows P t.state.history (next P t ev).state.history
  next-grows t ev = stepped-grows t.state ev (first_of t.answers)

  pub run-grows : (t : Trail) (evs : List Event) → Grows P t.state.history (run P t evs).state.history
  run-grows t [] = grows-refl P t.state.history
  run-grows t (ev ∷ evs) = grows-trans P t.state.history (next P t ev).state.history (run P (next P t ev) evs).state.history (next-grows t ev) (run-grows (next P t ev) evs)

  pub drain-grows : (form : Form) (n : ℕ) (t : Trail) → Grows P t.state.history (drained (next P) P.queues form n t).trail.state.history
  drain-grows form n t =
      let d = drained-run P form n t in
      grows-at P t.state.history (run P t d.0).state.history (drained (next P) P.queues form n t).trail.state.history (ap (λ (u : Trail). u.state.history) (sym d.3)) (run-grows t d.0)

-- ---- parts

all-take : (P : Language) (h es : List Entry) (n : ℕ) → AllGiven P h es → AllGiven P h (take n es)
all-take P h es zero a = tt
all-take P h [] (suc n) a = tt
all-take P h (e ∷ es) (suc n) a = (a.0, all-take P (h ++ e ∷ []) es n a.1)

-- a prefix that has all of the first history
pub grows-take : (P : Language) (g h : List Entry) (len : ℕ) → Grows P g h → length g ≤ len → Grows P g (take len h)
grows-take P g h len grows le =
    let n : ℕ = len - length g in
    let sum : len ≡ length g + n = omega arith in
    record {
      entries = take n grows.entries;
      given = all-take P g grows.entries n grows.given;
      is = ap (λ (x : List Entry). take len x) grows.is ∙ ap (λ (k : ℕ). take k (g ++ grows.entries)) sum ∙ take-append-add g grows.entries n;
    }

pub grows-between : (P : Language) (g es : List Entry) (i j : ℕ) → AllGiven P g es → i ≤ j → Grows P (g ++ take i es) (g ++ take j es)
grows-between P g es zero j a le =
    let Of : List Entry → Type 0 = λ x. AllGiven P x (take j es) in
    record {
      entries = take j es;
      given = subst Of (sym (append-nil g)) (all-take P g es j a);
      is = ap (λ (x : List Entry). x ++ take j es) (sym (append-nil g));
    }
grows-between P g es (suc i) zero a le = absurd (omega arith)
grows-between P g [] (suc i) (suc j) a le = grows-refl P (g ++ [])
grows-between P g (e ∷ es) (suc i) (suc j) a le =
    let From : List Entry → Type 0 = λ x. Grows P x (g ++ e ∷ take j es) in
    let To : List Entry → Type 0 = λ x. Grows P ((g ++ e ∷ []) ++ take i es) x in
    subst From (append_assoc g (e ∷ []) (take i es)) (subst To (append_assoc g (e ∷ []) (take j es)) (grows-between P (g ++ e ∷ []) es i j a.1 (omega arith)))

pub given-at : (P : Language) (g es : List Entry) (i : ℕ) (e : Entry) → AllGiven P g es → slice_get es i ≡ Some e → IsGiven P (g ++ take i es) e
given-at P g [] i e a is = absurd (let z : None ≡ Some e = is in cc)
given-at P g (x ∷ xs) zero e a is =
    let same : x ≡ e = (let z : Some x ≡ Some e = is in cc) in
    let Of : Entry → Type 0 = λ y. IsGiven P (g ++ []) y in
    let On : List Entry → Type 0 = λ h. IsGiven P h x in
    subst Of same (subst On (sym (append-nil g)) a.0)
given-at P g (x ∷ xs) (suc i) e a is =
    let On : List Entry → Type 0 = λ h. IsGiven P h e in
    subst On (append_assoc g (x ∷ []) (take i xs)) (given-at P (g ++ x ∷ []) xs i e a.1 is)

all-given : (P : Language) (h es : List Entry) → AllAgree P h es → AllGiven P h es
all-given P h [] all = tt
all-given P h (e ∷ es) all = (record { event = event_of e; snap = Some e.snap; answer = recorded e e.act; reply = all.0.reply; gives = all.0.gives }, all-given P (h ++ e ∷ []) es all.1)

pub made-given : (P : Language) (h : List Entry) → IsMade P h → AllGiven P [] h
made-given P h made = all-given P [] h made

-- ---- workflows

-- the workflow is there, as the same
abbrev pub Stays : List Entry → Text → FlowRow → Type 0
Stays h id row = (later : FlowRow) × (row_now h id ≡ Some later) × IsSameFlow row later

all-keep : (P : Language) (h es : List Entry) (id : Text) (row : FlowRow) → AllGiven P h es → row_now h id ≡ Some row → Stays (h ++ es) id row
all-keep P h [] id row a there = let Of : List Entry → Type 0 = λ x. Stays x id row in subst Of (sym (append-nil h)) (row, there, same-refl row)
all-keep P h (e ∷ es) id row a there =
    let k : Stays (h ++ e ∷ []) id row = given-keeps P h id row there e a.0 in
    let r : Stays ((h ++ e ∷ []) ++ es) id k.0 = all-keep P (h ++ e ∷ []) es id k.0 a.1 k.1 in
    let Of : List Entry → Type 0 = λ x. Stays x id row in
    subst Of (append_assoc h (e ∷ []) es) (r.0, r.1, same-trans row k.0 r.0 k.2 r.2)

pub grows-keeps : (P : Language) (g h : List Entry) (id : Text) (row : FlowRow) → Grows P g h → row_now g id ≡ Some row → Stays h id row
grows-keeps P g h id row grows there = let Of : List Entry → Type 0 = λ x. Stays x id row in subst Of (sym grows.is) (all-keep P g grows.entries id row grows.given there)

-- the row after the first entries is the row of the first entries
pub flow-take : (h : List Entry) (j : ℕ) (id : Text) → flow_at h j id ≡ row_now (take j h) id
flow-take h j id =
    ap (λ (x : List Entry). option_and_then flow_of (option_and_then (λ (w : Write). w.1) (find key_cmp (keys.Flow id) (fold after_entry [] (enumerate_from 1 x))))) (sym (take-length (take j h)))
