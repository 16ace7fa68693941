-- The entry of an event that fits agrees.
use Rattle.std.proofs.Common.{◌≡◌, ◌≢◌, ℕ, ◌≤◌, false, List, [], ◌∷◌, length, Option, Some, None, refl, sym, subst, ap, ◌∙◌, arith}
use Rattle.std.specs.Prelude.{⊤}
use Rattle.r3_value.specs.declared.value.Outcome.{Outcome}
use Rattle.r3_rows.specs.declared.rows.FlowRow.{FlowRow}
use Rattle.r3_entry.specs.declared.entry.Act.{Act}
use Rattle.r3_entry.specs.declared.entry.Entry.{Entry}
use Rattle.r3_entry.specs.Formed.{is_program, is_first}
use Rattle.r3_model.specs.Language.{Text, Language}
use Rattle.fn_tree.specs.declared.flow.Request.{Request}
use Rattle.sys_flow.specs.declared.command.Command.{Command}
use Rattle.sys_flow.specs.declared.command.Command.TheVariants.{Load, Start, Enqueue, Cancel, Resume, Fork, Recover}
use Rattle.r3_model.specs.Event.{Event, Append, Run, Turn, Dequeue, ShowStatus, GetRow, Nothing, Reply}
use Rattle.r3_model.specs.Given.{Enters}
use Rattle.r3_model.specs.Rows.{flow_at}
use Rattle.r3_model.specs.Acts.{Writes, plain}
use Rattle.r3_model.specs.Machine.{State, given, full_of, snap_of}
use Rattle.r3_model.specs.Made.{Agrees, AreOwnUnwritten, id_of, is_own}
use Rattle.r3_model.specs.Valid.{IsOpen, AreOpen}
use Rattle.r3_model.specs.Fits.{Fits}
use Rattle.r3_laws.specs.OfEvents.{HasRows}
use Rattle.r3_laws.proofs.Begins.{none-past_end}
use Rattle.r3_laws.proofs.Cases.{AskCase, commits, hears, bears, links, awaits, TurnCase, finishes, goes_on, Case, programs, loads, starts, enqueues, dequeues, turns, cancels, resumes, forks, recovers}
use Rattle.r3_laws.proofs.CasesOf.{case-of}
use Rattle.r3_laws.proofs.TellsEvent.{given-tells}

-- A program comes first and nothing else does, and a load has some rows: so much of what fits makes entries agree.
abbrev pub Suits : List Entry → Event → Type 0
Suits h (Append text) = h ≡ []
Suits h (Run command) = (h ≢ []) × HasRows (Run command)
Suits h ev = ⊤

run-suits : (h : List Entry) (c : Command) → Fits h (Run c) → Suits h (Run c)
run-suits h (Load table rows) fits = (fits.0, (fits.1.0, fits.1.1))
run-suits h (Start id function args) fits = (fits.0, tt)
run-suits h (Enqueue id queue function args) fits = (fits.0, tt)
run-suits h (Cancel id) fits = (fits.0, tt)
run-suits h (Resume id) fits = (fits.0, tt)
run-suits h (Fork source step to) fits = (fits.0, tt)
run-suits h (Recover id) fits = (fits.0, tt)

pub fits-suits : (h : List Entry) (ev : Event) → Fits h ev → Suits h ev
fits-suits h (Append text) fits = fits.0
fits-suits h (Run c) fits = run-suits h c fits
fits-suits h (Turn id) fits = tt
fits-suits h (Dequeue queue) fits = tt
fits-suits h (ShowStatus id) fits = tt
fits-suits h (GetRow table key) fits = tt
fits-suits h Nothing fits = tt

-- what else than its event's gift makes an entry agree
pub record Stands (h : List Entry) (e : Entry) : Type 0 where
  pub program : is_program e.act ≡ is_first h
  pub below : e.snap ≤ length h
  pub own : AreOwnUnwritten h e.snap (id_of e.act)

not-first : (h : List Entry) → h ≢ [] → false ≡ is_first h
not-first [] not_empty = absurd (not_empty refl)
not-first (e ∷ es) not_empty = refl

flow-not_first : (h : List Entry) (id : Text) (row : FlowRow) → flow_at h (length h) id ≡ Some row → h ≢ []
flow-not_first h id row there is =
    let clash : None ≡ Some row = sym (ap (λ (g : List Entry). flow_at g (length g) id) is) ∙ there in
    (let e : None ≡ Some row = clash in cc)

module _ (P : Language) (h : List Entry) where
  moved : (e e0 : Entry) → e ≡ e0 → Stands h e0 → Stands h e
  moved e e0 is s = let Of : Entry → Type 0 = Stands h in subst Of (sym is) s

  own_now : (o : Option Text) → AreOwnUnwritten h (length h) o
  own_now None = tt
  own_now (Some id) = none-past_end h (is_own id)

  -- an entry on all that stands before it
  on_all : (e : Entry) (act : Act) (writes : Writes) → e ≡ plain h act writes → is_program act ≡ is_first h → Stands h e
  on_all e act writes is program = moved e (plain h act writes) is (record { program = program; below = omega arith; own = own_now (id_of act) })

  ask-stands : {answer : Option Outcome} (id : Text) (q : Request) (snap : Option ℕ) (e : Entry) → ((s : ℕ) → snap ≡ Some s → IsOpen P h id s) → h ≢ [] → AskCase P h id q snap answer e → Stands h e
  ask-stands id q snap e begun later (commits s kind snap_is none is) =
      let o : IsOpen P h id s = begun s snap_is in
      moved e _ is (record { program = not-first h later; below = o.past; own = o.own })
  ask-stands id q snap e begun later (hears out kind heard is) = on_all e _ _ is (not-first h later)
  ask-stands id q snap e begun later (bears kind gone few is) = on_all e _ _ is (not-first h later)
  ask-stands id q snap e begun later (links child out kind child_is o_is is) = on_all e _ _ is (not-first h later)
  ask-stands id q snap e begun later (awaits out kind found is) = on_all e _ _ is (not-first h later)

  turn-stands : {answer : Option Outcome} (id : Text) (row : FlowRow) (snap : Option ℕ) (e : Entry) → ((s : ℕ) → snap ≡ Some s → IsOpen P h id s) → h ≢ [] → TurnCase P h id row snap answer e → Stands h e
  turn-stands id row snap e begun later (finishes out ends is) = on_all e _ _ is (not-first h later)
  turn-stands id row snap e begun later (goes_on q ends c) = ask-stands id q snap e begun later c

  fit : (ev ev0 : Event) → ev ≡ ev0 → Suits h ev → Suits h ev0
  fit ev ev0 is fits = let Of : Event → Type 0 = Suits h in subst Of is fits

  pub case-stands : {answer : Option Outcome} (ev : Event) (snap : Option ℕ) (e : Entry) → Suits h ev → ((id : Text) (s : ℕ) → ev ≡ Turn id → snap ≡ Some s → IsOpen P h id s) → Case P h ev snap answer e → Stands h e
  case-stands ev snap e fits begun (programs text ev_is is) = on_all e _ _ is (sym (ap is_first (fit ev (Append text) ev_is fits)))
  case-stands ev snap e fits begun (loads table rows ev_is is) = on_all e _ _ is (not-first h (fit ev (Run (Load table rows)) ev_is fits).0)
  case-stands ev snap e fits begun (starts id function args ev_is gone tests is) = on_all e _ _ is (not-first h (fit ev (Run (Start id function args)) ev_is fits).0)
  case-stands ev snap e fits begun (enqueues id queue function args ev_is gone tests is) = on_all e _ _ is (not-first h (fit ev (Run (Enqueue id queue function args)) ev_is fits).0)
  case-stands ev snap e fits begun (dequeues queue f ev_is there waits is) = on_all e _ _ is (not-first h (flow-not_first h f.id f.row there))
  case-stands ev snap e fits begun (turns id row ev_is there runs c) = turn-stands id row snap e (λ s snap_is. begun id s ev_is snap_is) (flow-not_first h id row there) c
  case-stands ev snap e fits begun (cancels id row ev_is there may is) = on_all e _ _ is (not-first h (flow-not_first h id row there))
  case-stands ev snap e fits begun (resumes id row ev_is there may is) = on_all e _ _ is (not-first h (flow-not_first h id row there))
  case-stands ev snap e fits begun (forks id source below row ev_is gone there tests is) = on_all e _ _ is (not-first h (flow-not_first h source row there))
  case-stands ev snap e fits begun (recovers id row ev_is there runs is) = on_all e _ _ is (not-first h (flow-not_first h id row there))

pub rows-fit : (h : List Entry) (ev : Event) → Suits h ev → HasRows ev
rows-fit h (Append text) suits = tt
rows-fit h (Run command) suits = suits.1
rows-fit h (Turn id) suits = tt
rows-fit h (Dequeue queue) suits = tt
rows-fit h (ShowStatus id) suits = tt
rows-fit h (GetRow table key) suits = tt
rows-fit h Nothing suits = tt

module _ (P : Language) (st : State) (all : AreOpen P st) where
  pub begun_is : (ev : Event) (id : Text) (s : ℕ) → ev ≡ Turn id → snap_of st.begun ev ≡ Some s → IsOpen P st.history id s
  begun_is ev id s is snap_is = all.each id s (ap (λ (x : Event). snap_of st.begun x) (sym is) ∙ snap_is)

  pub entry-agrees : (ev : Event) (answer : Option Outcome) (e : Entry) (r : Reply) → Suits st.history ev → given P st.history ev (snap_of st.begun ev) answer ≡ Enters e r → full_of st.history e ≡ None → Agrees P st.history e
  entry-agrees ev answer e r fits is room =
      let s : Stands st.history e = case-stands P st.history ev (snap_of st.begun ev) e fits (begun_is ev) (case-of P st.history (snap_of st.begun ev) answer e r ev is) in
      record {
        reply = r;
        gives = given-tells P st.history ev (snap_of st.begun ev) answer e r (rows-fit st.history ev fits) is;
        fits = room;
        program = s.program;
        below = s.below;
        own = s.own;
      }
