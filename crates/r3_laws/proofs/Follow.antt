-- The entry of an event that fits may follow a formed history.
use Rattle.std.proofs.Common.{◌≡◌, ℕ, true, false, List, [], ◌∷◌, length, Option, refl, sym, ap, ◌∙◌}
use Rattle.r3_value.specs.declared.value.Outcome.{Outcome}
use Rattle.r3_entry.specs.declared.entry.Entry.{Entry}
use Rattle.r3_entry.specs.Formed.{is_program, is_first, IsProgramFirst, Follows, IsFormed}
use Rattle.r3_model.specs.Language.{Text, Language}
use Rattle.fn_tree.specs.declared.flow.Request.{Request}
use Rattle.r3_model.specs.Event.{Event, Reply}
use Rattle.r3_model.specs.Given.{Enters}
use Rattle.r3_model.specs.Machine.{State, given, snap_of}
use Rattle.r3_model.specs.Valid.{AreOpen}
use Rattle.r3_model.specs.Fits.{Fits}
use Rattle.r3_model.specs.Lawful.{IsLawful}
use Rattle.r3_laws.proofs.Agreeing.{case-stands, rows-fit, begun_is, Suits, fits-suits}
use Rattle.r3_laws.proofs.CaseKinds.{case-kinds}
use Rattle.r3_laws.proofs.Cases.{AskCase, commits, hears, bears, links, awaits, finishes, goes_on, Case, programs, loads, starts, enqueues, dequeues, turns, cancels, resumes, forks, recovers}
use Rattle.r3_laws.proofs.CasesOf.{case-of}
use Rattle.r3_laws.proofs.FlowRows.{case-rows}
use Rattle.r3_laws.proofs.FollowSteps.{case-steps}
use Rattle.r3_laws.proofs.Isolated.{case-isolated}
use Rattle.r3_laws.proofs.Rising.{IsSmall, case-small}

module _ (P : Language) (h : List Entry) (e : Entry) (program : is_program e.act ≡ true) where
  abbrev IsBare : Type 0
  IsBare = (e.snap ≡ length h) × (e.reads ≡ []) × (e.writes ≡ [])

  other : (e0 : Entry) → e ≡ e0 → is_program e0.act ≡ false → IsBare
  other e0 is none = let clash : true ≡ false = sym program ∙ ap (λ (x : Entry). is_program x.act) is ∙ none in absurd (let z : true ≡ false = clash in cc)

  ask-bare : {snap : Option ℕ} {answer : Option Outcome} (id : Text) (q : Request) → AskCase P h id q snap answer e → IsBare
  ask-bare id q (commits s kind snap_is none is) = other _ is refl
  ask-bare id q (hears o kind heard is) = other _ is refl
  ask-bare id q (bears kind gone few is) = other _ is refl
  ask-bare id q (links child o kind child_is o_is is) = other _ is refl
  ask-bare id q (awaits o kind found is) = other _ is refl

  case-bare : {ev : Event} {snap : Option ℕ} {answer : Option Outcome} → Case P h ev snap answer e → IsBare
  case-bare (programs text ev is) = (ap (λ (x : Entry). x.snap) is, ap (λ (x : Entry). x.reads) is, ap (λ (x : Entry). x.writes) is)
  case-bare (loads table rows ev is) = other _ is refl
  case-bare (starts given function args ev gone tests is) = other _ is refl
  case-bare (enqueues given queue function args ev gone tests is) = other _ is refl
  case-bare (dequeues queue f ev there waits is) = other _ is refl
  case-bare (turns id row ev there runs (finishes o ends is)) = other _ is refl
  case-bare (turns id row ev there runs (goes_on q ends c)) = ask-bare id q c
  case-bare (cancels id row ev there may is) = other _ is refl
  case-bare (resumes id row ev there may is) = other _ is refl
  case-bare (forks given source below row ev gone there tests is) = other _ is refl
  case-bare (recovers id row ev there runs is) = other _ is refl

program-first : (P : Language) (h : List Entry) (e : Entry) {ev : Event} {snap : Option ℕ} {answer : Option Outcome} → Case P h ev snap answer e → is_program e.act ≡ is_first h → IsProgramFirst h e
program-first P [] e c program = let b = case-bare P [] e program c in (program, b.0, b.1, b.2)
program-first P (x ∷ xs) e c program = program

pub entry-small : (P : Language) → IsLawful P → (st : State) (ev : Event) (answer : Option Outcome) (e : Entry) (r : Reply) → Fits st.history ev → given P st.history ev (snap_of st.begun ev) answer ≡ Enters e r → IsSmall e
entry-small P lawful st ev answer e r fits is =
    case-small P lawful st.history e ev (rows-fit st.history ev (fits-suits st.history ev fits)) (case-of P st.history (snap_of st.begun ev) answer e r ev is)

pub entry-follows : (P : Language) (st : State) (ev : Event) (answer : Option Outcome) (e : Entry) (r : Reply) → IsLawful P → IsFormed st.history → AreOpen P st → Fits st.history ev → given P st.history ev (snap_of st.begun ev) answer ≡ Enters e r → Follows st.history e
entry-follows P st ev answer e r lawful formed all fits is =
    let c : Case P st.history ev (snap_of st.begun ev) answer e = case-of P st.history (snap_of st.begun ev) answer e r ev is in
    let suits : Suits st.history ev = fits-suits st.history ev fits in
    let s = case-stands P st.history ev (snap_of st.begun ev) e suits (begun_is P st all ev) c in
    let small : IsSmall e = case-small P lawful st.history e ev (rows-fit st.history ev suits) c in
    record {
      program = program-first P st.history e c s.program;
      isolated = case-isolated P lawful st.history e ev (snap_of st.begun ev) (begun_is P st all ev) c;
      kinds = case-kinds P st.history e c;
      steps = case-steps P lawful st.history formed e c;
      flows = case-rows st.history formed P e c;
      few_rows = small.few_rows;
      few_reads = small.few_reads;
    }
