-- The generator's call, of which the summary alone is said.
use Rattle.std.proofs.Common.{◌≡◌, ◌⊎◌, inl, inr, ⊎_elim, ℕ, List, [], ◌∷◌, length, take, Option, Some, refl, ap, ◌∙◌, subst}
use Rattle.std.specs.Prelude.{Result, Ok, Err, ⊤}
use Rattle.std.specs.Option.{ForSome}
use Rattle.fn_tree.specs.declared.program.Item.{Item}
use Rattle.r3_entry.specs.declared.entry.Entry.{Entry}
use Rattle.r3_entry.specs.Image.{IsHistoryOf}
use Rattle.r3_desk.specs.Asked as desk
use Rattle.r3_desk.specs.Crash.{Reach}
use Rattle.r3_store.specs.Holds as store
use Rattle.r3_store.specs.declared.store.Store.{Store}
use Rattle.r3_model.specs.Functions.{language_of}
use Rattle.r3_model.specs.Generator.{generated}
use Rattle.r3_model.specs.Language.{Text}
use Rattle.r3_model.specs.Script.{Line}
use Rattle.r3_exec.specs.declared.exec.Exec.{Exec}
use Rattle.r3_recover.specs.Opened.{HasProgram, HasCause, IsHalted}
use Rattle.r3_recover.specs.declared.ends.StartFault.{StartFault}
use Rattle.r3_recover.specs.declared.ends.StartFault.TheVariants as starts
use Rattle.r3_serve.specs.Served.{Quiet, Served}
use Rattle.r3_gen.specs.Ran.{Ran, SummaryFailed, StoppedAmong, EndsEarly}
use Rattle.r3_gen.specs.declared.fault.GenFault.{GenFault}
use Rattle.r3_gen.specs.declared.fault.GenFault.TheVariants as gens
use Rattle.r3_top.specs.Functions.{IsAccepted}
use Rattle.r3_top.specs.Refusals.{IsOthers}
use Rattle.r3_top.specs.Causes.{IsBegun}
use Rattle.r3_top.specs.Going.{Unsaid, WithinUnsaid, Generating}
use Rattle.r3_top.proofs.Saying.{push-none}
use Rattle.r3_top.proofs.Refusing.{Opening-of, Others-of}
use Rattle.r3_top.proofs.Working.{same-history}

-- ---- the opening

pub no-fault : {T : Type 0} (x : T) (fault : GenFault) → ◌≡◌ {A = Result T GenFault} (Ok x) (Err fault) → ⊥
no-fault x fault is = cc

pub at-start : {T : Type 0} (fault : GenFault) (start told : StartFault) → fault ≡ gens.Start start → start ≡ told → ◌≡◌ {A = Result T GenFault} (Err fault) (Err (gens.Start told))
at-start fault start told at is = cc

start-same : (fault : GenFault) (a b : StartFault) → fault ≡ gens.Start a → fault ≡ gens.Start b → a ≡ b
start-same fault a b first second = cc

pub gen-others : (image : Option Text) (text : Text) (fault : GenFault) (start : StartFault) → fault ≡ gens.Start start
    → ((h : List Entry) → ForSome image (λ i. IsHistoryOf h i → (HasProgram h text → ⊥) → (s : StartFault) × (fault ≡ gens.Start s) × ((s ≡ starts.Other) ⊎ IsHalted s)))
    → Others-of image text start
gen-others image text fault start at others = λ h i there history none.
    let x = others h i there history none in
    subst (λ (s : StartFault). (s ≡ starts.Other) ⊎ IsHalted s) (start-same fault x.0 start x.1 at) x.2

other-halted : IsHalted starts.Other → ⊥
other-halted h = ⊎_elim (λ d. let e : starts.Other ≡ starts.Disk = d in cc) (λ m. let e : starts.Other ≡ starts.Memory = m in cc) h

-- a store of these functions isn't refused
pub gen-is-taken : (image : Option Text) (text i : Text) (h : List Entry) (start : StartFault) → start ≡ starts.Other → Opening-of image text start
    → image ≡ Some i → IsHistoryOf h i → HasProgram h text → ⊥
gen-is-taken image text i h start at opens there history has = other-halted (subst IsHalted at (opens h i there history has))

pub gen-not-this : (image : Option Text) (text : Text) (start : StartFault) → start ≡ starts.Other → Opening-of image text start
    → HasCause image text start → IsOthers text image
gen-not-this image text start at opens caused =
    let cause : HasCause image text starts.Other = subst (λ (x : StartFault). HasCause image text x) at caused in
    λ i there.
    let x = cause i there in
    ((x.0, x.1), λ h history has. gen-is-taken image text i h start at opens there history has)

-- what comes behind an opening
abbrev pub IsLater : GenFault → Type 0
IsLater (gens.Start start) = ⊥
IsLater fault = ⊤

not-start : (fault : GenFault) (start : StartFault) → IsLater fault → fault ≡ gens.Start start → ⊥
not-start fault start later is = let bad : IsLater (gens.Start start) = subst IsLater is later in bad

err-start : {T : Type 0} (fault : GenFault) (start : StartFault) → ◌≡◌ {A = Result T GenFault} (Err fault) (Err (gens.Start start)) → fault ≡ gens.Start start
err-start fault start is = cc

-- ---- the lines

take-length : (h : List Entry) → take (length h) h ≡ h
take-length [] = refl
take-length (e ∷ es) = ap (λ (xs : List Entry). e ∷ xs) (take-length es)

module _ {D : Type 0} (size : D → Option ℕ) (image : D → Option Text) (may_leave : D → Text → Type 0) (moment : D → ℕ) (reach : D → Reach) (said : D → Option Text) (asked : D → Option (List desk.Call)) where
  -- what a read gives of a store that holds this, and what a crash leaves
  abbrev pub Reads : Type 0
  Reads = (d : D) (s : Store) (h : List Entry) (k : ℕ) (c : Text) → store.Holds size image may_leave d s h k → image d ≡ Some c → IsHistoryOf (take k h) c

  abbrev pub Settles : Type 0
  Settles = (d : D) (s : Store) (h : List Entry) (k : ℕ) (c : Text) → store.Holds size image may_leave d s h k → may_leave d c → IsHistoryOf (take k h) c

  unsaid : Reads → Settles → (from now : D) (exec : Exec) (text : Text) (h : List Entry) (lines : List Line)
      → Served size image may_leave moment reach said asked from now exec Quiet text h lines
      → Unsaid image may_leave moment reach said asked from now (language_of exec.program) text h lines
  unsaid reads crash from now exec text h lines s =
      let all : take (length s.after.history) s.after.history ≡ s.after.history = take-length s.after.history in
      record {
        calls = s.calls;
        marks = s.marks;
        after = s.after;
        replies = s.replies;
        machine = s.machine;
        told = s.told ∙ push-none (said from);
        asks = s.asks;
        stored = λ c is. subst (λ (h' : List Entry). IsHistoryOf h' c) all (reads now exec.store s.after.history (length s.after.history) c s.runs.holds is);
        settled = λ c may. subst (λ (h' : List Entry). IsHistoryOf h' c) all (crash now exec.store s.after.history (length s.after.history) c s.runs.holds may);
        leaves = s.leaves;
      }

  within-unsaid : Reads → Settles → (from now : D) (exec : Exec) (text : Text) (h : List Entry) (lines : List Line)
      → StoppedAmong size image may_leave moment reach said asked from now exec text h [] lines
      → WithinUnsaid image may_leave moment reach said asked from now (language_of exec.program) text h lines
  within-unsaid reads crash from now exec text h lines s = (
    s.done,
    s.later,
    s.of_lines,
    ⊎_elim (λ all. inl (unsaid reads crash from now exec text h s.done all)) (λ part. inr part) s.state,
  )

  -- within the lines, or with a part of the summary; and all of it
  abbrev pub Drew : (from now : D) → Text → List Entry → ℕ → ℕ → Type 0
  Drew from now text h number count = (is : List Item) × IsAccepted text is × Generating image may_leave moment reach said asked from now (language_of is) text h number count

  abbrev pub DrewAll : (from now : D) → Text → List Entry → ℕ → ℕ → Type 0
  DrewAll from now text h number count = (is : List Item) × IsAccepted text is × Ran image moment reach said asked from now (language_of is) text h (generated number count) count

  abbrev pub DrewInPart : (from now : D) → Text → List Entry → ℕ → ℕ → Type 0
  DrewInPart from now text h number count = (is : List Item) × IsAccepted text is × SummaryFailed image moment reach said asked from now (language_of is) text h (generated number count) count

  -- the summary failed to be said
  pub gen-failed : ((c : Text) (a b : List Entry) → IsHistoryOf a c → IsHistoryOf b c → a ≡ b) → (from now : D) (text c : Text) (h : List Entry) (number count : ℕ) (items : List Item) → IsAccepted text items
      → image from ≡ Some c → IsHistoryOf h c
      → (k : List Entry) × ForSome (image from) (IsHistoryOf k) × HasProgram k text × SummaryFailed image moment reach said asked from now (language_of items) text k (generated number count) count
      → DrewInPart from now text h number count
  gen-failed one from now text c h number count items accepted is history x = (
    items,
    accepted,
    subst (λ (h' : List Entry). SummaryFailed image moment reach said asked from now (language_of items) text h' (generated number count) count)
        (same-history one (image from) c x.0 h x.1 is history) x.3,
  )

  -- it has ended early
  pub gen-early : Reads → Settles → (from now : D) (exec : Exec) (text : Text) (h k : List Entry) (number count : ℕ) (items : List Item)
      → IsAccepted text items → exec.program ≡ items → k ≡ h
      → EndsEarly size image may_leave moment reach said asked from now exec text k (generated number count) count
      → Drew from now text h number count
  gen-early reads crash from now exec text h k number count items accepted program history early =
      let of : Generating image may_leave moment reach said asked from now (language_of exec.program) text k number count =
      ⊎_elim (λ w. inl (within-unsaid reads crash from now exec text k (generated number count) w)) (λ s. inr s) early in
      let there : Generating image may_leave moment reach said asked from now (language_of items) text k number count =
      subst (λ (is : List Item). Generating image may_leave moment reach said asked from now (language_of is) text k number count) program of in
      (items, accepted, subst (λ (h' : List Entry). Generating image may_leave moment reach said asked from now (language_of items) text h' number count) history there)

  -- it has come to its end
  pub gen-ended : (from now : D) (text : Text) (h k : List Entry) (number count : ℕ) (items : List Item) → IsAccepted text items → k ≡ h
      → Ran image moment reach said asked from now (language_of items) text k (generated number count) count
      → DrewAll from now text h number count
  gen-ended from now text h k number count items accepted history ran =
      (items, accepted, subst (λ (h' : List Entry). Ran image moment reach said asked from now (language_of items) text h' (generated number count) count) history ran)

  -- a run that wasn't ended by its opening
  pub gen-stopped : {T : Type 0} → Reads → Settles → ((c : Text) (a b : List Entry) → IsHistoryOf a c → IsHistoryOf b c → a ≡ b)
      → (from now : D) (text c : Text) (h : List Entry) (number count : ℕ) (items : List Item) → IsAccepted text items
      → image from ≡ Some c → IsHistoryOf h c → (fault : GenFault) → IsLater fault
      → ((start : StartFault) × (◌≡◌ {A = Result T GenFault} (Err fault) (Err (gens.Start start))))
      ⊎ ((k : List Entry) × ForSome (image from) (IsHistoryOf k) × HasProgram k text × (exec : Exec) × (exec.program ≡ items)
      × EndsEarly size image may_leave moment reach said asked from now exec text k (generated number count) count)
      → Drew from now text h number count
  gen-stopped {T} reads crash one from now text c h number count items accepted is history fault later stopped = ⊎_elim
      (λ s. absurd (not-start fault s.0 later (err-start fault s.0 s.1)))
      (λ x. gen-early reads crash from now x.3 text h x.0 number count items accepted x.4 (same-history one (image from) c x.0 h x.1 is history) x.5) stopped

  -- what was opened is a store of these functions
  pub gen-begun : {T : Type 0} → (from now : D) (text : Text) (number count : ℕ) (items : List Item) (fault : GenFault) → IsLater fault
      → ((start : StartFault) × (◌≡◌ {A = Result T GenFault} (Err fault) (Err (gens.Start start))))
      ⊎ ((k : List Entry) × ForSome (image from) (IsHistoryOf k) × HasProgram k text × (exec : Exec) × (exec.program ≡ items)
      × EndsEarly size image may_leave moment reach said asked from now exec text k (generated number count) count)
      → IsBegun text (image from)
  gen-begun {T} from now text number count items fault later stopped = ⊎_elim
      (λ s. absurd (not-start fault s.0 later (err-start fault s.0 s.1)))
      (λ x. λ i there. (x.0, x.1 i there, x.2)) stopped
