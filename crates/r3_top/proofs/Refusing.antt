-- Calls that are refused before their work.
use Rattle.std.proofs.Common.{◌≡◌, ◌⊎◌, inl, inr, ⊎_elim, ℕ, ◌<◌, ◌≤◌, ◌^◌, List, [], length, Option, Some, refl, sym, ◌∙◌, subst}
use Rattle.std.specs.Prelude.{Result, Err, ⊤}
use Rattle.std.specs.Option.{ForSome}
use Rattle.fn_tree.specs.declared.program.Item.{Item}
use Rattle.r3_entry.specs.declared.entry.Entry.{Entry}
use Rattle.r3_desk.specs.Asked as desk
use Rattle.r3_desk.specs.Crash.{Reach}
use Rattle.r3_entry.specs.Image.{IsHistoryOf}
use Rattle.r3_store.specs.declared.fault.OpenFault.{OpenFault}
use Rattle.r3_model.specs.Language.{Language, Text}
use Rattle.r3_recover.specs.Opened.{IsNoneOf, HasProgram, HasCause as HasStartCause, IsHalted}
use Rattle.r3_recover.specs.declared.ends.StartFault.{StartFault}
use Rattle.r3_recover.specs.declared.ends.StartFault.TheVariants as starts
use Rattle.r3_top.specs.declared.functions.FunctionsFault.{FunctionsFault}
use Rattle.r3_top.specs.declared.halt.Halt.{Halt}
use Rattle.r3_top.specs.declared.halt.Halt.TheVariants as halts
use Rattle.r3_top.specs.Functions.{IsAccepted, IsRefused}
use Rattle.r3_top.specs.Statuses.{IsBroken, entry_of}
use Rattle.r3_top.specs.Refusals.{EndsAtFile, IsEarly, IsFile, IsRefusal, IsNoStore, IsOthers}
use Rattle.r3_top.specs.Causes.{HasCause, HasEarlyCause, IsBegun, IsReady}
use Rattle.r3_top.specs.Commands.{OnStore}
use Rattle.r3_top.specs.Answered.{Says}
use Rattle.r3_top.specs.Closes.{StopsAtStore}
use Rattle.r3_top.specs.Going.{Unbegun, Goes, NoWork}
use Rattle.r3_words.specs.Forms.{Form, run, recover, trace, replay, retro, check, gen}

halt-same : {T : Type 0} (a b : Halt) → ◌≡◌ {A = Result T Halt} (Err a) (Err b) → a ≡ b
halt-same a b is = cc

-- ---- the function file

-- what fetching answers
abbrev pub Fetches : Type 0 → Halt → Type 0
Fetches T halt = (◌≡◌ {A = Result T Halt} (Err halt) (Err halts.Memory)) ⊎ ((◌≡◌ {A = Result T Halt} (Err halt) (Err halts.Files)) ⊎ (◌≡◌ {A = Result T Halt} (Err halt) (Err halts.LongFile)))

module _ {T : Type 0} (B : Halt → Type 0) where
  of-fetch : (halt : Halt) → Fetches T halt → B halts.Memory → B halts.Files → (◌≡◌ {A = Result T Halt} (Err halt) (Err halts.LongFile) → B halts.LongFile) → B halt
  of-fetch halt which memory files long = ⊎_elim (λ m. subst B (sym (halt-same halt halts.Memory m)) memory)
      (λ rest. ⊎_elim (λ f. subst B (sym (halt-same halt halts.Files f)) files)
      (λ l. subst B (sym (halt-same halt halts.LongFile l)) (long l)) rest) which

pub at-fetch : {T : Type 0} (text : Text) (halt : Halt) → Fetches T halt → (◌≡◌ {A = Result T Halt} (Err halt) (Err halts.LongFile) → 2 ^ 20 < length text)
    → EndsAtFile text (Some halt)
at-fetch {T} text halt which long = of-fetch {T = T} (λ (x : Halt). EndsAtFile text (Some x)) halt which tt tt long

pub cause-fetch : {T : Type 0} (text : Text) (image : Option Text) (halt : Halt) → Fetches T halt → (◌≡◌ {A = Result T Halt} (Err halt) (Err halts.LongFile) → 2 ^ 20 < length text)
    → HasEarlyCause text image (Some halt)
cause-fetch {T} text image halt which long = of-fetch {T = T} (λ (x : Halt). HasEarlyCause text image (Some x)) halt which tt tt long

-- what accepting answers
abbrev pub Accepts : Type 0 → Halt → Type 0
Accepts T halt = (◌≡◌ {A = Result T Halt} (Err halt) (Err halts.Memory)) ⊎ ((fault : FunctionsFault) × (◌≡◌ {A = Result T Halt} (Err halt) (Err (halts.Functions fault))))

module _ {T : Type 0} (B : Halt → Type 0) where
  of-accept : (halt : Halt) → Accepts T halt → B halts.Memory → ((fault : FunctionsFault) → ◌≡◌ {A = Result T Halt} (Err halt) (Err (halts.Functions fault)) → B (halts.Functions fault)) → B halt
  of-accept halt which memory refused = ⊎_elim (λ m. subst B (sym (halt-same halt halts.Memory m)) memory)
      (λ f. subst B (sym (halt-same halt (halts.Functions f.0) f.1)) (refused f.0 f.1)) which

pub at-accept : {T : Type 0} (text : Text) (halt : Halt) → length text ≤ 2 ^ 20 → Accepts T halt
    → ((fault : FunctionsFault) → ◌≡◌ {A = Result T Halt} (Err halt) (Err (halts.Functions fault)) → IsRefused text fault)
    → EndsAtFile text (Some halt)
at-accept {T} text halt short which bad = of-accept {T = T} (λ (x : Halt). EndsAtFile text (Some x)) halt which tt (λ f e. (short, bad f e))

pub cause-accept : {T : Type 0} (text : Text) (image : Option Text) (halt : Halt) → length text ≤ 2 ^ 20 → Accepts T halt
    → ((fault : FunctionsFault) → ◌≡◌ {A = Result T Halt} (Err halt) (Err (halts.Functions fault)) → IsRefused text fault)
    → ((fault : FunctionsFault) → ◌≡◌ {A = Result T Halt} (Err halt) (Err (halts.Functions fault)) → (items : List Item) → IsAccepted text items → ⊥)
    → HasEarlyCause text image (Some halt)
cause-accept {T} text image halt short which bad none = of-accept {T = T} (λ (x : Halt). HasEarlyCause text image (Some x)) halt which tt (λ f e. (short, bad f e, λ file. none f e file.0 file.1.1))

pub fetch-early : {T : Type 0} (halt : Halt) → Fetches T halt → IsEarly halt
fetch-early {T} halt which = of-fetch {T = T} IsEarly halt which tt tt (λ l. tt)

pub accept-early : {T : Type 0} (halt : Halt) → Accepts T halt → IsEarly halt
accept-early {T} halt which = of-accept {T = T} IsEarly halt which tt (λ f e. tt)

-- a function file that was fetched and taken
pub is-file : (text fetched given : Text) (program : List Item) → fetched ≡ text → length fetched ≤ 2 ^ 20 → given ≡ fetched → IsAccepted given program → IsFile text program
is-file text fetched given program same short value accepted =
    (subst (λ (x : Text). length x ≤ 2 ^ 20) same short, subst (λ (x : Text). IsAccepted x program) (value ∙ same) accepted)

pub no-fault-in : (text given : Text) → given ≡ text → ((fault : FunctionsFault) → IsRefused given fault → ⊥) → (fault : FunctionsFault) → IsRefused text fault → ⊥
no-fault-in text given same none fault r = none fault (subst (λ (x : Text). IsRefused x fault) (sym same) r)

-- what ends at the function file is refused for it, or there was no memory
pub refused-at-file : (text : Text) (image : Option Text) (halt : Halt) → EndsAtFile text (Some halt) → IsBroken (Some halt) ⊎ IsRefusal text image (Some halt)
refused-at-file text image halts.Usage e = absurd e
refused-at-file text image halts.Memory e = inl tt
refused-at-file text image halts.Disk e = absurd e
refused-at-file text image halts.Say e = absurd e
refused-at-file text image halts.Files e = inr tt
refused-at-file text image halts.Script e = absurd e
refused-at-file text image (halts.Functions f) e = inr e
refused-at-file text image (halts.Store n) e = absurd e
refused-at-file text image halts.Program e = absurd e
refused-at-file text image halts.LongFile e = inr e
refused-at-file text image halts.LongScript e = absurd e

-- ---- how it goes

module _ {D : Type 0} (told : D → Option Text) (may_leave : D → Text → Type 0) (moment : D → ℕ) (reach : D → Reach) (said : D → Option Text) (asked : D → Option (List desk.Call)) (from now : D) (text : Text) (h : List Entry) where
  -- refused so, nothing was done
  pub nothing-done : (halt : Halt) → EndsAtFile text (Some halt) → Unbegun told may_leave moment reach said asked from now h []
      → Goes told may_leave moment reach said asked from now text h NoWork (Some halt) []
  nothing-done halts.Usage e u = absurd e
  nothing-done halts.Memory e u = inl u
  nothing-done halts.Disk e u = absurd e
  nothing-done halts.Say e u = absurd e
  nothing-done halts.Files e u = u
  nothing-done halts.Script e u = absurd e
  nothing-done (halts.Functions f) e u = (e, u)
  nothing-done (halts.Store n) e u = absurd e
  nothing-done halts.Program e u = absurd e
  nothing-done halts.LongFile e u = (e, u)
  nothing-done halts.LongScript e u = absurd e

  -- what has gone without any work has gone with some
  pub goes-more : (Work : Language → Option Halt → Text → Type 0) (halt : Halt)
      → Goes told may_leave moment reach said asked from now text h NoWork (Some halt) []
      → Goes told may_leave moment reach said asked from now text h Work (Some halt) []
  goes-more W halts.Usage g = g
  goes-more W halts.Memory g = ⊎_elim (λ u. inl u) (λ rest. ⊎_elim (λ o. inr (inl o)) (λ w. absurd w.2) rest) g
  goes-more W halts.Disk g = ⊎_elim (λ o. inl o) (λ w. absurd w.2) g
  goes-more W halts.Say g = absurd g.2
  goes-more W halts.Files g = g
  goes-more W halts.Script g = absurd g.2
  goes-more W (halts.Functions f) g = g
  goes-more W (halts.Store n) g = g
  goes-more W halts.Program g = g
  goes-more W halts.LongFile g = g
  goes-more W halts.LongScript g = absurd g.2

-- ---- the store

store-halted : (fault : OpenFault) → IsHalted (starts.Store fault) → ⊥
store-halted fault h = ⊎_elim (λ d. let e : starts.Store fault ≡ starts.Disk = d in cc) (λ m. let e : starts.Store fault ≡ starts.Memory = m in cc) h

-- where the image stands for a history with this program, the opening answers so
abbrev pub Opening-of : Option Text → Text → StartFault → Type 0
Opening-of image text fault = (h : List Entry) → ForSome image (λ i. IsHistoryOf h i → HasProgram h text → IsHalted fault)

abbrev pub Others-of : Option Text → Text → StartFault → Type 0
Others-of image text fault = (h : List Entry) → ForSome image (λ i. IsHistoryOf h i → (HasProgram h text → ⊥) → (fault ≡ starts.Other) ⊎ IsHalted fault)

pub no-store : (image : Option Text) (text : Text) (start : StartFault) (fault : OpenFault) → start ≡ starts.Store fault → Opening-of image text start → Others-of image text start
    → HasStartCause image text start → (entry : ℕ) → entry ≡ entry_of fault → IsNoStore image entry
no-store image text start fault at opens others caused entry is =
    let cause : HasStartCause image text (starts.Store fault) = subst (λ (x : StartFault). HasStartCause image text x) at caused in
    let halted : IsHalted start → ⊥ = λ h. store-halted fault (subst IsHalted at h) in (
      λ i there store.
          let p : HasProgram store.0 text → ⊥ = λ has. halted (opens store.0 i there store.1 has) in
          ⊎_elim (λ o. let e : starts.Store fault ≡ starts.Other = sym at ∙ o in cc) (λ h. halted h) (others store.0 i there store.1 p),
      fault,
      cause.0,
      cause.1,
      is,
    )

-- a store of this program isn't refused
pub store-is-taken : (image : Option Text) (text i : Text) (h : List Entry) (start : StartFault) (fault : OpenFault) → start ≡ starts.Store fault → Opening-of image text start
    → image ≡ Some i → IsHistoryOf h i → HasProgram h text → ⊥
store-is-taken image text i h start fault at opens there history has = store-halted fault (subst IsHalted at (opens h i there history has))

-- a store that this program was begun on, where the image is told
pub begun-ready : (text : Text) (image : Option Text) (i : Text) → image ≡ Some i → IsBegun text image → IsReady text (Some i)
begun-ready text image i there b = let x = b i there in (i, x.0, refl, x.1, x.2)

-- a file on which it wasn't begun
pub none-of : (text given i : Text) → given ≡ text → (IsReady text (Some i) → ⊥) → IsNoneOf given i
none-of text given i same none = λ h history has. none (i, h, refl, history, subst (λ (x : Text). HasProgram h x) same has)

-- what ends before the work, of a call whose store isn't this program's
pub ends-at-store : {D : Type 0} (told : D → Option Text) (said : D → Option Text) (asked : D → Option (List desk.Call)) (from now : D) (text : Text) (halt : Halt)
    → IsBroken (Some halt) ⊎ (IsRefusal text (told from) (Some halt) × Says told said asked from now [])
    → (halt ≡ halts.Say → ⊥) → said now ≡ said from → asked now ≡ asked from → StopsAtStore told said asked from now text (Some halt) []
ends-at-store told said asked from now text halts.Memory r none a b = (a, b)
ends-at-store told said asked from now text halts.Disk r none a b = (a, b)
ends-at-store told said asked from now text halts.Say r none a b = absurd (none refl)
ends-at-store told said asked from now text halts.Usage r none a b = ⊎_elim (λ x. absurd x) (λ x. x) r
ends-at-store told said asked from now text halts.Files r none a b = ⊎_elim (λ x. absurd x) (λ x. x) r
ends-at-store told said asked from now text halts.Script r none a b = ⊎_elim (λ x. absurd x) (λ x. x) r
ends-at-store told said asked from now text halts.Program r none a b = ⊎_elim (λ x. absurd x) (λ x. x) r
ends-at-store told said asked from now text halts.LongFile r none a b = ⊎_elim (λ x. absurd x) (λ x. x) r
ends-at-store told said asked from now text halts.LongScript r none a b = ⊎_elim (λ x. absurd x) (λ x. x) r
ends-at-store told said asked from now text (halts.Functions f) r none a b = ⊎_elim (λ x. absurd x) (λ x. x) r
ends-at-store told said asked from now text (halts.Store n) r none a b = ⊎_elim (λ x. absurd x) (λ x. x) r

not-say : (halt : Halt) → IsEarly halt → halt ≡ halts.Say → ⊥
not-say halt early is = let bad : IsEarly halts.Say = subst IsEarly is early in bad

-- the same of a call that has begun no work
pub ends-early : {D : Type 0} (told : D → Option Text) (said : D → Option Text) (asked : D → Option (List desk.Call)) (from now : D) (text : Text) (halt : Halt)
    → IsBroken (Some halt) ⊎ (IsRefusal text (told from) (Some halt) × Says told said asked from now [])
    → IsEarly halt → (said now ≡ said from) × (asked now ≡ asked from) → StopsAtStore told said asked from now text (Some halt) []
ends-early told said asked from now text halt r early quiet = ends-at-store told said asked from now text halt r (not-say halt early) quiet.0 quiet.1

-- ---- the causes of what ends before the work

-- of a function file that isn't taken
pub cause-at-file : (form : Form) (text : Text) (image left : Option Text) (halt : Halt) → EndsAtFile text (Some halt) → HasEarlyCause text image (Some halt) → HasCause form text image left (Some halt)
cause-at-file form text image left halts.Usage e c = absurd e
cause-at-file form text image left halts.Memory e c = c
cause-at-file form text image left halts.Disk e c = absurd e
cause-at-file form text image left halts.Say e c = absurd e
cause-at-file form text image left halts.Files e c = c
cause-at-file form text image left halts.Script e c = absurd e
cause-at-file form text image left (halts.Functions x) e c = c
cause-at-file form text image left (halts.Store x) e c = absurd e
cause-at-file form text image left halts.Program e c = absurd e
cause-at-file form text image left halts.LongFile e c = c
cause-at-file form text image left halts.LongScript e c = absurd e

store-of : (form : Form) (A : Type 0) → OnStore form ⊤ → A → OnStore form A
store-of (run functions) A on a = a
store-of (recover functions turns) A on a = a
store-of trace A on a = absurd on
store-of (replay functions id) A on a = absurd on
store-of (retro functions plan) A on a = absurd on
store-of (check functions) A on a = absurd on
store-of (gen number count) A on a = a

pub cause-of : (form : Form) (text : Text) (image left : Option Text) (halt : Halt) → IsEarly halt → OnStore form ⊤ → HasEarlyCause text image (Some halt) → HasCause form text image left (Some halt)
cause-of form text image left halts.Usage early on c = absurd early
cause-of form text image left halts.Memory early on c = c
cause-of form text image left halts.Disk early on c = c
cause-of form text image left halts.Say early on c = absurd early
cause-of form text image left halts.Files early on c = c
cause-of form text image left halts.Script early on c = absurd early
cause-of form text image left (halts.Functions x) early on c = c
cause-of form text image left (halts.Store x) early on c = (c.0, store-of form (IsNoStore image x) on c.1)
cause-of form text image left halts.Program early on c = (c.0, store-of form (IsOthers text image) on c.1)
cause-of form text image left halts.LongFile early on c = c
cause-of form text image left halts.LongScript early on c = absurd early
