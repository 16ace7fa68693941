-- The causes of each status.
use Rattle.std.proofs.Common.{◌≡◌, ◌⊎◌, inl, inr, ⊎_elim, ℕ, ◌<◌, ◌^◌, length, Option, Some, None, refl, sym, ◌∙◌, subst, arith}
use Rattle.std.specs.Prelude.{Result, Ok, Err}
use Rattle.std.specs.Option.{ForSome}
use Rattle.r3_words.specs.Forms.{Form, run, recover, trace, replay, retro, check, gen}
use Rattle.r3_model.specs.Language.{Text}
use Rattle.r3_top.specs.declared.functions.FunctionsFault.{FunctionsFault}
use Rattle.r3_top.specs.Commands.{OnStore, OnScript, file_of, functions_text}
use Rattle.r3_top.specs.Functions.{IsRefused}
use Rattle.r3_top.specs.Statuses.{status_of}
use Rattle.r3_top.specs.Refusals.{IsFunctionFile, IsNoStore, IsOthers}
use Rattle.r3_top.specs.Causes.{HasCause, IsTaken, IsReady, HasStore, HasScript}
use Rattle.r3_top.specs.declared.halt.Halt.{Halt}
use Rattle.r3_top.specs.declared.halt.Halt.TheVariants as halts

-- ---- of a status

pub on-store : (form : Form) (A : Type 0) → OnStore form A → A
on-store (run functions) A a = a
on-store (recover functions turns) A a = a
on-store trace A a = absurd a
on-store (replay functions id) A a = absurd a
on-store (retro functions plan) A a = absurd a
on-store (check functions) A a = absurd a
on-store (gen number count) A a = a

pub on-script : (form : Form) (A : Type 0) → OnScript form A → A
on-script (run functions) A a = a
on-script (recover functions turns) A a = absurd a
on-script trace A a = absurd a
on-script (replay functions id) A a = absurd a
on-script (retro functions plan) A a = absurd a
on-script (check functions) A a = absurd a
on-script (gen number count) A a = absurd a

-- the status of a call that was halted: its own, or that of the last line
abbrev pub Answers : ℕ → Halt → Type 0
Answers answer halt = (answer ≡ 3) ⊎ ((answer ≡ 5) ⊎ (answer ≡ status_of halt))

-- a status that is neither is its own
pub own : (answer : ℕ) (halt : Halt) → Answers answer halt → (answer ≡ 3 → ⊥) → (answer ≡ 5 → ⊥) → answer ≡ status_of halt
own answer halt is three five = ⊎_elim (λ t. absurd (three t)) (λ rest. ⊎_elim (λ f. absurd (five f)) (λ s. s) rest) is

module _ (form : Form) (text : Text) (image left : Option Text) (answer : ℕ) where
  functions-of : (halt : Halt) → 7 ≡ status_of halt → HasCause form text image left (Some halt) → ((fault : FunctionsFault) × IsRefused text fault) × (IsFunctionFile text → ⊥)
  functions-of halts.Usage is c = absurd (omega (arith, is))
  functions-of halts.Memory is c = absurd (omega (arith, is))
  functions-of halts.Disk is c = absurd (omega (arith, is))
  functions-of halts.Say is c = absurd (omega (arith, is))
  functions-of halts.Files is c = absurd (omega (arith, is))
  functions-of halts.Script is c = absurd (omega (arith, is))
  functions-of (halts.Functions f) is c = ((f, c.1), c.2)
  functions-of (halts.Store e) is c = absurd (omega (arith, is))
  functions-of halts.Program is c = absurd (omega (arith, is))
  functions-of halts.LongFile is c = absurd (omega (arith, is))
  functions-of halts.LongScript is c = absurd (omega (arith, is))

  store-of : (halt : Halt) → 8 ≡ status_of halt → HasCause form text image left (Some halt) → (entry : ℕ) × IsNoStore image entry
  store-of halts.Usage is c = absurd (omega (arith, is))
  store-of halts.Memory is c = absurd (omega (arith, is))
  store-of halts.Disk is c = absurd (omega (arith, is))
  store-of halts.Say is c = absurd (omega (arith, is))
  store-of halts.Files is c = absurd (omega (arith, is))
  store-of halts.Script is c = absurd (omega (arith, is))
  store-of (halts.Functions f) is c = absurd (omega (arith, is))
  store-of (halts.Store e) is c = (e, on-store form (IsNoStore image e) c.1)
  store-of halts.Program is c = absurd (omega (arith, is))
  store-of halts.LongFile is c = absurd (omega (arith, is))
  store-of halts.LongScript is c = absurd (omega (arith, is))

  program-of : (halt : Halt) → 9 ≡ status_of halt → HasCause form text image left (Some halt) → IsOthers text image
  program-of halts.Usage is c = absurd (omega (arith, is))
  program-of halts.Memory is c = absurd (omega (arith, is))
  program-of halts.Disk is c = absurd (omega (arith, is))
  program-of halts.Say is c = absurd (omega (arith, is))
  program-of halts.Files is c = absurd (omega (arith, is))
  program-of halts.Script is c = absurd (omega (arith, is))
  program-of (halts.Functions f) is c = absurd (omega (arith, is))
  program-of (halts.Store e) is c = absurd (omega (arith, is))
  program-of halts.Program is c = on-store form (IsOthers text image) c.1
  program-of halts.LongFile is c = absurd (omega (arith, is))
  program-of halts.LongScript is c = absurd (omega (arith, is))

  long-of : (halt : Halt) → 10 ≡ status_of halt → HasCause form text image left (Some halt) → (2 ^ 20 < length text) ⊎ ForSome left (λ script. 2 ^ 26 < length script)
  long-of halts.Usage is c = absurd (omega (arith, is))
  long-of halts.Memory is c = absurd (omega (arith, is))
  long-of halts.Disk is c = absurd (omega (arith, is))
  long-of halts.Say is c = absurd (omega (arith, is))
  long-of halts.Files is c = absurd (omega (arith, is))
  long-of halts.Script is c = absurd (omega (arith, is))
  long-of (halts.Functions f) is c = absurd (omega (arith, is))
  long-of (halts.Store e) is c = absurd (omega (arith, is))
  long-of halts.Program is c = absurd (omega (arith, is))
  long-of halts.LongFile is c = inl c
  long-of halts.LongScript is c = inr (on-script form (ForSome left (λ script. 2 ^ 26 < length script)) c.2)

  pub functions-cause : (halt : Halt) → Answers answer halt → HasCause form text image left (Some halt) → answer ≡ 7 → ((fault : FunctionsFault) × IsRefused text fault) × (IsFunctionFile text → ⊥)
  functions-cause halt is c at = functions-of halt (sym at ∙ own answer halt is (λ t. omega (arith, at, t)) (λ f. omega (arith, at, f))) c

  pub store-cause : (halt : Halt) → Answers answer halt → HasCause form text image left (Some halt) → answer ≡ 8 → (entry : ℕ) × IsNoStore image entry
  store-cause halt is c at = store-of halt (sym at ∙ own answer halt is (λ t. omega (arith, at, t)) (λ f. omega (arith, at, f))) c

  pub program-cause : (halt : Halt) → Answers answer halt → HasCause form text image left (Some halt) → answer ≡ 9 → IsOthers text image
  program-cause halt is c at = program-of halt (sym at ∙ own answer halt is (λ t. omega (arith, at, t)) (λ f. omega (arith, at, f))) c

  pub long-cause : (halt : Halt) → Answers answer halt → HasCause form text image left (Some halt) → answer ≡ 10 → (2 ^ 20 < length text) ⊎ ForSome left (λ script. 2 ^ 26 < length script)
  long-cause halt is c at = long-of halt (sym at ∙ own answer halt is (λ t. omega (arith, at, t)) (λ f. omega (arith, at, f))) c

-- ---- of a failure

disk-of : (halt : Halt) → 4 ≡ status_of halt → halt ≡ halts.Disk
disk-of halts.Usage is = absurd (omega (arith, is))
disk-of halts.Memory is = absurd (omega (arith, is))
disk-of halts.Disk is = refl
disk-of halts.Say is = absurd (omega (arith, is))
disk-of halts.Files is = absurd (omega (arith, is))
disk-of halts.Script is = absurd (omega (arith, is))
disk-of (halts.Functions f) is = absurd (omega (arith, is))
disk-of (halts.Store e) is = absurd (omega (arith, is))
disk-of halts.Program is = absurd (omega (arith, is))
disk-of halts.LongFile is = absurd (omega (arith, is))
disk-of halts.LongScript is = absurd (omega (arith, is))

input-of : (halt : Halt) → 6 ≡ status_of halt → (halt ≡ halts.Files) ⊎ (halt ≡ halts.Script)
input-of halts.Usage is = absurd (omega (arith, is))
input-of halts.Memory is = absurd (omega (arith, is))
input-of halts.Disk is = absurd (omega (arith, is))
input-of halts.Say is = absurd (omega (arith, is))
input-of halts.Files is = inl refl
input-of halts.Script is = inr refl
input-of (halts.Functions f) is = absurd (omega (arith, is))
input-of (halts.Store e) is = absurd (omega (arith, is))
input-of halts.Program is = absurd (omega (arith, is))
input-of halts.LongFile is = absurd (omega (arith, is))
input-of halts.LongScript is = absurd (omega (arith, is))

pub disk-cause : (answer : ℕ) (halt : Halt) → Answers answer halt → answer ≡ 4 → halt ≡ halts.Disk
disk-cause answer halt is at = disk-of halt (sym at ∙ own answer halt is (λ t. omega (arith, at, t)) (λ f. omega (arith, at, f)))

pub input-cause : (answer : ℕ) (halt : Halt) → Answers answer halt → answer ≡ 6 → (halt ≡ halts.Files) ⊎ (halt ≡ halts.Script)
input-cause answer halt is at = input-of halt (sym at ∙ own answer halt is (λ t. omega (arith, at, t)) (λ f. omega (arith, at, f)))

pub err-same : (a b : Halt) → ◌≡◌ {A = Result (Unit {0}) Halt} (Err a) (Err b) → a ≡ b
err-same a b is = cc

pub path-same : (a b : Text) → ◌≡◌ {A = Option Text} (Some a) (Some b) → a ≡ b
path-same a b is = cc

no-path : (path : Text) → ◌≡◌ {A = Option Text} None (Some path) → ⊥
no-path path is = cc

pub ok-halt : {T : Type 0} {x : T} {h : Halt} → ◌≡◌ {A = Result T Halt} (Ok x) (Err h) → ⊥
ok-halt is = cc

-- the text of the file that a command names is that of its functions
pub file-text : (text_of : Text → Option Text) (bank : Text) (form : Form) (path text : Text) → file_of form ≡ Some path → text_of path ≡ Some text
    → functions_text text_of bank form ≡ Some text
file-text text_of bank (run functions) path text file there = subst (λ (p : Text). text_of p ≡ Some text) (sym (path-same functions path file)) there
file-text text_of bank (recover functions turns) path text file there = subst (λ (p : Text). text_of p ≡ Some text) (sym (path-same functions path file)) there
file-text text_of bank trace path text file there = absurd (no-path path file)
file-text text_of bank (replay functions id) path text file there = absurd (no-path path file)
file-text text_of bank (retro functions plan) path text file there = absurd (no-path path file)
file-text text_of bank (check functions) path text file there = subst (λ (p : Text). text_of p ≡ Some text) (sym (path-same functions path file)) there
file-text text_of bank (gen number count) path text file there = absurd (no-path path file)

pub no-form : (told : Option Form) (form : Form) → told ≡ Some form → told ≡ None → ⊥
no-form told form a b = let e : ◌≡◌ {A = Option Form} (Some form) None = sym a ∙ b in cc

-- ---- nothing stands in the way

module _ (text : Text) (image left : Option Text) where
  pub ready-store : (entry : ℕ) → IsReady text image → IsNoStore image entry → ⊥
  ready-store entry r c = c.0 r.0 r.2 (r.1, r.3)

  pub ready-program : IsReady text image → IsOthers text image → ⊥
  ready-program r c = (c r.0 r.2).1 r.1 r.3 r.4

  pub no-store-cause : (form : Form) (entry : ℕ) → HasStore form text image → OnStore form (IsNoStore image entry) → ⊥
  no-store-cause (run functions) entry r c = ready-store entry r c
  no-store-cause (recover functions turns) entry r c = ready-store entry r c
  no-store-cause trace entry r c = c
  no-store-cause (replay functions id) entry r c = c
  no-store-cause (retro functions plan) entry r c = c
  no-store-cause (check functions) entry r c = c
  no-store-cause (gen number count) entry r c = ready-store entry r c

  pub no-program-cause : (form : Form) → HasStore form text image → OnStore form (IsOthers text image) → ⊥
  no-program-cause (run functions) r c = ready-program r c
  no-program-cause (recover functions turns) r c = ready-program r c
  no-program-cause trace r c = c
  no-program-cause (replay functions id) r c = c
  no-program-cause (retro functions plan) r c = c
  no-program-cause (check functions) r c = c
  no-program-cause (gen number count) r c = ready-program r c

  pub no-long-cause : (form : Form) → HasScript form left → OnScript form (ForSome left (λ script. 2 ^ 26 < length script)) → ⊥
  no-long-cause (run functions) s c = omega (arith, s.2, c s.0 s.1)
  no-long-cause (recover functions turns) s c = c
  no-long-cause trace s c = c
  no-long-cause (replay functions id) s c = c
  no-long-cause (retro functions plan) s c = c
  no-long-cause (check functions) s c = c
  no-long-cause (gen number count) s c = c

  -- it was halted for want of memory alone
  pub completes : (form : Form) (answer : ℕ) (halt : Halt) → Answers answer halt → HasCause form text image left (Some halt)
      → IsTaken text → HasStore form text image → HasScript form left
      → (halt ≡ halts.Usage → ⊥) → (answer ≡ 4 → ⊥) → (answer ≡ 5 → ⊥) → (answer ≡ 6 → ⊥) → (answer ≡ 0) ⊎ (answer ≡ 3)
  completes form answer halt is c taken store script usage disk say input = ⊎_elim (λ t. inr t)
      (λ rest. ⊎_elim (λ f. absurd (say f)) (λ s. at halt s c usage) rest) is where
        at : (h : Halt) → answer ≡ status_of h → HasCause form text image left (Some h) → (h ≡ halts.Usage → ⊥) → (answer ≡ 0) ⊎ (answer ≡ 3)
        at halts.Usage s c u = absurd (u refl)
        at halts.Memory s c u = inr s
        at halts.Disk s c u = absurd (disk s)
        at halts.Say s c u = absurd (say s)
        at halts.Files s c u = absurd (input s)
        at halts.Script s c u = absurd (input s)
        at (halts.Functions f) s c u = absurd (taken.1 f c.1)
        at (halts.Store e) s c u = absurd (no-store-cause form e store c.1)
        at halts.Program s c u = absurd (no-program-cause form store c.1)
        at halts.LongFile s c u = absurd (omega (arith, taken.0, c))
        at halts.LongScript s c u = absurd (no-long-cause form script c.2)
