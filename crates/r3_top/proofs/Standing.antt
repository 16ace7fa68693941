-- What stands first in the way of a command, and that the status tells it both ways.
use Rattle.std.proofs.Common.{◌≡◌, ◌⊎◌, inl, inr, ⊎_elim, ℕ, ◌<◌, ◌≤◌, ◌^◌, length, Option, Some, None, refl, sym, ap, ◌∙◌, subst, arith}
use Rattle.std.specs.Option.{ForSome}
use Rattle.r3_words.specs.Forms.{Form, run, recover, trace, replay, retro, check, gen}
use Rattle.r3_model.specs.Language.{Text}
use Rattle.r3_top.specs.declared.functions.FunctionsFault.{FunctionsFault}
use Rattle.r3_top.specs.Commands.{OnStore, IfStore, OnScript, IfScript}
use Rattle.r3_top.specs.Functions.{IsRefused}
use Rattle.r3_top.specs.Statuses.{HasFailed, IsStatus, status, status_of}
use Rattle.r3_top.specs.Refusals.{IsFunctionFile, IsNoStore, IsOthers}
use Rattle.r3_top.specs.Causes.{HasCause, IsBegun, IsFaultless, IsReady, IsStatusOf, HasStore, HasScript, StandsFirst}
use Rattle.r3_top.specs.declared.halt.Halt.{Halt}
use Rattle.r3_top.specs.declared.halt.Halt.TheVariants as halts
use Rattle.r3_top.proofs.Causing.{Answers, no-store-cause, no-program-cause}

told-same : (x y : Text) → ◌≡◌ {A = Option Text} (Some x) (Some y) → x ≡ y
told-same x y is = cc

status-at : (answer : ℕ) (halt h : Halt) → halt ≡ h → answer ≡ status_of halt → answer ≡ status_of h
status-at answer halt h same own = subst (λ (x : Halt). answer ≡ status_of x) same own

-- ---- where the file and the script are told

module _ (form : Form) (text image script : Text) where
  ready : IsBegun text (Some image) → IsReady text (Some image)
  ready b = let x = b image refl in (image, x.0, refl, x.1, x.2)

  on-ready : (f : Form) → OnStore f (IsBegun text (Some image)) → OnStore f (IsReady text (Some image))
  on-ready (run functions) b = ready b
  on-ready (recover functions turns) b = ready b
  on-ready trace b = b
  on-ready (replay functions id) b = b
  on-ready (retro functions plan) b = b
  on-ready (check functions) b = b
  on-ready (gen number count) b = ready b

  if-ready : (f : Form) → IfStore f (IsBegun text (Some image)) → HasStore f text (Some image)
  if-ready (run functions) b = ready b
  if-ready (recover functions turns) b = ready b
  if-ready trace b = b
  if-ready (replay functions id) b = b
  if-ready (retro functions plan) b = b
  if-ready (check functions) b = b
  if-ready (gen number count) b = ready b

  on-long : (f : Form) → OnScript f (ForSome (Some script) (λ s. 2 ^ 26 < length s)) → OnScript f (2 ^ 26 < length script)
  on-long (run functions) b = b script refl
  on-long (recover functions turns) b = b
  on-long trace b = b
  on-long (replay functions id) b = b
  on-long (retro functions plan) b = b
  on-long (check functions) b = b
  on-long (gen number count) b = b

  if-short : (f : Form) → IfScript f (ForSome (Some script) (λ s. length s ≤ 2 ^ 26)) → HasScript f (Some script)
  if-short (run functions) b = (script, refl, b script refl)
  if-short (recover functions turns) b = b
  if-short trace b = b
  if-short (replay functions id) b = b
  if-short (retro functions plan) b = b
  if-short (check functions) b = b
  if-short (gen number count) b = b

  -- the store that is one and is none; the same of its program; and the script that is too long and isn't
  of-no-store : (f : Form) (entry : ℕ) → OnStore f (IsNoStore (Some image) entry) → OnStore f (IsOthers text (Some image)) → ⊥
  of-no-store (run functions) entry a b = a.0 image refl (b image refl).0
  of-no-store (recover functions turns) entry a b = a.0 image refl (b image refl).0
  of-no-store trace entry a b = a
  of-no-store (replay functions id) entry a b = a
  of-no-store (retro functions plan) entry a b = a
  of-no-store (check functions) entry a b = a
  of-no-store (gen number count) entry a b = a.0 image refl (b image refl).0

  on-if : (f : Form) → OnStore f (IsReady text (Some image)) → HasStore f text (Some image)
  on-if (run functions) b = b
  on-if (recover functions turns) b = b
  on-if trace b = absurd b
  on-if (replay functions id) b = absurd b
  on-if (retro functions plan) b = absurd b
  on-if (check functions) b = absurd b
  on-if (gen number count) b = b

  of-script : (f : Form) → HasScript f (Some script) → OnScript f (2 ^ 26 < length script) → ⊥
  of-script (run functions) a b =
      let short : length script ≤ 2 ^ 26 = subst (λ (x : Text). length x ≤ 2 ^ 26) (sym (told-same script a.0 a.1)) a.2 in
      omega (arith, short, b)
  of-script (recover functions turns) a b = b
  of-script trace a b = b
  of-script (replay functions id) a b = b
  of-script (retro functions plan) a b = b
  of-script (check functions) a b = b
  of-script (gen number count) a b = b

  -- ---- what stands there

  -- what stands first in the way
  data First : Type 0 where
    nothing : IsFunctionFile text → HasStore form text (Some image) → HasScript form (Some script) → First
    long : 2 ^ 20 < length text → First
    refused : (fault : FunctionsFault) → length text ≤ 2 ^ 20 → IsRefused text fault → First
    none : (entry : ℕ) → IsFunctionFile text → OnStore form (IsNoStore (Some image) entry) → First
    others : IsFunctionFile text → OnStore form (IsOthers text (Some image)) → First
    cut : IsFunctionFile text → OnStore form (IsReady text (Some image)) → OnScript form (2 ^ 26 < length script) → First

  abbrev first-status : First → ℕ
  first-status (nothing f s c) = 0
  first-status (long l) = 10
  first-status (refused e l r) = 7
  first-status (none e f n) = 8
  first-status (others f o) = 9
  first-status (cut f r c) = 10

  first-of : (end : Option Halt) → StandsFirst form text image script end → (x : First) × (first-status x ≡ status end)
  first-of None s = (nothing s.0 s.1 s.2, refl)
  first-of (Some halts.Usage) s = absurd s
  first-of (Some halts.Memory) s = absurd s
  first-of (Some halts.Disk) s = absurd s
  first-of (Some halts.Say) s = absurd s
  first-of (Some halts.Files) s = absurd s
  first-of (Some halts.Script) s = absurd s
  first-of (Some (halts.Functions f)) s = (refused f s.0 s.1, refl)
  first-of (Some (halts.Store e)) s = (none e s.0 s.1, refl)
  first-of (Some halts.Program) s = (others s.0 s.1, refl)
  first-of (Some halts.LongFile) s = (long s, refl)
  first-of (Some halts.LongScript) s = (cut s.0 s.1 s.2, refl)

  -- the same, with what only one of the two can be: a text without a fault, or one that is no function file
  data Sure : Type 0 where
    sure_nothing : IsFaultless text → HasStore form text (Some image) → HasScript form (Some script) → Sure
    sure_long : 2 ^ 20 < length text → Sure
    sure_refused : (fault : FunctionsFault) → length text ≤ 2 ^ 20 → IsRefused text fault → (IsFunctionFile text → ⊥) → Sure
    sure_none : (entry : ℕ) → IsFaultless text → OnStore form (IsNoStore (Some image) entry) → Sure
    sure_others : IsFaultless text → OnStore form (IsOthers text (Some image)) → Sure
    sure_cut : IsFaultless text → OnStore form (IsReady text (Some image)) → OnScript form (2 ^ 26 < length script) → Sure

  abbrev sure-status : Sure → ℕ
  sure-status (sure_nothing f s c) = 0
  sure-status (sure_long l) = 10
  sure-status (sure_refused e l r n) = 7
  sure-status (sure_none e f n) = 8
  sure-status (sure_others f o) = 9
  sure-status (sure_cut f r c) = 10

  file-long : IsFunctionFile text → 2 ^ 20 < length text → ⊥
  file-long f l = omega (arith, f.1.0, l)

  one-status : (a : Sure) (b : First) → sure-status a ≡ first-status b
  one-status (sure_nothing f s c) (nothing f' s' c') = refl
  one-status (sure_nothing f s c) (long l') = absurd (file-long f.0 l')
  one-status (sure_nothing f s c) (refused e' l' r') = absurd (f.1 e' r')
  one-status (sure_nothing f s c) (none e' f' n') = absurd (no-store-cause text (Some image) (Some script) form e' s n')
  one-status (sure_nothing f s c) (others f' o') = absurd (no-program-cause text (Some image) (Some script) form s o')
  one-status (sure_nothing f s c) (cut f' r' c') = absurd (of-script form c c')
  one-status (sure_long l) (nothing f' s' c') = absurd (file-long f' l)
  one-status (sure_long l) (long l') = refl
  one-status (sure_long l) (refused e' l' r') = absurd (omega (arith, l', l))
  one-status (sure_long l) (none e' f' n') = absurd (file-long f' l)
  one-status (sure_long l) (others f' o') = absurd (file-long f' l)
  one-status (sure_long l) (cut f' r' c') = refl
  one-status (sure_refused e l r n) (nothing f' s' c') = absurd (n f')
  one-status (sure_refused e l r n) (long l') = absurd (omega (arith, l, l'))
  one-status (sure_refused e l r n) (refused e' l' r') = refl
  one-status (sure_refused e l r n) (none e' f' n') = absurd (n f')
  one-status (sure_refused e l r n) (others f' o') = absurd (n f')
  one-status (sure_refused e l r n) (cut f' r' c') = absurd (n f')
  one-status (sure_none e f n) (nothing f' s' c') = absurd (no-store-cause text (Some image) (Some script) form e s' n)
  one-status (sure_none e f n) (long l') = absurd (file-long f.0 l')
  one-status (sure_none e f n) (refused e' l' r') = absurd (f.1 e' r')
  one-status (sure_none e f n) (none e' f' n') = refl
  one-status (sure_none e f n) (others f' o') = absurd (of-no-store form e n o')
  one-status (sure_none e f n) (cut f' r' c') = absurd (no-store-cause text (Some image) (Some script) form e (on-if form r') n)
  one-status (sure_others f o) (nothing f' s' c') = absurd (no-program-cause text (Some image) (Some script) form s' o)
  one-status (sure_others f o) (long l') = absurd (file-long f.0 l')
  one-status (sure_others f o) (refused e' l' r') = absurd (f.1 e' r')
  one-status (sure_others f o) (none e' f' n') = absurd (of-no-store form e' n' o)
  one-status (sure_others f o) (others f' o') = refl
  one-status (sure_others f o) (cut f' r' c') = absurd (no-program-cause text (Some image) (Some script) form (on-if form r') o)
  one-status (sure_cut f r c) (nothing f' s' c') = absurd (of-script form c' c)
  one-status (sure_cut f r c) (long l') = refl
  one-status (sure_cut f r c) (refused e' l' r') = absurd (f.1 e' r')
  one-status (sure_cut f r c) (none e' f' n') = absurd (no-store-cause text (Some image) (Some script) form e' (on-if form r) n')
  one-status (sure_cut f r c) (others f' o') = absurd (no-program-cause text (Some image) (Some script) form (on-if form r) o')
  one-status (sure_cut f r c) (cut f' r' c') = refl

  -- ---- what has ended a call

  -- an end that nothing has failed for
  abbrev Stood : Option Halt → Type 0
  Stood end = (x : Sure) × (sure-status x ≡ status end) × StandsFirst form text image script end

  stood-none : HasCause form text (Some image) (Some script) None → Stood None
  stood-none c = (sure_nothing c.0 (if-ready form c.1) (if-short form c.2), refl, (c.0.0, if-ready form c.1, if-short form c.2))

  -- something has failed, or there was no memory
  abbrev HasStopped : Halt → Type 0
  HasStopped halt = (halt ≡ halts.Memory) ⊎ ((halt ≡ halts.Disk) ⊎ ((halt ≡ halts.Say) ⊎ ((halt ≡ halts.Files) ⊎ (halt ≡ halts.Script))))

  stood : (halt : Halt) → (halt ≡ halts.Usage → ⊥) → HasCause form text (Some image) (Some script) (Some halt) → HasStopped halt ⊎ Stood (Some halt)
  stood halts.Usage u c = absurd (u refl)
  stood halts.Memory u c = inl (inl refl)
  stood halts.Disk u c = inl (inr (inl refl))
  stood halts.Say u c = inl (inr (inr (inl refl)))
  stood halts.Files u c = inl (inr (inr (inr (inl refl))))
  stood halts.Script u c = inl (inr (inr (inr (inr refl))))
  stood (halts.Functions f) u c = inr (sure_refused f c.0 c.1 c.2, refl, (c.0, c.1))
  stood (halts.Store e) u c = inr (sure_none e c.0 c.1, refl, (c.0.0, c.1))
  stood halts.Program u c = inr (sure_others c.0 c.1, refl, (c.0.0, c.1))
  stood halts.LongFile u c = inr (sure_long c, refl, c)
  stood halts.LongScript u c = inr (sure_cut c.0 (on-ready form c.1) (on-long form c.2), refl, (c.0.0, on-ready form c.1, on-long form c.2))

  status-of : (Disk Say Input : Type 0) (answer : ℕ) (end : Option Halt) → answer ≡ status end → Stood end → IsStatusOf form text image script Disk Say Input answer
  status-of D S I answer end is s = record {
    only = inr (end, s.2, is);
    exactly = λ other there. let x = first-of other there in inr (is ∙ sym s.1 ∙ one-status s.0 x.0 ∙ x.1);
  }

  failed : (Disk Say Input : Type 0) (answer : ℕ) → HasFailed Disk Say Input answer → IsStatusOf form text image script Disk Say Input answer
  failed D S I answer f = record { only = inl f; exactly = λ other there. inl f }

  pub told-done : (Disk Say Input : Type 0) → HasCause form text (Some image) (Some script) None → IsStatusOf form text image script Disk Say Input 0
  told-done D S I c = status-of D S I 0 None refl (stood-none c)

  pub told-halted : (Disk Say Input : Type 0) (answer : ℕ) (halt : Halt) → Answers answer halt → (halt ≡ halts.Usage → ⊥)
      → HasCause form text (Some image) (Some script) (Some halt)
      → (answer ≡ 4 → Disk) → (answer ≡ 5 → Say) → (answer ≡ 6 → Input) → IsStatusOf form text image script Disk Say Input answer
  told-halted D S I answer halt is usage cause disk say input = ⊎_elim
      (λ three. failed D S I answer (inl three))
      (λ rest. ⊎_elim (λ five. failed D S I answer (inr (inr (inl (five, say five)))))
      (λ own. ⊎_elim (λ f. failed D S I answer (fails own f)) (λ s. status-of D S I answer (Some halt) own s) (stood halt usage cause)) rest) is where
        fails : answer ≡ status_of halt → HasStopped halt → HasFailed D S I answer
        fails own f = ⊎_elim (λ m. inl (status-at answer halt halts.Memory m own))
            (λ r1. ⊎_elim (λ d. let four : answer ≡ 4 = status-at answer halt halts.Disk d own in inr (inl (four, disk four)))
            (λ r2. ⊎_elim (λ s. let five : answer ≡ 5 = status-at answer halt halts.Say s own in inr (inr (inl (five, say five))))
            (λ r3. let six : answer ≡ 6 = ⊎_elim (λ f. status-at answer halt halts.Files f own) (λ s. status-at answer halt halts.Script s own) r3 in inr (inr (inr (six, input six)))) r2) r1) f

pub cause-told : (form : Form) (text : Text) (told left : Option Text) (image script : Text) (end : Option Halt) → told ≡ Some image → left ≡ Some script
    → HasCause form text told left end → HasCause form text (Some image) (Some script) end
cause-told form text told left image script end a b c =
    subst (λ (x : Option Text). HasCause form text x (Some script) end) a (subst (λ (x : Option Text). HasCause form text told x end) b c)

-- ---- each status is known

pub known : (answer : ℕ) (halt : Halt) → Answers answer halt → IsStatus answer
known answer halt is = ⊎_elim (λ t. (omega (arith, t), λ one. omega (arith, t, one)))
    (λ rest. ⊎_elim (λ f. (omega (arith, f), λ one. omega (arith, f, one))) (λ s. at halt s) rest) is where
      at : (h : Halt) → answer ≡ status_of h → IsStatus answer
      at halts.Usage s = (omega (arith, s), λ one. omega (arith, s, one))
      at halts.Memory s = (omega (arith, s), λ one. omega (arith, s, one))
      at halts.Disk s = (omega (arith, s), λ one. omega (arith, s, one))
      at halts.Say s = (omega (arith, s), λ one. omega (arith, s, one))
      at halts.Files s = (omega (arith, s), λ one. omega (arith, s, one))
      at halts.Script s = (omega (arith, s), λ one. omega (arith, s, one))
      at (halts.Functions f) s = (omega (arith, s), λ one. omega (arith, s, one))
      at (halts.Store e) s = (omega (arith, s), λ one. omega (arith, s, one))
      at halts.Program s = (omega (arith, s), λ one. omega (arith, s, one))
      at halts.LongFile s = (omega (arith, s), λ one. omega (arith, s, one))
      at halts.LongScript s = (omega (arith, s), λ one. omega (arith, s, one))

-- ---- a count that has changed

-- what isn't so for any other halt has come by this one
abbrev number_of : Halt → ℕ
number_of halts.Usage = 0
number_of halts.Memory = 1
number_of halts.Disk = 2
number_of halts.Say = 3
number_of halts.Files = 4
number_of halts.Script = 5
number_of (halts.Functions x) = 6
number_of (halts.Store x) = 7
number_of halts.Program = 8
number_of halts.LongFile = 9
number_of halts.LongScript = 10

apart : (a b : Halt) → (number_of a ≡ number_of b → ⊥) → a ≡ b → ⊥
apart a b other same = other (ap number_of same)

pub only-disk : {S : Type 0} (halt : Halt) → ((halt ≡ halts.Disk → ⊥) → S) → (S → ⊥) → halt ≡ halts.Disk
only-disk halts.Usage kept not = absurd (not (kept (apart halts.Usage halts.Disk (λ e. omega (arith, e)))))
only-disk halts.Memory kept not = absurd (not (kept (apart halts.Memory halts.Disk (λ e. omega (arith, e)))))
only-disk halts.Disk kept not = refl
only-disk halts.Say kept not = absurd (not (kept (apart halts.Say halts.Disk (λ e. omega (arith, e)))))
only-disk halts.Files kept not = absurd (not (kept (apart halts.Files halts.Disk (λ e. omega (arith, e)))))
only-disk halts.Script kept not = absurd (not (kept (apart halts.Script halts.Disk (λ e. omega (arith, e)))))
only-disk (halts.Functions x) kept not = absurd (not (kept (apart (halts.Functions x) halts.Disk (λ e. omega (arith, e)))))
only-disk (halts.Store x) kept not = absurd (not (kept (apart (halts.Store x) halts.Disk (λ e. omega (arith, e)))))
only-disk halts.Program kept not = absurd (not (kept (apart halts.Program halts.Disk (λ e. omega (arith, e)))))
only-disk halts.LongFile kept not = absurd (not (kept (apart halts.LongFile halts.Disk (λ e. omega (arith, e)))))
only-disk halts.LongScript kept not = absurd (not (kept (apart halts.LongScript halts.Disk (λ e. omega (arith, e)))))

pub only-say : {S : Type 0} (halt : Halt) → ((halt ≡ halts.Say → ⊥) → S) → (S → ⊥) → halt ≡ halts.Say
only-say halts.Usage kept not = absurd (not (kept (apart halts.Usage halts.Say (λ e. omega (arith, e)))))
only-say halts.Memory kept not = absurd (not (kept (apart halts.Memory halts.Say (λ e. omega (arith, e)))))
only-say halts.Disk kept not = absurd (not (kept (apart halts.Disk halts.Say (λ e. omega (arith, e)))))
only-say halts.Say kept not = refl
only-say halts.Files kept not = absurd (not (kept (apart halts.Files halts.Say (λ e. omega (arith, e)))))
only-say halts.Script kept not = absurd (not (kept (apart halts.Script halts.Say (λ e. omega (arith, e)))))
only-say (halts.Functions x) kept not = absurd (not (kept (apart (halts.Functions x) halts.Say (λ e. omega (arith, e)))))
only-say (halts.Store x) kept not = absurd (not (kept (apart (halts.Store x) halts.Say (λ e. omega (arith, e)))))
only-say halts.Program kept not = absurd (not (kept (apart halts.Program halts.Say (λ e. omega (arith, e)))))
only-say halts.LongFile kept not = absurd (not (kept (apart halts.LongFile halts.Say (λ e. omega (arith, e)))))
only-say halts.LongScript kept not = absurd (not (kept (apart halts.LongScript halts.Say (λ e. omega (arith, e)))))

pub only-files : {S : Type 0} (halt : Halt) → ((halt ≡ halts.Files → ⊥) → S) → (S → ⊥) → halt ≡ halts.Files
only-files halts.Usage kept not = absurd (not (kept (apart halts.Usage halts.Files (λ e. omega (arith, e)))))
only-files halts.Memory kept not = absurd (not (kept (apart halts.Memory halts.Files (λ e. omega (arith, e)))))
only-files halts.Disk kept not = absurd (not (kept (apart halts.Disk halts.Files (λ e. omega (arith, e)))))
only-files halts.Say kept not = absurd (not (kept (apart halts.Say halts.Files (λ e. omega (arith, e)))))
only-files halts.Files kept not = refl
only-files halts.Script kept not = absurd (not (kept (apart halts.Script halts.Files (λ e. omega (arith, e)))))
only-files (halts.Functions x) kept not = absurd (not (kept (apart (halts.Functions x) halts.Files (λ e. omega (arith, e)))))
only-files (halts.Store x) kept not = absurd (not (kept (apart (halts.Store x) halts.Files (λ e. omega (arith, e)))))
only-files halts.Program kept not = absurd (not (kept (apart halts.Program halts.Files (λ e. omega (arith, e)))))
only-files halts.LongFile kept not = absurd (not (kept (apart halts.LongFile halts.Files (λ e. omega (arith, e)))))
only-files halts.LongScript kept not = absurd (not (kept (apart halts.LongScript halts.Files (λ e. omega (arith, e)))))

pub only-script : {S : Type 0} (halt : Halt) → ((halt ≡ halts.Script → ⊥) → S) → (S → ⊥) → halt ≡ halts.Script
only-script halts.Usage kept not = absurd (not (kept (apart halts.Usage halts.Script (λ e. omega (arith, e)))))
only-script halts.Memory kept not = absurd (not (kept (apart halts.Memory halts.Script (λ e. omega (arith, e)))))
only-script halts.Disk kept not = absurd (not (kept (apart halts.Disk halts.Script (λ e. omega (arith, e)))))
only-script halts.Say kept not = absurd (not (kept (apart halts.Say halts.Script (λ e. omega (arith, e)))))
only-script halts.Files kept not = absurd (not (kept (apart halts.Files halts.Script (λ e. omega (arith, e)))))
only-script halts.Script kept not = refl
only-script (halts.Functions x) kept not = absurd (not (kept (apart (halts.Functions x) halts.Script (λ e. omega (arith, e)))))
only-script (halts.Store x) kept not = absurd (not (kept (apart (halts.Store x) halts.Script (λ e. omega (arith, e)))))
only-script halts.Program kept not = absurd (not (kept (apart halts.Program halts.Script (λ e. omega (arith, e)))))
only-script halts.LongFile kept not = absurd (not (kept (apart halts.LongFile halts.Script (λ e. omega (arith, e)))))
only-script halts.LongScript kept not = absurd (not (kept (apart halts.LongScript halts.Script (λ e. omega (arith, e)))))
