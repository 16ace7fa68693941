-- Calls that end before anything is touched.
use Rattle.std.proofs.Common.{◌≡◌, ◌⊎◌, inl, inr, ⊎_elim, ℕ, List, [], Option, Some, None, refl, sym, ap, ◌∙◌, subst, arith}
use Rattle.r3_desk.specs.Asked as desk
use Rattle.r3_desk.specs.Crash.{Reach}
use Rattle.r3_model.specs.Language.{Text}
use Rattle.r3_top.specs.Statuses.{GoesAs, HasLine, IsLast, last_line, status_of}
use Rattle.r3_top.specs.Going.{FailsToSay}
use Rattle.r3_top.specs.Closes.{CallsNeither, EndsAtOnce}
use Rattle.r3_top.specs.declared.halt.Halt.{Halt}
use Rattle.r3_top.specs.declared.halt.Halt.TheVariants as halts
use Rattle.r3_top.proofs.Causing.{Answers}
use Rattle.r3_top.proofs.Closing.{has-line}
use Rattle.r3_top.proofs.Standing.{only-say}

no-line : (halt h : Halt) → halt ≡ h → (HasLine h → ⊥) → HasLine halt → ⊥
no-line halt h same none there = none (subst HasLine same there)

-- the status of a halt without a line
pub own-status : (answer : ℕ) (halt h : Halt) → ((HasLine halt → ⊥) → answer ≡ status_of halt) → halt ≡ h → (HasLine h → ⊥) → answer ≡ status_of h
own-status answer halt h own same none = own (no-line halt h same none) ∙ ap status_of same

module _ {D : Type 0} (image : D → Option Text) (may_leave : D → Text → Type 0) (moment : D → ℕ) (reach : D → Reach) (said : D → Option Text) (asked : D → Option (List desk.Call)) (from mid now : D) (answer : ℕ) where
  -- a halt without a line says nothing
  pub silent-same : (halt h : Halt) → halt ≡ h → (HasLine h → ⊥) → EndsAtOnce image may_leave moment reach said asked mid now halt answer → now ≡ mid
  silent-same halt h same none closes = ⊎_elim (λ s. s.1) (λ last. absurd (no-line halt h same none (has-line halt last.spoken))) closes

  pub at-once : (halt : Halt) → mid ≡ from → EndsAtOnce image may_leave moment reach said asked mid now halt answer → EndsAtOnce image may_leave moment reach said asked from now halt answer
  at-once halt same closes = subst (λ (d : D). EndsAtOnce image may_leave moment reach said asked d now halt answer) same closes

  -- bad words are told, or there was no memory
  pub usage-at-once : (halt : Halt) → mid ≡ from → (halt ≡ halts.Usage) ⊎ (halt ≡ halts.Memory) → ((HasLine halt → ⊥) → answer ≡ status_of halt)
      → EndsAtOnce image may_leave moment reach said asked mid now halt answer → EndsAtOnce image may_leave moment reach said asked from now halts.Usage answer
  usage-at-once halt same which own closes = ⊎_elim
      (λ u. subst (λ (h : Halt). EndsAtOnce image may_leave moment reach said asked from now h answer) u (at-once halt same closes))
      (λ m. inl (inr (tt, own-status answer halt halts.Memory own m (λ x. x)), silent-same halt halts.Memory m (λ x. x) closes ∙ same)) which

pub neither-from : {D : Type 0} (size syncs : D → Option ℕ) (disk_faults ask_faults : D → ℕ) (from mid now : D) → mid ≡ from
    → CallsNeither size syncs disk_faults ask_faults mid now → CallsNeither size syncs disk_faults ask_faults from now
neither-from {D} size syncs disk_faults ask_faults from mid now same n = subst (λ (d : D). CallsNeither size syncs disk_faults ask_faults d now) same n

-- ---- the output has failed

say-of : (halt : Halt) → 5 ≡ status_of halt → halt ≡ halts.Say
say-of halts.Usage is = absurd (omega (arith, is))
say-of halts.Memory is = absurd (omega (arith, is))
say-of halts.Disk is = absurd (omega (arith, is))
say-of halts.Say is = refl
say-of halts.Files is = absurd (omega (arith, is))
say-of halts.Script is = absurd (omega (arith, is))
say-of (halts.Functions x) is = absurd (omega (arith, is))
say-of (halts.Store x) is = absurd (omega (arith, is))
say-of halts.Program is = absurd (omega (arith, is))
say-of halts.LongFile is = absurd (omega (arith, is))
say-of halts.LongScript is = absurd (omega (arith, is))

no-five-zero : ◌≡◌ {A = ℕ} 5 0 → ⊥
no-five-zero is = omega (arith, is)

said-whole : (Goes : Option Halt → Text → Type 0) (halt : Halt) (line : Text) → halt ≡ halts.Say → line ≡ last_line halt → Goes (Some halt) line → Goes (Some halts.Say) []
said-whole Goes halt line say all g =
    let none : line ≡ [] = all ∙ ap last_line say in
    subst (λ (t : Text). Goes (Some halts.Say) t) none (subst (λ (h : Halt). Goes (Some h) line) say g)

fails-at : (Goes : Option Halt → Text → Type 0) (end : Option Halt) (line : Text) → IsLast end 5 line → Goes end line → FailsToSay Goes
fails-at Goes None line last g = absurd (no-five-zero last.0)
fails-at Goes (Some halt) line last g = ⊎_elim
    (λ own. inl (said-whole Goes halt line (say-of halt own.0) own.1 g))
    (λ cut. ⊎_elim (λ five. inr (halt, line, five.1, cut.0, five.2, g)) (λ three. absurd (omega (arith, three.0))) cut.1) last

-- status 5 comes where the output has failed
pub fails-to-say : (Goes : Option Halt → Text → Type 0) (answer : ℕ) → answer ≡ 5 → GoesAs Goes answer → FailsToSay Goes
fails-to-say Goes answer five goes =
    let g : GoesAs Goes 5 = subst (λ (n : ℕ). GoesAs Goes n) five goes in
    fails-at Goes g.0 g.1 g.2 g.3

-- a count of the output that has changed is told
pub say-tells : (answer then between now : ℕ) (halt : Halt) → Answers answer halt → ((HasLine halt → ⊥) → answer ≡ status_of halt)
    → ((halt ≡ halts.Say → ⊥) → between ≡ then) → ((answer ≡ 5 → ⊥) → now ≡ between) → (now ≡ then → ⊥) → answer ≡ 5
say-tells answer then between now halt is own kept last changed =
    let at : halt ≡ halts.Say → answer ≡ 5 = λ s. own-status answer halt halts.Say own s (λ x. x) in
    ⊎_elim (λ three. at (only-say halt (λ none. last (λ five. omega (arith, three, five)) ∙ kept none) changed))
    (λ rest. ⊎_elim (λ five. five)
    (λ s. at (only-say halt (λ none. last (λ five. none (say-of halt (sym five ∙ s))) ∙ kept none) changed)) rest) is
