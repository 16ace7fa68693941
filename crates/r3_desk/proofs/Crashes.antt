-- What a fake gives for a crash is an image that a crash may leave.
use Rattle.std.proofs.Common.{◌≡◌, ◌⊎◌, inl, inr, ⊎_elim, ℕ, ◌+◌, ◌<◌, ◌≤◌, max, List, [], ◌∷◌, length, replicate, true, refl, sym, ap, subst, arith}
use Rattle.std.proofs.lemmas.Bool.{cases_lt}
use Rattle.std.proofs.lemmas.List.{length-replicate}
use Rattle.r3_desk.proofs.Kept.{torn_whole}
use Rattle.r3_desk.proofs.Replay.{Past, past-in, past-out, fits_older, fits_past, write_fits, length-filled}
use Rattle.r3_desk.specs.Disk.{Torn as Tears, overwritten}
use Rattle.r3_desk.specs.Memory.{State, state, bytes_before, past, state_when, fitting, TornBy, MayLeave, LeavesAt, ReachIn}
use Rattle.r3_desk.specs.Torn.{filled, crash_image}
use Rattle.r3_desk.specs.declared.step.Step.{Step}
use Rattle.r3_desk.specs.declared.step.Step.TheVariants.{Idle, Write, Sync, Say, Ask}
use Rattle.r3_desk.specs.declared.torn.Torn.{Torn}
use Rattle.r3_desk.specs.declared.torn.Torn.TheVariants.{Old, New, Fill}

-- nothing of what isn't synced
old_torn : (ranges : List (ℕ × ℕ)) (base : List ℕ) → TornBy ranges base base
old_torn [] base = refl
old_torn (range ∷ ranges) base = (base, old_torn ranges base, record { before = refl; after = refl; no_shorter = omega arith; no_longer = omega arith })

module _ (first : List ℕ) where
  fill_torn : (byte : ℕ) (xs : List Step) (b : List ℕ) → fitting first xs b ≡ true → TornBy (state first xs b).ranges (state first xs b).base (filled byte (state first xs b).ranges (state first xs b).base)
  fill_torn byte [] b f = refl
  fill_torn byte (Idle ∷ older) b f = fill_torn byte older b f
  fill_torn byte (Write at len ∷ older) b f = (filled byte s.ranges s.base, fill_torn byte older (bytes_before (Write at len) b) fits, subst (λ (n : ℕ). Tears at n (filled byte s.ranges s.base) (overwritten (filled byte s.ranges s.base) at (replicate len byte))) (length-replicate len byte) (torn_whole (filled byte s.ranges s.base) at (replicate len byte) within))
    where
      s : State
      s = state first older (bytes_before (Write at len) b)

      fits : fitting first older (bytes_before (Write at len) b) ≡ true
      fits = fits_older first (Write at len) older b f

      within : at ≤ length (filled byte (state first older (bytes_before (Write at len) b)).ranges (state first older (bytes_before (Write at len) b)).base)
      within = omega (arith, (write_fits first at len older b f).0, length-filled first byte older (bytes_before (Write at len) b) fits)
  fill_torn byte (Sync ∷ older) b f = refl
  fill_torn byte (Say len ∷ older) b f = fill_torn byte older b f
  fill_torn byte (Ask ∷ older) b f = fill_torn byte older b f

  crash_torn : (torn : Torn) (xs : List Step) (b : List ℕ) → fitting first xs b ≡ true → MayLeave (state first xs b) (crash_image torn (state first xs b))
  crash_torn Old xs b f = inl (old_torn (state first xs b).ranges (state first xs b).base)
  crash_torn New xs b f = inr refl
  crash_torn (Fill byte) xs b f = inl (fill_torn byte xs b f)

  pub crash_left : (torn : Torn) (xs : List Step) (b : List ℕ) (t : ℕ) → fitting first xs b ≡ true → MayLeave (state_when first xs b t) (crash_image torn (state_when first xs b t))
  crash_left torn xs b t f = crash_torn torn (past xs b t).0 (past xs b t).1 (fits_past first xs b t f)

  -- what a crash leaves at a moment is reached since then
  pub reach_when : (xs : List Step) (b : List ℕ) (t : ℕ) (c : List ℕ) (n m : ℕ) → t ≤ length xs → LeavesAt (state_when first xs b t) c n m → ReachIn first xs b t c n m
  reach_when [] b t c n m le l = (le, l)
  reach_when (x ∷ older) b t c n m le l = ⊎_elim
      (λ below. inl (omega (arith, le), subst (λ (p : Past). LeavesAt (state first p.0 p.1) c n m) (past-in x older b t below) l))
      (λ above. inr (reach_when older (bytes_before x b) t c n m above (subst (λ (p : Past). LeavesAt (state first p.0 p.1) c n m) (past-out x older b t above) l)))
      (cases_lt (length older) t)
