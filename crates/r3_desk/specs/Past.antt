-- What was reached goes on over recorded steps.
use Rattle.std.specs.Prelude.{◌≡◌, ◌⊎◌, ℕ, ◌+◌, ◌-◌, ◌≤◌, List, [], ◌∷◌, ◌++◌, length, take, drop, reverse}
use Rattle.std.proofs.Common.{inl, inr, ⊎_elim, arith, refl}
use Rattle.r3_desk.specs.Crash.{Reach, Elapses}
use Rattle.r3_desk.specs.Memory.{State, state, TornBy, LeavesAt, ReachIn, bytes_before}
use Rattle.r3_desk.specs.declared.step.Step.{Step}

module _ (first : List ℕ) where
  pub reach_by : (steps : List Step) (bytes : List ℕ) (t : ℕ) (c : List ℕ) (n m : ℕ) → ReachIn first steps bytes t c n m → t ≤ length steps
  reach_by [] bytes t c n m r = r.0
  reach_by (x ∷ older) bytes t c n m (inl now) = omega (arith, now.0)
  reach_by (x ∷ older) bytes t c n m (inr past) = omega (arith, reach_by older (bytes_before x bytes) t c n m past)

  pub reach_since : (steps : List Step) (bytes : List ℕ) (t u : ℕ) (c : List ℕ) (n m : ℕ) → t ≤ u → ReachIn first steps bytes u c n m → ReachIn first steps bytes t c n m
  reach_since [] bytes t u c n m le r = (omega (arith, r.0), r.1)
  reach_since (x ∷ older) bytes t u c n m le (inl now) = inl (omega (arith, now.0), now.1)
  reach_since (x ∷ older) bytes t u c n m le (inr past) = inr (reach_since older (bytes_before x bytes) t u c n m le past)

  pub reach_now : (steps : List Step) (bytes : List ℕ) (t : ℕ) (c : List ℕ) (n m : ℕ) → t ≤ length steps → LeavesAt (state first steps bytes) c n m → ReachIn first steps bytes t c n m
  reach_now [] bytes t c n m le l = (le, l)
  reach_now (x ∷ older) bytes t c n m le l = inl (omega (arith, le), l)

  pub reach_only : (steps : List Step) (bytes : List ℕ) (t : ℕ) (c : List ℕ) (n m : ℕ) → length steps ≤ t → ReachIn first steps bytes t c n m → LeavesAt (state first steps bytes) c n m
  reach_only [] bytes t c n m le r = r.1
  reach_only (x ∷ older) bytes t c n m le (inl now) = now.1
  reach_only (x ∷ older) bytes t c n m le (inr past) = absurd (omega (arith, le, reach_by older (bytes_before x bytes) t c n m past))

  -- one more step
  pub elapses_step : (x : Step) (older : List Step) (bytes : List ℕ) → Elapses (length older) (length older + 1) (ReachIn first older (bytes_before x bytes)) (ReachIn first (x ∷ older) bytes)
  elapses_step x older bytes = record {
    later = omega arith;
    splits = λ t c n m le r. ⊎_elim (λ now. inr (inl (omega arith, now.1))) (λ past. inl past) r;
    keeps = λ t c n m le r. inr r;
    counts = λ t c n m le r. reach_since (x ∷ older) bytes t (length older) c n m le r;
  }

  pub elapses_none : (steps : List Step) (bytes : List ℕ) → Elapses (length steps) (length steps) (ReachIn first steps bytes) (ReachIn first steps bytes)
  elapses_none steps bytes = record {
    later = omega arith;
    splits = λ t c n m le r. inl r;
    keeps = λ t c n m le r. r;
    counts = λ t c n m le r. reach_since steps bytes t (length steps) c n m le r;
  }
