-- What a part of a body gave, carried to what stands round it.
use Rattle.std.proofs.Common.{◌≡◌, subst, sym, ap, ℕ, zero, suc, ◌-◌, ◌<◌, true, Option, Some, None, Result, Ok, Err, refl, arith}
use Rattle.std.specs.Prelude.{Bool}
use Rattle.fn_tree.specs.declared.flow.Request.{Request}
use Rattle.fn_tree.specs.Ends.{At, Ends, Goes, Returns, Failed, Asks, Stuck as NoEnd, Act, and_then}
use Rattle.fn_tree.specs.Control.{chosen, turns, one_unit_less, with_unit}
use Rattle.fn_walk.specs.Runs.{StopsAt, BreaksAs, RunsAs}
use Rattle.fn_walk.specs.declared.broken.Break.{Break}
use Rattle.fn_walk.specs.declared.broken.Break.TheVariants as broken

module _ {Q W : Type 0} (may : Request → Option Q) where
  stopped : {A B : Type 0} (o : Option Q) (d : Ends Q W A) (go : A → At W → Ends Q W B) (at : At W) → StopsAt o d at → StopsAt o (and_then d go) at
  stopped (Some q) d go at h = ap (λ d. and_then d go) h
  stopped None d go at h = ap (λ d. and_then d go) h

  -- what doesn't go on is not followed by anything
  pub broke : {A B : Type 0} (e : Break) (d : Ends Q W A) (go : A → At W → Ends Q W B) (at : At W) → BreaksAs may e d at → BreaksAs may e (and_then d go) at
  broke (broken.Returned v) d go at h = ap (λ d. and_then d go) h
  broke (broken.Failed word) d go at h = ap (λ d. and_then d go) h
  broke (broken.Asks q) d go at h = stopped (may q) d go at h
  broke broken.Memory d go at h = tt
  broke broken.Stuck d go at h = ap (λ d. and_then d go) h

  -- along an equation of ends
  pub along : {A : Type 0} (r : Result A Break) (d d' : Ends Q W A) (at : At W) → d ≡ d' → RunsAs may r d' at → RunsAs may r d at
  along r d d' at e h = subst (λ d. RunsAs may r d at) (sym e) h

  unit_goes : (n : ℕ) (at : At W) (go : Act Q W) → 0 < n → one_unit_less n at go ≡ go (record at { units = n - 1 })
  unit_goes zero at go lt = absurd (omega arith)
  unit_goes (suc n) at go lt = let e : n ≡ suc n - 1 = omega arith in ap (λ m. go (record at { units = m })) e

  -- a turn whose body doesn't go on
  pub turn_broke : (n : ℕ) (test : At W → Ends Q W Bool) (body : Act Q W) (at mid : At W) (e : Break) (after : At W) → 0 < n → test at ≡ Goes true mid → 0 < mid.units → BreaksAs may e (body (record mid { units = mid.units - 1 })) after → RunsAs may (Err e) (turns n test body at) after
  turn_broke zero test body at mid e after lt t u h = absurd (omega arith)
  turn_broke (suc n) test body at mid e after lt t u h =
      let go : Act Q W = λ at. and_then (body at) (λ u. turns n test body) in
      let rest : Bool → Act Q W = λ b. chosen b (with_unit go) (Goes tt) in
      subst (λ d. BreaksAs may e (and_then d rest) after) (sym t)
      (subst (λ d. BreaksAs may e d after) (sym (unit_goes mid.units mid go u)) (broke e (body (record mid { units = mid.units - 1 })) (λ u. turns n test body) after h))
