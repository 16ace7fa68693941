-- The laws of a desk in memory.
use Rattle.std.specs.Prelude.{◌≡◌, ℕ, ◌≤◌, List, length, reverse, map, Some}
use Rattle.std.proofs.Common.{arith, sym, ◌∙◌, ap}
use Rattle.std.proofs.lemmas.List.{length-reverse, length-map}
use Rattle.r3_desk.specs.Recorded.{call_of}
use Rattle.r3_desk.specs.Memory.{state, MayLeave, LeavesAt, ReachIn}
use Rattle.r3_desk.specs.Past.{reach_now, reach_only}
use Rattle.r3_desk.specs.declared.step.Step.{Step}
use Rattle.r3_desk.specs.declared.asked.Asked.{Asked}

pub size_told : (image told : List ℕ) → Some image ≡ Some told → Some (length image) ≡ Some (length told)
size_told image told is = let e : image ≡ told = cc in ap (λ (l : List ℕ). Some (length l)) e

module _ (first : List ℕ) (steps : List Step) (bytes : List ℕ) (said : List ℕ) (asked : List Asked) where
  pub counts_told : (state first (reverse steps) bytes).said ≡ length said → (state first (reverse steps) bytes).asked ≡ length asked
      → (t : ℕ) (c : List ℕ) → t ≤ length steps → MayLeave (state first (reverse steps) bytes) c
      → ReachIn first (reverse steps) bytes t c (length said) (length (map call_of asked))
  counts_told s a t c le left = reach_now first (reverse steps) bytes t c (length said) (length (map call_of asked)) (omega (arith, length-reverse steps)) (left, sym s, length-map asked call_of ∙ sym a)

  pub only_told : (state first (reverse steps) bytes).said ≡ length said → (state first (reverse steps) bytes).asked ≡ length asked
      → (c : List ℕ) (n m : ℕ) → ReachIn first (reverse steps) bytes (length steps) c n m
      → MayLeave (state first (reverse steps) bytes) c × (n ≡ length said) × (m ≡ length (map call_of asked))
  only_told s a c n m r =
      let l = reach_only first (reverse steps) bytes (length steps) c n m (omega (arith, length-reverse steps)) r in
      (l.0, l.1 ∙ s, l.2 ∙ a ∙ sym (length-map asked call_of))
