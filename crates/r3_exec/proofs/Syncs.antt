-- Numbers of syncs.
use Rattle.std.proofs.Common.{◌≡◌, ◌⊎◌, ℕ, ◌+◌, Option, Some, None, refl, ap, ◌∙◌, ⊎_elim, arith}
use Rattle.std.specs.Option.{option_map}
use Rattle.r3_exec.specs.Does.{SyncsWithin}

none_more : (o : Option ℕ) → o ≡ option_map (λ n. n + 0) o
none_more None = refl
none_more (Some n) = ap (λ (k : ℕ). Some k) (let e : n ≡ n + 0 = omega arith in e)

pub no_more : (before after : Option ℕ) → after ≡ before → (most : ℕ) → SyncsWithin before after most
no_more before after same most = (0, omega arith, same ∙ none_more before)

-- a settle
pub few_more : (before after : Option ℕ) → ((after ≡ before) ⊎ (after ≡ option_map (λ n. n + 1) before) ⊎ (after ≡ option_map (λ n. n + 2) before)) → SyncsWithin before after 2
few_more before after h = ⊎_elim
    (λ same. no_more before after same 2)
    (λ more. ⊎_elim (λ one. (1, omega arith, one)) (λ two. (2, omega arith, two)) more) h
