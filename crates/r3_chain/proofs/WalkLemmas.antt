-- The least version past a snapshot, found from the newest one on.
use Rattle.std.proofs.Common.{◌≡◌, ◌<◌, ◌≤◌, ℕ, List, ◌∷◌, true, false, cond, Option, Some, None, refl, ap, ◌∙◌, arith}
use Rattle.std.proofs.lemmas.Bool.Decides.{nat_tests}
use Rattle.std.specs.Prelude.{unwrap_or, nat_le}
use Rattle.r3_chain.specs.Versions.{Version, last_upto, first_past, AreFalling}
use Rattle.r3_chain.specs.VersionLaws.{none_past}

-- what is found later counts
abbrev pub or_first : Option ℕ → Option ℕ → Option ℕ
or_first None found = found
or_first (Some i) found = Some i

pub or_first-more : (later : Option ℕ) (i : ℕ) (found : Option ℕ) → or_first (Some (unwrap_or later i)) found ≡ or_first later (Some i)
or_first-more None i found = refl
or_first-more (Some j) i found = refl

pub or_first-none : (later : Option ℕ) → or_first later None ≡ later
or_first-none None = refl
or_first-none (Some i) = refl

module _ {V : Type 0} where
  pub upto_later : (index : ℕ) (v : Version V) (vs : List (Version V)) → index < v.0 → last_upto index (v ∷ vs) ≡ last_upto index vs
  upto_later index v vs lt =
      let later : nat_le v.0 index ≡ false = grind (arith, nat_tests) in
      ap (λ b. cond b (Some v) (last_upto index vs)) later

  pub past_done : (snap : ℕ) (v : Version V) (vs : List (Version V)) → AreFalling (v ∷ vs) → v.0 ≤ snap → first_past snap (v ∷ vs) ≡ None
  past_done snap v vs falling le =
      let within : nat_le v.0 snap ≡ true = grind (arith, nat_tests) in
      ap (λ b. cond b (first_past snap vs) (Some (unwrap_or (first_past snap vs) v.0))) within ∙ none_past snap v.0 vs le falling.0

  pub past_more : (snap : ℕ) (v : Version V) (vs : List (Version V)) (found : Option ℕ) → snap < v.0
      → or_first (first_past snap (v ∷ vs)) found ≡ or_first (first_past snap vs) (Some v.0)
  past_more snap v vs found lt =
      let later : nat_le v.0 snap ≡ false = grind (arith, nat_tests) in
      ap (λ b. or_first (cond b (first_past snap vs) (Some (unwrap_or (first_past snap vs) v.0))) found) later ∙ or_first-more (first_past snap vs) v.0 found
