-- Lists that are taken from their end, mapped one by one, and turned round.
use Rattle.std.proofs.Common.{◌≡◌, ℕ, List, [], ◌∷◌, ◌++◌, map, refl, sym, ap, ◌∙◌, append_assoc}
use Rattle.std.specs.Prelude.{reverse}
use Rattle.std.proofs.lemmas.List.{reverse-append}

module _ {A B : Type 0} (f : A → B) where
  map_more : (xs : List A) (x : A) → map f (xs ++ x ∷ []) ≡ map f xs ++ f x ∷ []
  map_more [] x = refl
  map_more (y ∷ ys) x = ap (λ (zs : List B). f y ∷ zs) (map_more ys x)

  -- one more of them was taken
  pub more : (whole : List B) (left rest : List A) (x : A) (done : List B) → whole ≡ map f left ++ reverse done → left ≡ rest ++ x ∷ []
      → whole ≡ map f rest ++ reverse (done ++ f x ∷ [])
  more whole left rest x done is last =
      is ∙ ap (λ (xs : List A). map f xs ++ reverse done) last ∙ ap (λ (ys : List B). ys ++ reverse done) (map_more rest x)
      ∙ append_assoc (map f rest) (f x ∷ []) (reverse done)
      ∙ ap (λ (ys : List B). map f rest ++ ys) (sym (reverse-append done (f x ∷ [])))
