-- The least number of a list, found from the front.
use Rattle.std.proofs.Common.{◌≡◌, ◌⊎◌, ℕ, ◌≤◌, ◌<◌, List, [], ◌∷◌, ◌++◌, length, fold, take, drop, remove, min, Option, Some, None, refl, sym, ap, subst, ◌∙◌, inl, inr, ⊎_elim, arith, zero, suc, Bool, true, false}
use Rattle.std.specs.Prelude.{Contains, ◌↔◌, nat_le}
use Rattle.std.specs.Option.{IfSome}
use Rattle.std.proofs.lemmas.List.{take-append-drop}
use Rattle.std.proofs.lemmas.Bool.Decides.{nat_tests}
use Rattle.std.proofs.lemmas.List.Elements.{Contains-append_left, Contains-append_right, Contains-append_cases}
use Rattle.r3_snap.specs.Pins.{IsLeast, lesser, least_in}

abbrev step : Option ℕ → ℕ → Option ℕ
step least snap = Some (lesser least snap)

-- the lowest of a number and a list
record Lowest (a : ℕ) (xs : List ℕ) : Type 0 where
  pub low : ℕ
  pub found : fold step (Some a) xs ≡ Some low
  pub from : (low ≡ a) ⊎ Contains xs low
  pub first : low ≤ a
  pub least : (s : ℕ) → Contains xs s → low ≤ s

lowest : (a : ℕ) (xs : List ℕ) → Lowest a xs
lowest a [] = record { low = a; found = refl; from = inl refl; first = omega arith; least = λ s there. absurd (omega (arith, there.1)) }
lowest a (x ∷ xs) =
    let rest : Lowest (min a x) xs = lowest (min a x) xs in
    record {
      low = rest.low;
      found = rest.found;
      from = ⊎_elim (λ same. of_min rest.low same) (λ there. inr (suc there.0, omega (arith, there.1), there.2)) rest.from;
      first = omega (arith, rest.first);
      least = below rest;
    }
  where
    of_min : (m : ℕ) → m ≡ min a x → (m ≡ a) ⊎ Contains (x ∷ xs) m
    of_min m same = ⊎_elim (λ is. inl (same ∙ is)) (λ is. inr (0, omega arith, sym (same ∙ is))) (either a x)
      where
        either : (p q : ℕ) → (min p q ≡ p) ⊎ (min p q ≡ q)
        either p q = elim (nat_le p q) as (λ b. nat_le p q ≡ b → (min p q ≡ p) ⊎ (min p q ≡ q)) [
          | true ↦ λ le. let below : p ≤ q = grind (arith, nat_tests) in inl (omega arith)
          | false ↦ λ le. let above : q < p = grind (arith, nat_tests) in inr (omega arith)
        ] refl

    below : (rest : Lowest (min a x) xs) → (s : ℕ) → Contains (x ∷ xs) s → rest.low ≤ s
    below rest s (zero, within, is) = omega (arith, rest.first, is)
    below rest s (suc k, within, is) = rest.least s (k, omega (arith, within), is)

pub least_is : (held : List ℕ) → IfSome (least_in held) (IsLeast held)
least_is [] = tt
least_is (x ∷ xs) =
    let l : Lowest x xs = lowest x xs in
    subst (λ r. IfSome r (IsLeast (x ∷ xs))) (sym l.found)
    (record {
      pinned = ⊎_elim (λ same. (0, omega arith, sym same)) (λ there. (suc there.0, omega (arith, there.1), there.2)) l.from;
      least = below l;
    })
  where
    below : (l : Lowest x xs) → (s : ℕ) → Contains (x ∷ xs) s → l.low ≤ s
    below l s (zero, within, is) = omega (arith, l.first, is)
    below l s (suc k, within, is) = l.least s (k, omega (arith, within), is)

pub least_none : (held : List ℕ) → (least_in held ≡ None) ↔ (held ≡ [])
least_none [] = (λ _. refl, λ _. refl)
least_none (x ∷ xs) =
    let l : Lowest x xs = lowest x xs in
    (λ none. absurd (no_some l.low (sym l.found ∙ none)), λ e. absurd cc)
  where
    no_some : (m : ℕ) → Some m ≡ None → ⊥
    no_some m e = absurd cc

pub removed : (items : List ℕ) (i s : ℕ) → Contains (remove items i) s → Contains items s
removed items i s there =
    ⊎_elim
    (λ a. subst (λ (l : List ℕ). Contains l s) (take-append-drop i items) (Contains-append_left (take i items) (drop i items) s a))
    (λ b. subst (λ (l : List ℕ). Contains l s) (take-append-drop (suc i) items) (Contains-append_right (take (suc i) items) (drop (suc i) items) s b))
    (Contains-append_cases (take i items) (drop (suc i) items) s there)
