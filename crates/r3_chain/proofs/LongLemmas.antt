-- The list of the versions that have older ones behind them, while versions are added and chains are cut.
use Rattle.std.proofs.Common.{◌≡◌, ◌≢◌, ℕ, ◌+◌, ◌<◌, ◌≤◌, zero, suc, true, false, cond, List, [], ◌∷◌, ◌++◌, length, Option, Some, None, IsSome, refl, sym, ap, ◌∙◌, subst, arith, inl, inr}
use Rattle.std.proofs.lemmas.Bool.Decides.{eqb_tells, nat_tests}
use Rattle.std.specs.Prelude.{nat_eq, nat_le, ◌⊎◌}
use Rattle.std.specs.List.{AllByRecursion}
use Rattle.r3_pool.specs.Slots.{Slots}
use Rattle.r3_chain.specs.Versions.{Version, AreFalling}
use Rattle.r3_chain.specs.Links.{Cells, Placed, onto, trace, ends_with, Ends, versions_in, visits}
use Rattle.r3_chain.specs.Sound.{total}
use Rattle.r3_chain.specs.Cuts.{cut_at}
use Rattle.r3_chain.specs.Long.{times, older_in, older_at, InOrder}
use Rattle.r3_chain.specs.declared.node.Node.{Node}
use Rattle.r3_chain.specs.declared.head.Head.{Head}
use Rattle.r3_chain.proofs.LinkLemmas.{trace_longer, trace_step, trace_fits, first_live, nothing, seen_same, seen_other, one}

pub times_append : (t : ℕ) (xs ys : List ℕ) → times t (xs ++ ys) ≡ times t xs + times t ys
times_append t [] ys = omega arith
times_append t (x ∷ xs) ys = let rest : times t (xs ++ ys) ≡ times t xs + times t ys = times_append t xs ys in omega arith

pub positive : (k : ℕ) → (k ≡ 0) ⊎ (0 < k)
positive zero = inl refl
positive (suc k) = inr (omega arith)

-- one of the heads counts
pub found : {K : Type 0} (w : Head → ℕ) (es : List (K × Head)) → 0 < total w es
    → (done : List (K × Head)) × ((e : K × Head) × ((rest : List (K × Head)) × ((es ≡ done ++ e ∷ rest) × (0 < w e.1))))
found w [] on = absurd (omega arith)
found {K} w (e ∷ es) on = elim (positive (w e.1)) [
  | inl off ↦
      let rest : (done : List (K × Head)) × ((x : K × Head) × ((xs : List (K × Head)) × ((es ≡ done ++ x ∷ xs) × (0 < w x.1)))) = found w es (omega arith) in
      (e ∷ rest.0, (rest.1.0, (rest.1.1.0, (ap (λ xs. e ∷ xs) rest.1.1.1.0, rest.1.1.1.1))))
  | inr here ↦ ([], (e, (es, (refl, here))))
]

module _ {V : Type 0} where
  pub visits_append : (t : ℕ) (xs ys : List (Placed V)) → visits t (xs ++ ys) ≡ visits t xs + visits t ys
  visits_append t [] ys = omega arith
  visits_append t (x ∷ xs) ys = let rest : visits t (xs ++ ys) ≡ visits t xs + visits t ys = visits_append t xs ys in omega arith

  pub length_append : (xs ys : List (Placed V)) → length (xs ++ ys) ≡ length xs + length ys
  length_append [] ys = omega arith
  length_append (x ∷ xs) ys = let rest : length (xs ++ ys) ≡ length xs + length ys = length_append xs ys in omega arith

  pub versions_append : (xs ys : List (Placed V)) → versions_in (xs ++ ys) ≡ versions_in xs ++ versions_in ys
  versions_append [] ys = refl
  versions_append (x ∷ xs) ys = ap (λ vs. x.1 ∷ vs) (versions_append xs ys)

  all_first : (P : Version V → Type 0) (xs ys : List (Version V)) → AllByRecursion P (xs ++ ys) → AllByRecursion P xs
  all_first P [] ys h = tt
  all_first P (x ∷ xs) ys h = (h.0, all_first P xs ys h.1)

  pub falling_first : (xs ys : List (Version V)) → AreFalling (xs ++ ys) → AreFalling xs
  falling_first [] ys h = tt
  falling_first (x ∷ xs) ys h = (all_first (λ w. w.0 ≤ x.0) xs ys h.0, falling_first xs ys h.1)

  -- the version behind another is no later
  pub next_falls : (above : List (Placed V)) (p q : Placed V) (ps : List (Placed V)) → AreFalling (versions_in (above ++ p ∷ q ∷ ps)) → q.1.0 ≤ p.1.0
  next_falls [] p q ps h = h.0.0
  next_falls (a ∷ above) p q ps h = next_falls above p q ps h.1

  -- what is behind a version up to the index is cut
  pub cut_behind : (oldest : ℕ) (above : List (Placed V)) (p : Placed V) (ps : List (Placed V)) → p.1.0 ≤ oldest → cut_at oldest (above ++ p ∷ ps) ≡ cut_at oldest (above ++ p ∷ [])
  cut_behind oldest [] p ps le =
      let here : nat_le p.1.0 oldest ≡ true = grind (arith, nat_tests) in
      ap (λ b. cond b (p ∷ []) (p ∷ cut_at oldest ps)) here ∙ sym (ap (λ b. cond b (p ∷ []) (p ∷ cut_at oldest [])) here)
  cut_behind oldest (a ∷ above) p ps le = ap (λ rest. cond (nat_le a.1.0 oldest) (a ∷ []) (a ∷ rest)) (cut_behind oldest above p ps le)

  pub cut_first : (oldest : ℕ) (p : Placed V) (ps : List (Placed V)) → p.1.0 ≤ oldest → cut_at oldest (p ∷ ps) ≡ p ∷ []
  cut_first oldest p ps le = let here : nat_le p.1.0 oldest ≡ true = grind (arith, nat_tests) in ap (λ b. cond b (p ∷ []) (p ∷ cut_at oldest ps)) here

  same_fuel : (n m : ℕ) (a : Cells V) (o : Option ℕ) → Ends n a o → Ends m a o → trace n a o ≡ trace m a o
  same_fuel n m a None p q = (nothing n a).0 ∙ sym (nothing m a).0
  same_fuel zero m a (Some s) p q = absurd cc
  same_fuel (suc n) zero a (Some s) p q = absurd cc
  same_fuel (suc n) (suc m) a (Some s) p q =
      elim (a s) as (λ c. ends_with (Some s) c (Ends n a) → ends_with (Some s) c (Ends m a) → onto (Some s) c (trace n a) ≡ onto (Some s) c (trace m a)) [
        | None ↦ λ u v. absurd u
        | Some node ↦ λ u v. ap (λ ps. (s, (node.index, node.value)) ∷ ps) (same_fuel n m a node.older u v)
      ] p q

  -- a chain from one of its versions on
  pub through : (n : ℕ) (a : Cells V) (o : Option ℕ) (s : ℕ) → 0 < visits s (trace n a o) → Ends n a o
      → (above : List (Placed V)) × ((trace n a o ≡ above ++ trace n a (Some s)) × Ends n a (Some s))
  through zero a o s on ends = absurd (omega arith)
  through (suc n) a None s on ends = absurd (omega arith)
  through (suc n) a (Some q) s on ends =
      elim (eqb_tells q s) [
        | inl e ↦ ([], (ap (λ u. trace (suc n) a (Some u)) e.1, subst (λ u. Ends (suc n) a (Some u)) e.1 ends))
        | inr e ↦ elim (a q) as (λ c. 0 < visits s (onto (Some q) c (trace n a)) → ends_with (Some q) c (Ends n a)
            → (above : List (Placed V)) × ((onto (Some q) c (trace n a) ≡ above ++ trace (suc n) a (Some s)) × Ends (suc n) a (Some s))) [
              | None ↦ λ h w. absurd w
              | Some node ↦ λ h w.
                  let other : one (nat_eq q s) ≡ 0 = ap one e.0 in
                  let rest : (above : List (Placed V)) × ((trace n a node.older ≡ above ++ trace n a (Some s)) × Ends n a (Some s)) = through n a node.older s (omega arith) w in
                  let longer : (trace (suc n) a (Some s) ≡ trace n a (Some s)) × Ends (suc n) a (Some s) = trace_longer n a (Some s) rest.1.1 in
                  ((q, (node.index, node.value)) ∷ rest.0, (ap (λ ps. (q, (node.index, node.value)) ∷ ps) (rest.1.0 ∙ ap (λ ps. rest.0 ++ ps) (sym longer.0)), longer.1))
            ] on ends
      ]

  -- a chain that comes to a version, before and after all behind this version is cut
  pub spliced : (n m : ℕ) (a b : Cells V) (o : Option ℕ) (s : ℕ) → Ends m a (Some s) → Ends m b (Some s) → length (trace m b (Some s)) ≤ 1
      → ((t : ℕ) → visits t (trace m a (Some s)) ≡ 0 → b t ≡ a t)
      → 0 < visits s (trace n a o) → Ends n a o → ((t : ℕ) → visits t (trace n a o) ≤ 1)
      → (above : List (Placed V)) × ((trace n a o ≡ above ++ trace m a (Some s)) × ((trace n b o ≡ above ++ trace m b (Some s)) × Ends n b o))
  spliced zero m a b o s was is short keeps on ends once = absurd (omega arith)
  spliced (suc n) m a b None s was is short keeps on ends once = absurd (omega arith)
  spliced (suc n) m a b (Some q) s was is short keeps on ends once =
      elim (eqb_tells q s) [
        | inl e ↦
            let fits : (trace (suc n) b (Some s) ≡ trace m b (Some s)) × Ends (suc n) b (Some s) = trace_fits m (suc n) b (Some s) is (omega arith) in (
              [],
              (
                ap (λ u. trace (suc n) a (Some u)) e.1 ∙ same_fuel (suc n) m a (Some s) (subst (λ u. Ends (suc n) a (Some u)) e.1 ends) was,
                (ap (λ u. trace (suc n) b (Some u)) e.1 ∙ fits.0, subst (λ u. Ends (suc n) b (Some u)) (sym e.1) fits.1),
              ),
            )
        | inr e ↦ elim (a q) as (λ c. a q ≡ c → 0 < visits s (onto (Some q) c (trace n a)) → ends_with (Some q) c (Ends n a) → ((t : ℕ) → visits t (onto (Some q) c (trace n a)) ≤ 1)
            → (above : List (Placed V)) × ((onto (Some q) c (trace n a) ≡ above ++ trace m a (Some s)) × ((onto (Some q) (b q) (trace n b) ≡ above ++ trace m b (Some s)) × ends_with (Some q) (b q) (Ends n b)))) [
              | None ↦ λ p h w each. absurd w
              | Some node ↦ λ p h w each.
                  let other : one (nat_eq q s) ≡ 0 = ap one e.0 in
                  let rest : (above : List (Placed V)) × ((trace n a node.older ≡ above ++ trace m a (Some s)) × ((trace n b node.older ≡ above ++ trace m b (Some s)) × Ends n b node.older)) =
                  spliced n m a b node.older s was is short keeps (omega arith) w (λ t. omega (arith, each t)) in
                  let here : one (nat_eq q q) ≡ 1 = seen_same q in
                  let most : one (nat_eq q q) + visits q (trace n a node.older) ≤ 1 = each q in
                  let parts : visits q (trace n a node.older) ≡ visits q rest.0 + visits q (trace m a (Some s)) = ap (visits q) rest.1.0 ∙ visits_append q rest.0 (trace m a (Some s)) in
                  let same : b q ≡ Some node = keeps q (omega arith) ∙ p in (
                    (q, (node.index, node.value)) ∷ rest.0,
                    (
                      ap (λ ps. (q, (node.index, node.value)) ∷ ps) rest.1.0,
                      (ap (λ c. onto (Some q) c (trace n b)) same ∙ ap (λ ps. (q, (node.index, node.value)) ∷ ps) rest.1.1.0, subst (λ c. ends_with (Some q) c (Ends n b)) (sym same) rest.1.1.1),
                    ),
                  )
            ] refl on ends once
      ]

  -- a chain of one version has none behind it
  pub last_ends : (n : ℕ) (a : Cells V) (s : ℕ) → Ends n a (Some s) → length (trace n a (Some s)) ≤ 1 → older_in (a s) ≡ None
  last_ends n a s ends short =
      elim (a s) as (λ c. a s ≡ c → older_in c ≡ None) [
        | None ↦ λ p. refl
        | Some node ↦ λ p.
            let step : (trace n a (Some s) ≡ (s, (node.index, node.value)) ∷ trace n a node.older) × Ends n a node.older = trace_step n a s node p ends in
            let long : length (trace n a (Some s)) ≡ suc (length (trace n a node.older)) = ap length step.0 in
            none node.older step.1 (omega arith)
      ] refl
    where
      none : (o : Option ℕ) → Ends n a o → length (trace n a o) ≤ 0 → o ≡ None
      none None e le = refl
      none (Some t) e le =
          let live : IsSome (a t) = first_live n a t e in
          elim (a t) as (λ c. a t ≡ c → IsSome c → Some t ≡ None) [
            | None ↦ λ p w. absurd cc
            | Some node ↦ λ p w.
                let step : (trace n a (Some t) ≡ (t, (node.index, node.value)) ∷ trace n a node.older) × Ends n a node.older = trace_step n a t node p e in
                let long : length (trace n a (Some t)) ≡ suc (length (trace n a node.older)) = ap length step.0 in
                absurd (omega arith)
          ] refl live

  -- a chain all of whose versions up to the index are last ones stays
  pub uncuttable : (n oldest : ℕ) (a : Cells V) (o : Option ℕ) → ((s : ℕ) (node : Node V) → 0 < visits s (trace n a o) → a s ≡ Some node → IsSome node.older → oldest < node.index)
      → Ends n a o → cut_at oldest (trace n a o) ≡ trace n a o
  uncuttable zero oldest a o late ends = refl
  uncuttable (suc n) oldest a None late ends = refl
  uncuttable (suc n) oldest a (Some q) late ends =
      elim (a q) as (λ c. a q ≡ c → ((s : ℕ) (node : Node V) → 0 < visits s (onto (Some q) c (trace n a)) → a s ≡ Some node → IsSome node.older → oldest < node.index)
      → ends_with (Some q) c (Ends n a) → cut_at oldest (onto (Some q) c (trace n a)) ≡ onto (Some q) c (trace n a)) [
        | None ↦ λ p h w. absurd w
        | Some node ↦ λ p h w.
            let rest : cut_at oldest (trace n a node.older) ≡ trace n a node.older = uncuttable n oldest a node.older (λ s x on. h s x (omega arith)) w in
            let here : one (nat_eq q q) ≡ 1 = seen_same q in
            let later : IsSome node.older → oldest < node.index = h q node (omega arith) p in
            elim (nat_le node.index oldest) as (λ b. nat_le node.index oldest ≡ b
            → cond b ((q, (node.index, node.value)) ∷ []) ((q, (node.index, node.value)) ∷ cut_at oldest (trace n a node.older)) ≡ (q, (node.index, node.value)) ∷ trace n a node.older) [
              | true ↦ λ t. ap (λ ps. (q, (node.index, node.value)) ∷ ps) (alone node.older (λ on. let lt : oldest < node.index = later on in let le : node.index ≤ oldest = grind (arith, nat_tests) in absurd (omega arith)))
              | false ↦ λ t. ap (λ ps. (q, (node.index, node.value)) ∷ ps) rest
            ] refl
      ] refl late ends
    where
      alone : (r : Option ℕ) → (IsSome r → ⊥) → [] ≡ trace n a r
      alone None off = sym (nothing n a).0
      alone (Some r) off = absurd (off refl)

-- lists in order
module _ {V : Type 0} where
  pub order_at : (nodes : Slots (Node V)) (xs : List ℕ) (s : ℕ) (ys : List ℕ) → InOrder nodes (xs ++ s ∷ ys) → (t : ℕ) → older_at nodes s ≡ Some t → times t ys ≡ 0
  order_at nodes [] s ys h = h.0
  order_at nodes (x ∷ xs) s ys h = order_at nodes xs s ys h.1

  pub order_same : (a b : Slots (Node V)) (xs : List ℕ) → ((x : ℕ) → 0 < times x xs → older_at b x ≡ older_at a x) → InOrder a xs → InOrder b xs
  order_same a b [] same h = tt
  order_same a b (x ∷ xs) same h =
      let here : one (nat_eq x x) ≡ 1 = seen_same x in
      (λ t is. h.0 t (sym (same x (omega arith)) ∙ is), order_same a b xs (λ y on. same y (omega arith)) h.1)

  -- with one version less
  pub order_less : (a b : Slots (Node V)) (xs : List ℕ) (s : ℕ) (ys : List ℕ) → ((x : ℕ) → 0 < times x (xs ++ ys) → older_at b x ≡ older_at a x) → InOrder a (xs ++ s ∷ ys) → InOrder b (xs ++ ys)
  order_less a b [] s ys same h = order_same a b ys same h.1
  order_less a b (x ∷ xs) s ys same h =
      let here : one (nat_eq x x) ≡ 1 = seen_same x in (
        λ t is.
            let none : times t (xs ++ s ∷ ys) ≡ 0 = h.0 t (sym (same x (omega arith)) ∙ is) in
            let more : times t (xs ++ s ∷ ys) ≡ times t xs + (one (nat_eq s t) + times t ys) = times_append t xs (s ∷ ys) in
            let less : times t (xs ++ ys) ≡ times t xs + times t ys = times_append t xs ys in
            omega arith,
        order_less a b xs s ys (λ y on. same y (omega arith)) h.1,
      )

  -- with one version more, which is behind none
  pub order_more : (a b : Slots (Node V)) (xs : List ℕ) (s : ℕ) → ((x : ℕ) → 0 < times x xs → (older_at b x ≡ older_at a x) × ((t : ℕ) → older_at a x ≡ Some t → s ≢ t)) → InOrder a xs → InOrder b (xs ++ s ∷ [])
  order_more a b [] s same h = (λ t is. refl, tt)
  order_more a b (x ∷ xs) s same h =
      let here : one (nat_eq x x) ≡ 1 = seen_same x in
      let it : (older_at b x ≡ older_at a x) × ((t : ℕ) → older_at a x ≡ Some t → s ≢ t) = same x (omega arith) in (
        λ t is.
            let was : older_at a x ≡ Some t = sym it.0 ∙ is in
            let none : times t xs ≡ 0 = h.0 t was in
            let other : one (nat_eq s t) ≡ 0 = seen_other s t (it.1 t was) in
            let more : times t (xs ++ s ∷ []) ≡ times t xs + (one (nat_eq s t) + 0) = times_append t xs (s ∷ []) in
            omega arith,
        order_more a b xs s (λ y on. same y (omega arith)) h.1,
      )
