-- A map whose entries are in order, after its own insert or a write through a reference, has the head put into it.
use Rattle.std.proofs.Common.{◌≡◌, ◌≢◌, eq-eqb, inl, inr, ℕ, true, false, cond, List, [], ◌∷◌, ◌++◌, Some, None, refl, sym, ap, ◌∙◌, subst, append_assoc}
use Rattle.std.proofs.lemmas.Bool.Decides.{eqb_tells}
use Rattle.std.specs.Prelude.{T, fold, nat_eq}
use Rattle.r3_chain.specs.Heads.{roomed}
use Rattle.r3_chain.specs.declared.head.Head.{Head}
use Rattle.std.specs.List.{AllByRecursion}
use Rattle.std.specs.List.Sorted.{IsStrictlySortedBy}
use Rattle.std.specs.Ordering.{is_lt, is_eq, eq_by_cmp, ordering_reverse, match_ordering}
use Rattle.std.specs.Cmp.{IsTotalOrder}
use Rattle.std.specs.Map.{keys_of, set_value, lookup}
use Rattle.std.specs.BTreeMap.{insert_entry, is_at}
use Rattle.std.specs.BTreeSet.{insert_key}
use Rattle.std.specs.declared.cmp.Ordering.{Ordering}
use Rattle.std.specs.declared.cmp.Ordering.TheVariants.{Less, Equal, Greater}
use Rattle.std.specs.FinMap.{find}
use Rattle.std.specs.FinMap.Entries.{put, by_order, is_sorted, below_all}
use Rattle.r3_chain.specs.VersionLaws.{both, first, second, not_found, lower_below}

module _ {K X : Type 0} (cmp : K → K → Ordering) where
  below_keys : (x : K) (es : List (K × X)) → AllByRecursion (λ y. cmp x y ≡ Less) (keys_of es) → T (below_all cmp x es)
  below_keys x [] h = tt
  below_keys x (e ∷ es) h = both _ _ (subst (λ r. T (is_lt r)) (sym h.0) tt) (below_keys x es h.1)

  pub sorted_entries : (es : List (K × X)) → IsStrictlySortedBy cmp (keys_of es) → T (is_sorted cmp es)
  unfolding IsStrictlySortedBy
  sorted_entries [] h = tt
  sorted_entries (e ∷ es) h = both _ _ (below_keys e.0 es h.0) (sorted_entries es h.1)

  pub found_is : (k : K) (es : List (K × X)) → lookup (is_at (cmp k)) es ≡ find cmp k es
  found_is k [] = refl
  found_is k (e ∷ es) = ap (cond (eq_by_cmp cmp k e.0) (Some e.1)) (found_is k es)

  pub insert_put : (k : K) (v : X) (es : List (K × X)) → insert_entry cmp es k v ≡ put cmp k v es
  insert_put k v [] = refl
  insert_put k v (e ∷ es) = elim (cmp k e.0) as (λ r. match_ordering r ((k, v) ∷ e ∷ es) ((e.0, v) ∷ es) (e ∷ insert_entry cmp es k v) ≡ by_order r ((k, v) ∷ e ∷ es) ((e.0, v) ∷ es) (e ∷ put cmp k v es)) [
    | Less ↦ refl
    | Equal ↦ refl
    | Greater ↦ ap (λ fs. e ∷ fs) (insert_put k v es)
  ]

  pub write_put : IsTotalOrder cmp → (k : K) (v w : X) (es : List (K × X)) → T (is_sorted cmp es) → find cmp k es ≡ Some w → set_value (is_at (cmp k)) es v ≡ put cmp k v es
  write_put o k v w [] h is = absurd cc
  write_put o k v w (e ∷ es) h is =
      elim (cmp k e.0) as (λ r. cmp k e.0 ≡ r → cond (is_eq r) (Some e.1) (find cmp k es) ≡ Some w
      → cond (is_eq r) ((e.0, v) ∷ es) (e ∷ set_value (is_at (cmp k)) es v) ≡ by_order r ((k, v) ∷ e ∷ es) ((e.0, v) ∷ es) (e ∷ put cmp k v es)) [
        | Less ↦ λ p s.
            let none : find cmp k es ≡ None = not_found cmp o k es (lower_below cmp o k e.0 es p (first _ _ h)) in
            let wrong : None ≡ Some w = sym none ∙ s in absurd cc
        | Equal ↦ λ p s. refl
        | Greater ↦ λ p s. ap (λ fs. e ∷ fs) (write_put o k v w es (second _ _ h) s)
      ] refl is

-- keys in order, inserted one by one, are that list
module _ {K : Type 0} (cmp : K → K → Ordering) (o : IsTotalOrder cmp) where
  insert_last : (x : K) (ks : List K) → AllByRecursion (λ y. cmp y x ≡ Less) ks → insert_key cmp ks x ≡ ks ++ x ∷ []
  insert_last x [] h = refl
  insert_last x (y ∷ ks) h =
      let past : cmp x y ≡ Greater = o.antisymm x y ∙ ap ordering_reverse h.0 in
      ap (λ r. match_ordering r (x ∷ y ∷ ks) (y ∷ ks) (y ∷ insert_key cmp ks x)) past ∙ ap (λ zs. y ∷ zs) (insert_last x ks h.1)

  last_of : (P : K → Type 0) (bs : List K) (x : K) (ks : List K) → AllByRecursion P (bs ++ x ∷ ks) → P x
  last_of P [] x ks h = h.0
  last_of P (a ∷ bs) x ks h = last_of P bs x ks h.1

  below_last : (bs : List K) (x : K) (ks : List K) → IsStrictlySortedBy cmp (bs ++ x ∷ ks) → AllByRecursion (λ y. cmp y x ≡ Less) bs
  unfolding IsStrictlySortedBy
  below_last [] x ks h = tt
  below_last (a ∷ bs) x ks h = (last_of (λ y. cmp a y ≡ Less) bs x ks h.0, below_last bs x ks h.1)

  pub inserted_again : (bs ks : List K) → IsStrictlySortedBy cmp (bs ++ ks) → fold (insert_key cmp) bs ks ≡ bs ++ ks
  inserted_again bs [] h = sym (append_nil bs)
    where
      append_nil : (xs : List K) → xs ++ [] ≡ xs
      append_nil [] = refl
      append_nil (x ∷ xs) = ap (λ ys. x ∷ ys) (append_nil xs)
  inserted_again bs (x ∷ ks) h =
      let step : insert_key cmp bs x ≡ bs ++ x ∷ [] = insert_last x bs (below_last bs x ks h) in
      let whole : (bs ++ x ∷ []) ++ ks ≡ bs ++ x ∷ ks = simp append_assoc in
      ap (λ zs. fold (insert_key cmp) zs ks) step ∙ inserted_again (bs ++ x ∷ []) ks (subst (IsStrictlySortedBy cmp) (sym whole) h) ∙ whole

-- a head that is given room
pub roomed_then : (h g : Head) (round next : ℕ) → h.round ≡ round → g ≡ record { newest = h.newest; round = h.round; before = round }
    → record { newest = g.newest; round = next; before = g.before } ≡ roomed round next (Some h)
roomed_then h g round next same is =
    let on : nat_eq h.round round ≡ true = eq-eqb h.round round same in
    ap (λ (x : Head). record { newest = x.newest; round = next; before = x.before }) is ∙ ap (λ b. record { newest = h.newest; round = next; before = cond b round h.before }) (sym on)

pub roomed_else : (h g : Head) (round next : ℕ) → h.round ≢ round → g ≡ h → record { newest = g.newest; round = next; before = g.before } ≡ roomed round next (Some h)
roomed_else h g round next other is =
    let off : nat_eq h.round round ≡ false = elim (eqb_tells h.round round) [ inl t ↦ absurd (other t.1) | inr t ↦ t.0 ] in
    ap (λ (x : Head). record { newest = x.newest; round = next; before = x.before }) is ∙ ap (λ b. record { newest = h.newest; round = next; before = cond b round h.before }) (sym off)
