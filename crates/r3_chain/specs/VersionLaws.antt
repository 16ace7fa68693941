-- Laws of versions. What stands as of an index, after an install and after a trim.
use Rattle.std.specs.Prelude.{◌≡◌, ℕ, ◌+◌, ◌≤◌, Bool, true, false, cond, ◌&&◌, nat_le, T, List, [], ◌∷◌, length, Option, Some, None, option_and_then, unwrap_or, refl}
use Rattle.std.proofs.Common.{sym, ap, ◌∙◌, subst, arith}
use Rattle.std.proofs.lemmas.Bool.Decides.{nat_tests}
use Rattle.std.specs.List.{AllByRecursion}
use Rattle.std.specs.Ordering.{is_lt, is_eq, eq_by_cmp}
use Rattle.std.specs.Cmp.{IsTotalOrder}
use Rattle.std.specs.declared.cmp.Ordering.{Ordering}
use Rattle.std.specs.declared.cmp.Ordering.TheVariants.{Less, Equal, Greater}
use Rattle.std.specs.FinMap.{find, IsAntisymmetric}
use Rattle.std.specs.FinMap.Entries.{put, by_order, is_sorted, below_all, is_sorted-put, find-put, find_tied, same_entries}
use Rattle.r3_chain.specs.Versions.{Version, Versions, versions_of, installed, last_upto, trimmed, trimmed_all, as_of, with_key, kept_count, first_past, AreFalling}

pub both : (a b : Bool) → T a → T b → T (a && b)
both true b p q = q
both false b p q = p

pub first : (a b : Bool) → T (a && b) → T a
first true b p = tt
first false b p = p

pub second : (a b : Bool) → T (a && b) → T b
second true b p = p
second false b p = absurd p

pub less_of : (r : Ordering) → T (is_lt r) → r ≡ Less
less_of Less p = refl
less_of Equal p = absurd p
less_of Greater p = absurd p

module _ {K X : Type 0} (cmp : K → K → Ordering) (o : IsTotalOrder cmp) where
  pub not_found : (q : K) (es : List (K × X)) → T (below_all cmp q es) → find cmp q es ≡ None
  not_found q [] h = refl
  not_found q (e ∷ es) h = ap (λ r. cond (is_eq r) (Some e.1) (find cmp q es)) (less_of _ (first _ _ h)) ∙ not_found q es (second _ _ h)

  pub tied_below : (q x : K) (es : List (K × X)) → cmp q x ≡ Equal → T (below_all cmp x es) → T (below_all cmp q es)
  tied_below q x [] p h = tt
  tied_below q x (e ∷ es) p h = both _ _ (subst (λ r. T (is_lt r)) (sym (o.congr q x e.0 p)) (first _ _ h)) (tied_below q x es p (second _ _ h))

  pub lower_below : (q x : K) (es : List (K × X)) → cmp q x ≡ Less → T (below_all cmp x es) → T (below_all cmp q es)
  lower_below q x [] p h = tt
  lower_below q x (e ∷ es) p h = both _ _ (subst (λ r. T (is_lt r)) (sym (o.trans q x e.0 p (less_of _ (first _ _ h)))) tt) (lower_below q x es p (second _ _ h))

module _ {K V : Type 0} (cmp : K → K → Ordering) where
  below_as_of : (k : ℕ) (x : K) (es : Versions K V) → T (below_all cmp x es) → T (below_all cmp x (as_of k es))
  below_as_of k x [] h = tt
  below_as_of k x (e ∷ es) h =
      let rest : T (below_all cmp x (as_of k es)) = below_as_of k x es (second _ _ h) in
      elim (last_upto k e.1) as (λ v. T (below_all cmp x (with_key e.0 v (as_of k es)))) [ None ↦ rest | Some v ↦ both _ _ (first _ _ h) rest ]

  pub sorted_as_of : (k : ℕ) (es : Versions K V) → T (is_sorted cmp es) → T (is_sorted cmp (as_of k es))
  sorted_as_of k [] h = tt
  sorted_as_of k (e ∷ es) h =
      let rest : T (is_sorted cmp (as_of k es)) = sorted_as_of k es (second _ _ h) in
      elim (last_upto k e.1) as (λ v. T (is_sorted cmp (with_key e.0 v (as_of k es)))) [ None ↦ rest | Some v ↦ both _ _ (below_as_of k e.0 es (first _ _ h)) rest ]

  module _ (o : IsTotalOrder cmp) where
    pub tied_versions : (q k : K) (es : Versions K V) → cmp q k ≡ Equal → versions_of cmp k es ≡ versions_of cmp q es
    tied_versions q k es e = ap (λ vs. unwrap_or vs []) (find_tied cmp o q k e es)

    pub versions_of-installed : (q k : K) (j : ℕ) (x : Option V) (es : Versions K V)
        → versions_of cmp q (installed cmp j k x es) ≡ cond (eq_by_cmp cmp q k) ((j, x) ∷ versions_of cmp q es) (versions_of cmp q es)
    versions_of-installed q k j x es =
        ap (λ vs. unwrap_or vs []) (find-put cmp o q k ((j, x) ∷ versions_of cmp k es) es)
        ∙ elim (cmp q k) as (λ r. cmp q k ≡ r → unwrap_or (cond (is_eq r) (Some ((j, x) ∷ versions_of cmp k es)) (find cmp q es)) [] ≡ cond (is_eq r) ((j, x) ∷ versions_of cmp q es) (versions_of cmp q es)) [
          | Less ↦ λ p. refl
          | Equal ↦ λ p. ap (λ vs. (j, x) ∷ vs) (tied_versions q k es p)
          | Greater ↦ λ p. refl
        ] refl

    pub sorted_installed : (j : ℕ) (k : K) (x : Option V) (es : Versions K V) → T (is_sorted cmp es) → T (is_sorted cmp (installed cmp j k x es))
    sorted_installed j k x es h = is_sorted-put cmp o k _ es h

    skipped : (q x : K) (v : Option (Version V)) (rest : List (K × Version V)) → eq_by_cmp cmp q x ≡ false → find cmp q (with_key x v rest) ≡ find cmp q rest
    skipped q x None rest p = refl
    skipped q x (Some w) rest p = ap (λ b. cond b (Some w) (find cmp q rest)) p

    met : (q x : K) (v : Option (Version V)) (rest : List (K × Version V)) → cmp q x ≡ Equal → find cmp q rest ≡ None → find cmp q (with_key x v rest) ≡ v
    met q x None rest p none = none
    met q x (Some w) rest p none = ap (λ r. cond (is_eq r) (Some w) (find cmp q rest)) p

    -- what a key stands at, among all that stand
    pub find-as_of : (k : ℕ) (q : K) (es : Versions K V) → T (is_sorted cmp es) → find cmp q (as_of k es) ≡ option_and_then (last_upto k) (find cmp q es)
    find-as_of k q [] h = refl
    find-as_of k q (e ∷ es) h =
        let rest : find cmp q (as_of k es) ≡ option_and_then (last_upto k) (find cmp q es) = find-as_of k q es (second _ _ h) in
        elim (cmp q e.0) as (λ r. cmp q e.0 ≡ r → find cmp q (with_key e.0 (last_upto k e.1) (as_of k es)) ≡ option_and_then (last_upto k) (cond (is_eq r) (Some e.1) (find cmp q es))) [
          | Less ↦ λ p. skipped q e.0 (last_upto k e.1) (as_of k es) (ap is_eq p) ∙ rest
          | Equal ↦ λ p. met q e.0 (last_upto k e.1) (as_of k es) p (not_found cmp o q (as_of k es) (tied_below cmp o q e.0 (as_of k es) p (below_as_of k e.0 es (first _ _ h))))
          | Greater ↦ λ p. skipped q e.0 (last_upto k e.1) (as_of k es) (ap is_eq p) ∙ rest
        ] refl

    pub of_found : (k : ℕ) (f : Option (List (Version V))) → last_upto k (unwrap_or f []) ≡ option_and_then (last_upto k) f
    of_found k None = refl
    of_found k (Some vs) = refl

    -- an install past the index changes nothing there, and another is the last write of its key
    pub as_of-installed : IsAntisymmetric cmp → (k j : ℕ) (key : K) (x : Option V) (es : Versions K V) → T (is_sorted cmp es)
        → as_of k (installed cmp j key x es) ≡ cond (nat_le j k) (put cmp key (j, x) (as_of k es)) (as_of k es)
    as_of-installed same k j key x es h =
        let vs : List (Version V) = versions_of cmp key es in
        let new : Versions K V = installed cmp j key x es in
        let sorted : T (is_sorted cmp new) = sorted_installed j key x es h in
        let here : (q : K) → find cmp q (as_of k new) ≡ option_and_then (last_upto k) (cond (eq_by_cmp cmp q key) (Some ((j, x) ∷ vs)) (find cmp q es)) =
        λ q. find-as_of k q new sorted ∙ ap (option_and_then (last_upto k)) (find-put cmp o q key ((j, x) ∷ vs) es) in
        elim (nat_le j k) as (λ b. nat_le j k ≡ b → as_of k new ≡ cond b (put cmp key (j, x) (as_of k es)) (as_of k es)) [
          | true ↦ λ within. same_entries cmp o same (as_of k new) (put cmp key (j, x) (as_of k es)) (sorted_as_of k new sorted) (is_sorted-put cmp o key (j, x) (as_of k es) (sorted_as_of k es h))
              (λ q. here q ∙ seen q within ∙ sym (find-put cmp o q key (j, x) (as_of k es)))
          | false ↦ λ past. same_entries cmp o same (as_of k new) (as_of k es) (sorted_as_of k new sorted) (sorted_as_of k es h)
              (λ q. here q ∙ unseen q past ∙ sym (find-as_of k q es h))
        ] refl
      where
        seen : (q : K) → nat_le j k ≡ true → option_and_then (last_upto k) (cond (eq_by_cmp cmp q key) (Some ((j, x) ∷ versions_of cmp key es)) (find cmp q es)) ≡ cond (eq_by_cmp cmp q key) (Some (j, x)) (find cmp q (as_of k es))
        seen q within = elim (eq_by_cmp cmp q key) as (λ b. option_and_then (last_upto k) (cond b (Some ((j, x) ∷ versions_of cmp key es)) (find cmp q es)) ≡ cond b (Some (j, x)) (find cmp q (as_of k es))) [
          | true ↦ ap (λ b. cond b (Some (j, x)) (last_upto k (versions_of cmp key es))) within
          | false ↦ sym (find-as_of k q es h)
        ]

        unseen : (q : K) → nat_le j k ≡ false → option_and_then (last_upto k) (cond (eq_by_cmp cmp q key) (Some ((j, x) ∷ versions_of cmp key es)) (find cmp q es)) ≡ option_and_then (last_upto k) (find cmp q es)
        unseen q past = elim (cmp q key) as (λ r. cmp q key ≡ r → option_and_then (last_upto k) (cond (is_eq r) (Some ((j, x) ∷ versions_of cmp key es)) (find cmp q es)) ≡ option_and_then (last_upto k) (find cmp q es)) [
          | Less ↦ λ p. refl
          | Equal ↦ λ p. ap (λ b. cond b (Some (j, x)) (last_upto k (versions_of cmp key es))) past ∙ ap (last_upto k) (tied_versions q key es p) ∙ of_found k (find cmp q es)
          | Greater ↦ λ p. refl
        ] refl

    -- one more version is kept
    pub kept_count-installed : (j : ℕ) (k : K) (x : Option V) (es : Versions K V) → T (is_sorted cmp es) → kept_count (installed cmp j k x es) ≡ kept_count es + 1
    kept_count-installed j k x [] h = refl
    kept_count-installed j k x (e ∷ es) h =
        elim (cmp k e.0) as (λ r. cmp k e.0 ≡ r → kept_count (by_order r ((k, (j, x) ∷ unwrap_or (cond (is_eq r) (Some e.1) (find cmp k es)) []) ∷ e ∷ es) ((e.0, (j, x) ∷ unwrap_or (cond (is_eq r) (Some e.1) (find cmp k es)) []) ∷ es) (e ∷ put cmp k ((j, x) ∷ unwrap_or (cond (is_eq r) (Some e.1) (find cmp k es)) []) es)) ≡ kept_count (e ∷ es) + 1) [
          | Less ↦ λ p. let none : find cmp k es ≡ None = not_found cmp o k es (lower_below cmp o k e.0 es p (first _ _ h)) in
              let zero : length (unwrap_or (find cmp k es) []) ≡ 0 = ap (λ vs. length (unwrap_or vs [])) none in omega arith
          | Equal ↦ λ p. omega arith
          | Greater ↦ λ p. omega (arith, kept_count-installed j k x es (second _ _ h))
        ] refl

module _ {V : Type 0} where
  pub last_upto-trimmed : (oldest k : ℕ) (vs : List (Version V)) → oldest ≤ k → last_upto k (trimmed oldest vs) ≡ last_upto k vs
  last_upto-trimmed oldest k [] le = refl
  last_upto-trimmed oldest k (v ∷ vs) le =
      elim (nat_le v.0 oldest) as (λ b. nat_le v.0 oldest ≡ b → last_upto k (cond b (v ∷ []) (v ∷ trimmed oldest vs)) ≡ cond (nat_le v.0 k) (Some v) (last_upto k vs)) [
        | true ↦ λ p. let within : nat_le v.0 k ≡ true = grind (arith, nat_tests) in rw within refl
        | false ↦ λ p. ap (cond (nat_le v.0 k) (Some v)) (last_upto-trimmed oldest k vs le)
      ] refl

  pub none_past : (snap top : ℕ) (vs : List (Version V)) → top ≤ snap → AllByRecursion (λ w. w.0 ≤ top) vs → first_past snap vs ≡ None
  none_past snap top [] le h = refl
  none_past snap top (v ∷ vs) le h =
      let within : nat_le v.0 snap ≡ true = let below : v.0 ≤ top = h.0 in grind (arith, nat_tests) in
      rw within (none_past snap top vs le h.1)

  pub first_past-trimmed : (oldest snap : ℕ) (vs : List (Version V)) → oldest ≤ snap → AreFalling vs → first_past snap (trimmed oldest vs) ≡ first_past snap vs
  first_past-trimmed oldest snap [] le h = refl
  first_past-trimmed oldest snap (v ∷ vs) le h =
      elim (nat_le v.0 oldest) as (λ b. nat_le v.0 oldest ≡ b → first_past snap (cond b (v ∷ []) (v ∷ trimmed oldest vs)) ≡ first_past snap (v ∷ vs)) [
        | true ↦ λ p. let within : nat_le v.0 snap ≡ true = grind (arith, nat_tests) in
            let small : v.0 ≤ snap = grind (arith, nat_tests) in
            rw within (sym (none_past snap v.0 vs small h.0))
        | false ↦ λ p. ap (λ f. cond (nat_le v.0 snap) f (Some (unwrap_or f v.0))) (first_past-trimmed oldest snap vs le h.1)
      ] refl

module _ {K V : Type 0} where
  -- a trim keeps what stands as of each index from it on
  pub as_of-trimmed : (oldest k : ℕ) (es : Versions K V) → oldest ≤ k → as_of k (trimmed_all oldest es) ≡ as_of k es
  as_of-trimmed oldest k [] le = refl
  as_of-trimmed oldest k (e ∷ es) le =
      ap (λ v. with_key e.0 v (as_of k (trimmed_all oldest es))) (last_upto-trimmed oldest k e.1 le)
      ∙ ap (with_key e.0 (last_upto k e.1)) (as_of-trimmed oldest k es le)

  module _ (cmp : K → K → Ordering) where
    below_trimmed : (oldest : ℕ) (x : K) (es : Versions K V) → T (below_all cmp x es) → T (below_all cmp x (trimmed_all oldest es))
    below_trimmed oldest x [] h = tt
    below_trimmed oldest x (e ∷ es) h = both _ _ (first _ _ h) (below_trimmed oldest x es (second _ _ h))

    pub sorted_trimmed : (oldest : ℕ) (es : Versions K V) → T (is_sorted cmp es) → T (is_sorted cmp (trimmed_all oldest es))
    sorted_trimmed oldest [] h = tt
    sorted_trimmed oldest (e ∷ es) h = both _ _ (below_trimmed oldest e.0 es (first _ _ h)) (sorted_trimmed oldest es (second _ _ h))

    pub versions_of-trimmed : (oldest : ℕ) (q : K) (es : Versions K V) → versions_of cmp q (trimmed_all oldest es) ≡ trimmed oldest (versions_of cmp q es)
    versions_of-trimmed oldest q [] = refl
    versions_of-trimmed oldest q (e ∷ es) =
        elim (eq_by_cmp cmp q e.0) as (λ b. unwrap_or (cond b (Some (trimmed oldest e.1)) (find cmp q (trimmed_all oldest es))) [] ≡ trimmed oldest (unwrap_or (cond b (Some e.1) (find cmp q es)) [])) [
          | true ↦ refl
          | false ↦ versions_of-trimmed oldest q es
        ]

module _ {V : Type 0} where
  pub all_trimmed : (n oldest : ℕ) (vs : List (Version V)) → AllByRecursion (λ v. v.0 ≤ n) vs → AllByRecursion (λ v. v.0 ≤ n) (trimmed oldest vs)
  all_trimmed n oldest [] h = tt
  all_trimmed n oldest (v ∷ vs) h =
      elim (nat_le v.0 oldest) as (λ b. AllByRecursion (λ w. w.0 ≤ n) (cond b (v ∷ []) (v ∷ trimmed oldest vs))) [ true ↦ (h.0, tt) | false ↦ (h.0, all_trimmed n oldest vs h.1) ]

  pub falling_trimmed : (oldest : ℕ) (vs : List (Version V)) → AreFalling vs → AreFalling (trimmed oldest vs)
  falling_trimmed oldest [] h = tt
  falling_trimmed oldest (v ∷ vs) h =
      elim (nat_le v.0 oldest) as (λ b. AreFalling (cond b (v ∷ []) (v ∷ trimmed oldest vs))) [ true ↦ (tt, tt) | false ↦ (all_trimmed v.0 oldest vs h.0, falling_trimmed oldest vs h.1) ]
