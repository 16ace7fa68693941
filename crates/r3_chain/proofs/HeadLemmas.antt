-- What a map of heads keeps, after a head is put into it.
use Rattle.std.proofs.Common.{◌≡◌, ℕ, ◌+◌, Bool, true, false, cond, List, [], ◌∷◌, Option, Some, None, refl, sym, ap, ◌∙◌, subst, arith}
use Rattle.std.specs.Prelude.{T}
use Rattle.std.specs.List.{AllByRecursion}
use Rattle.std.specs.Ordering.{is_lt, is_eq, eq_by_cmp}
use Rattle.std.specs.Cmp.{IsTotalOrder}
use Rattle.std.specs.BTreeSet.{insert_key}
use Rattle.std.specs.declared.cmp.Ordering.{Ordering}
use Rattle.std.specs.declared.cmp.Ordering.TheVariants.{Less, Equal, Greater}
use Rattle.std.specs.FinMap.{find, IsAntisymmetric}
use Rattle.std.specs.FinMap.Entries.{put, by_order, is_sorted, below_all}
use Rattle.r3_chain.specs.Versions.{Version, Versions, versions_of, has_room, without}
use Rattle.r3_chain.specs.VersionLaws.{both, first, second, less_of, not_found, tied_below, lower_below}
use Rattle.r3_chain.specs.Heads.{newest_in, has_round, is_marked, room_in, with_versions, kept_by}
use Rattle.r3_chain.specs.Sound.{total}
use Rattle.r3_chain.specs.declared.head.Head.{Head}

module _ {K V : Type 0} (cmp : K → K → Ordering) (o : IsTotalOrder cmp) (f : Option ℕ → List (Version V)) (f_none : f None ≡ []) where
  abbrev pub chain_of : Option Head → List (Version V)
  chain_of h = f (newest_in h)

  below_kept : (x : K) (es : List (K × Head)) → T (below_all cmp x es) → T (below_all cmp x (kept_by f es))
  below_kept x [] h = tt
  below_kept x (e ∷ es) h =
      let rest : T (below_all cmp x (kept_by f es)) = below_kept x es (second _ _ h) in
      elim (f e.1.newest) as (λ vs. T (below_all cmp x (with_versions e.0 vs (kept_by f es)))) [ [] ↦ rest | v ∷ vs ↦ both _ _ (first _ _ h) rest ]

  pub sorted_kept : (es : List (K × Head)) → T (is_sorted cmp es) → T (is_sorted cmp (kept_by f es))
  sorted_kept [] h = tt
  sorted_kept (e ∷ es) h =
      let rest : T (is_sorted cmp (kept_by f es)) = sorted_kept es (second _ _ h) in
      elim (f e.1.newest) as (λ vs. T (is_sorted cmp (with_versions e.0 vs (kept_by f es)))) [ [] ↦ rest | v ∷ vs ↦ both _ _ (below_kept e.0 es (first _ _ h)) rest ]

  none_of : (q : K) (es : List (K × Head)) → T (below_all cmp q es) → versions_of cmp q (kept_by f es) ≡ []
  none_of q es h = versions_none (not_found cmp o q (kept_by f es) (below_kept q es h))
    where
      versions_none : find cmp q (kept_by f es) ≡ None → versions_of cmp q (kept_by f es) ≡ []
      versions_none e = rw e refl

  past_it : (q x : K) (vs : List (Version V)) (rest : Versions K V) → eq_by_cmp cmp q x ≡ false → versions_of cmp q (with_versions x vs rest) ≡ versions_of cmp q rest
  past_it q x [] rest p = refl
  past_it q x (v ∷ vs) rest p = rw p refl

  at_it : (q x : K) (vs : List (Version V)) (rest : Versions K V) → cmp q x ≡ Equal → versions_of cmp q rest ≡ [] → versions_of cmp q (with_versions x vs rest) ≡ vs
  at_it q x [] rest p none = none
  at_it q x (v ∷ vs) rest p none = rw p refl

  -- a key's versions are those of its head
  pub kept_versions : (q : K) (es : List (K × Head)) → T (is_sorted cmp es) → versions_of cmp q (kept_by f es) ≡ chain_of (find cmp q es)
  kept_versions q [] h = sym f_none
  kept_versions q (e ∷ es) h =
      let rest : versions_of cmp q (kept_by f es) ≡ chain_of (find cmp q es) = kept_versions q es (second _ _ h) in
      elim (cmp q e.0) as (λ r. cmp q e.0 ≡ r → versions_of cmp q (with_versions e.0 (f e.1.newest) (kept_by f es)) ≡ chain_of (cond (is_eq r) (Some e.1) (find cmp q es))) [
        | Less ↦ λ p. past_it q e.0 (f e.1.newest) (kept_by f es) (ap is_eq p) ∙ rest
        | Equal ↦ λ p. at_it q e.0 (f e.1.newest) (kept_by f es) p (none_of q es (tied_below cmp o q e.0 es p (first _ _ h)))
        | Greater ↦ λ p. past_it q e.0 (f e.1.newest) (kept_by f es) (ap is_eq p) ∙ rest
      ] refl

  -- a head with the same chain
  pub kept_same : (k : K) (v : Head) (es : List (K × Head)) → T (is_sorted cmp es) → f v.newest ≡ chain_of (find cmp k es) → kept_by f (put cmp k v es) ≡ kept_by f es
  kept_same k v [] h same = ap (λ vs. with_versions k vs []) (same ∙ f_none)
  kept_same k v (e ∷ es) h same =
      elim (cmp k e.0) as (λ r. cmp k e.0 ≡ r → f v.newest ≡ chain_of (cond (is_eq r) (Some e.1) (find cmp k es))
      → kept_by f (by_order r ((k, v) ∷ e ∷ es) ((e.0, v) ∷ es) (e ∷ put cmp k v es)) ≡ kept_by f (e ∷ es)) [
        | Less ↦ λ p s.
            let none : find cmp k es ≡ None = not_found cmp o k es (lower_below cmp o k e.0 es p (first _ _ h)) in
            ap (λ vs. with_versions k vs (kept_by f (e ∷ es))) (s ∙ ap chain_of none ∙ f_none)
        | Equal ↦ λ p s. ap (λ vs. with_versions e.0 vs (kept_by f es)) s
        | Greater ↦ λ p s. ap (with_versions e.0 (f e.1.newest)) (kept_same k v es (second _ _ h) s)
      ] refl same

  put_front : (k : K) (vs : List (Version V)) (es : Versions K V) → T (below_all cmp k es) → put cmp k vs es ≡ (k, vs) ∷ es
  put_front k vs [] h = refl
  put_front k vs (e ∷ es) h = ap (λ r. by_order r ((k, vs) ∷ e ∷ es) ((e.0, vs) ∷ es) (e ∷ put cmp k vs es)) (less_of _ (first _ _ h))

  put_tied : IsAntisymmetric cmp → (k x : K) (vs : List (Version V)) (old : List (Version V)) (rest : Versions K V) → cmp k x ≡ Equal → T (below_all cmp k rest)
      → (x, vs) ∷ rest ≡ put cmp k vs (with_versions x old rest)
  put_tied same k x vs [] rest p h = ap (λ y. (y, vs) ∷ rest) (sym (same k x p)) ∙ sym (put_front k vs rest h)
  put_tied same k x vs (v ∷ old) rest p h = sym (ap (λ r. by_order r ((k, vs) ∷ (x, v ∷ old) ∷ rest) ((x, vs) ∷ rest) ((x, v ∷ old) ∷ put cmp k vs rest)) p)

  put_later : (k x : K) (vs old : List (Version V)) (rest : Versions K V) → cmp k x ≡ Greater → with_versions x old (put cmp k vs rest) ≡ put cmp k vs (with_versions x old rest)
  put_later k x vs [] rest p = refl
  put_later k x vs (v ∷ old) rest p = sym (ap (λ r. by_order r ((k, vs) ∷ (x, v ∷ old) ∷ rest) ((x, vs) ∷ rest) ((x, v ∷ old) ∷ put cmp k vs rest)) p)

  with_some : (k : K) (vs : List (Version V)) (w : Version V) (ws : List (Version V)) (rest : Versions K V) → vs ≡ w ∷ ws → with_versions k vs rest ≡ (k, vs) ∷ rest
  with_some k vs w ws rest e = rw e refl

  -- a head with a chain that isn't empty
  pub kept_put : IsAntisymmetric cmp → (k : K) (v : Head) (w : Version V) (ws : List (Version V)) (es : List (K × Head)) → T (is_sorted cmp es) → f v.newest ≡ w ∷ ws
      → kept_by f (put cmp k v es) ≡ put cmp k (f v.newest) (kept_by f es)
  kept_put same k v w ws [] h is = with_some k (f v.newest) w ws [] is
  kept_put same k v w ws (e ∷ es) h is =
      elim (cmp k e.0) as (λ r. cmp k e.0 ≡ r → kept_by f (by_order r ((k, v) ∷ e ∷ es) ((e.0, v) ∷ es) (e ∷ put cmp k v es)) ≡ put cmp k (f v.newest) (kept_by f (e ∷ es))) [
        | Less ↦ λ p. with_some k (f v.newest) w ws (kept_by f (e ∷ es)) is
            ∙ sym (put_front k (f v.newest) (kept_by f (e ∷ es)) (below_kept k (e ∷ es) (both _ _ (subst (λ r. T (is_lt r)) (sym p) tt) (lower_below cmp o k e.0 es p (first _ _ h)))))
        | Equal ↦ λ p. with_some e.0 (f v.newest) w ws (kept_by f es) is
            ∙ put_tied same k e.0 (f v.newest) (f e.1.newest) (kept_by f es) p (below_kept k es (tied_below cmp o k e.0 es p (first _ _ h)))
        | Greater ↦ λ p. ap (with_versions e.0 (f e.1.newest)) (kept_put same k v w ws es (second _ _ h) is) ∙ put_later k e.0 (f v.newest) (f e.1.newest) (kept_by f es) p
      ] refl

-- heads whose chains are the same
pub kept_alike : {K V : Type 0} (f g : Option ℕ → List (Version V)) (es : List (K × Head)) → AllByRecursion (λ e. g e.1.newest ≡ f e.1.newest) es → kept_by g es ≡ kept_by f es
kept_alike f g [] h = refl
kept_alike f g (e ∷ es) h = ap (λ vs. with_versions e.0 vs (kept_by g es)) h.0 ∙ ap (with_versions e.0 (f e.1.newest)) (kept_alike f g es h.1)

module _ {K : Type 0} (cmp : K → K → Ordering) (o : IsTotalOrder cmp) (r : ℕ) where
  no_room : (q : K) (es : List (K × Head)) → T (below_all cmp q es) → has_room cmp q (room_in r es) ≡ false
  no_room q [] h = refl
  no_room q (e ∷ es) h =
      let rest : has_room cmp q (room_in r es) ≡ false = no_room q es (second _ _ h) in
      let apart : eq_by_cmp cmp q e.0 ≡ false = ap is_eq (less_of _ (first _ _ h)) in
      elim (has_round r e.1) as (λ b. has_room cmp q (cond b (e.0 ∷ room_in r es) (room_in r es)) ≡ false) [ true ↦ rw apart rest | false ↦ rest ]

  skip : (q : K) (e : K × Head) (es : List (K × Head)) → eq_by_cmp cmp q e.0 ≡ false → has_room cmp q (room_in r es) ≡ is_marked r (find cmp q es)
      → has_room cmp q (room_in r (e ∷ es)) ≡ is_marked r (find cmp q es)
  skip q e es p rest = elim (has_round r e.1) as (λ b. has_room cmp q (cond b (e.0 ∷ room_in r es) (room_in r es)) ≡ is_marked r (find cmp q es)) [ true ↦ rw p rest | false ↦ rest ]

  met : (q : K) (e : K × Head) (es : List (K × Head)) → eq_by_cmp cmp q e.0 ≡ true → has_room cmp q (room_in r es) ≡ false → has_room cmp q (room_in r (e ∷ es)) ≡ has_round r e.1
  met q e es p none = elim (has_round r e.1) as (λ b. has_room cmp q (cond b (e.0 ∷ room_in r es) (room_in r es)) ≡ b) [ true ↦ rw p refl | false ↦ none ]

  -- a key has room where its head is marked
  pub room_is : (q : K) (es : List (K × Head)) → T (is_sorted cmp es) → has_room cmp q (room_in r es) ≡ is_marked r (find cmp q es)
  room_is q [] h = refl
  room_is q (e ∷ es) h =
      let rest : has_room cmp q (room_in r es) ≡ is_marked r (find cmp q es) = room_is q es (second _ _ h) in
      elim (cmp q e.0) as (λ c. cmp q e.0 ≡ c → has_room cmp q (room_in r (e ∷ es)) ≡ is_marked r (cond (is_eq c) (Some e.1) (find cmp q es))) [
        | Less ↦ λ p. skip q e es (ap is_eq p) rest
        | Equal ↦ λ p. met q e es (ap is_eq p) (no_room q es (tied_below cmp o q e.0 es p (first _ _ h)))
        | Greater ↦ λ p. skip q e es (ap is_eq p) rest
      ] refl

  -- a head with the same mark
  pub room_same : (k : K) (v : Head) (es : List (K × Head)) → T (is_sorted cmp es) → has_round r v ≡ is_marked r (find cmp k es) → room_in r (put cmp k v es) ≡ room_in r es
  room_same k v [] h same = ap (λ b. cond b (k ∷ []) []) same
  room_same k v (e ∷ es) h same =
      elim (cmp k e.0) as (λ c. cmp k e.0 ≡ c → has_round r v ≡ is_marked r (cond (is_eq c) (Some e.1) (find cmp k es))
      → room_in r (by_order c ((k, v) ∷ e ∷ es) ((e.0, v) ∷ es) (e ∷ put cmp k v es)) ≡ room_in r (e ∷ es)) [
        | Less ↦ λ p s.
            let none : find cmp k es ≡ None = not_found cmp o k es (lower_below cmp o k e.0 es p (first _ _ h)) in
            ap (λ b. cond b (k ∷ room_in r (e ∷ es)) (room_in r (e ∷ es))) (s ∙ ap (is_marked r) none)
        | Equal ↦ λ p s. ap (λ b. cond b (e.0 ∷ room_in r es) (room_in r es)) s
        | Greater ↦ λ p s. ap (λ ks. cond (has_round r e.1) (e.0 ∷ ks) ks) (room_same k v es (second _ _ h) s)
      ] refl same

  -- a head that loses its mark
  pub room_less : (k : K) (v : Head) (es : List (K × Head)) → T (is_sorted cmp es) → has_round r v ≡ false → is_marked r (find cmp k es) ≡ true
      → room_in r (put cmp k v es) ≡ without cmp k (room_in r es)
  room_less k v [] h off had = absurd cc
  room_less k v (e ∷ es) h off had =
      elim (cmp k e.0) as (λ c. cmp k e.0 ≡ c → is_marked r (cond (is_eq c) (Some e.1) (find cmp k es)) ≡ true
      → room_in r (by_order c ((k, v) ∷ e ∷ es) ((e.0, v) ∷ es) (e ∷ put cmp k v es)) ≡ without cmp k (room_in r (e ∷ es))) [
        | Less ↦ λ p s.
            let none : find cmp k es ≡ None = not_found cmp o k es (lower_below cmp o k e.0 es p (first _ _ h)) in
            let wrong : false ≡ true = sym (ap (is_marked r) none) ∙ s in absurd cc
        | Equal ↦ λ p s. rw (off, s) (gone (ap is_eq p))
        | Greater ↦ λ p s. ap (λ ks. cond (has_round r e.1) (e.0 ∷ ks) ks) (room_less k v es (second _ _ h) off s) ∙ later (ap is_eq p)
      ] refl had
    where
      gone : eq_by_cmp cmp k e.0 ≡ true → room_in r es ≡ without cmp k (e.0 ∷ room_in r es)
      gone p = rw p refl

      later : eq_by_cmp cmp k e.0 ≡ false → cond (has_round r e.1) (e.0 ∷ without cmp k (room_in r es)) (without cmp k (room_in r es)) ≡ without cmp k (room_in r (e ∷ es))
      later p = elim (has_round r e.1) as (λ b. cond b (e.0 ∷ without cmp k (room_in r es)) (without cmp k (room_in r es)) ≡ without cmp k (cond b (e.0 ∷ room_in r es) (room_in r es))) [ true ↦ rw p refl | false ↦ refl ]

  keep_first : (k : K) (x : K) (b : Bool) (ks : List K) → cmp k x ≡ Greater → cond b (x ∷ insert_key cmp ks k) (insert_key cmp ks k) ≡ insert_key cmp (cond b (x ∷ ks) ks) k
  keep_first k x true ks p = rw p refl
  keep_first k x false ks p = refl

  insert_front : (k : K) (es : List (K × Head)) → T (below_all cmp k es) → insert_key cmp (room_in r es) k ≡ k ∷ room_in r es
  insert_front k [] h = refl
  insert_front k (e ∷ es) h =
      let less : cmp k e.0 ≡ Less = less_of _ (first _ _ h) in
      let rest : insert_key cmp (room_in r es) k ≡ k ∷ room_in r es = insert_front k es (second _ _ h) in
      elim (has_round r e.1) as (λ b. insert_key cmp (cond b (e.0 ∷ room_in r es) (room_in r es)) k ≡ k ∷ cond b (e.0 ∷ room_in r es) (room_in r es)) [ true ↦ rw less refl | false ↦ rest ]

  insert_tied : IsAntisymmetric cmp → (k x : K) (b : Bool) (ks : List K) → cmp k x ≡ Equal → insert_key cmp ks k ≡ k ∷ ks → x ∷ ks ≡ insert_key cmp (cond b (x ∷ ks) ks) k
  insert_tied same k x true ks p front = rw p refl
  insert_tied same k x false ks p front = ap (λ y. y ∷ ks) (sym (same k x p)) ∙ sym front

  -- a head that is marked
  pub room_more : IsAntisymmetric cmp → (k : K) (v : Head) (es : List (K × Head)) → T (is_sorted cmp es) → has_round r v ≡ true → room_in r (put cmp k v es) ≡ insert_key cmp (room_in r es) k
  room_more same k v [] h on = rw on refl
  room_more same k v (e ∷ es) h on =
      elim (cmp k e.0) as (λ c. cmp k e.0 ≡ c → room_in r (by_order c ((k, v) ∷ e ∷ es) ((e.0, v) ∷ es) (e ∷ put cmp k v es)) ≡ insert_key cmp (room_in r (e ∷ es)) k) [
        | Less ↦ λ p. ap (λ b. cond b (k ∷ room_in r (e ∷ es)) (room_in r (e ∷ es))) on
            ∙ sym (insert_front k (e ∷ es) (both _ _ (subst (λ c. T (is_lt c)) (sym p) tt) (lower_below cmp o k e.0 es p (first _ _ h))))
        | Equal ↦ λ p. ap (λ b. cond b (e.0 ∷ room_in r es) (room_in r es)) on
            ∙ insert_tied same k e.0 (has_round r e.1) (room_in r es) p (insert_front k es (tied_below cmp o k e.0 es p (first _ _ h)))
        | Greater ↦ λ p. ap (λ ks. cond (has_round r e.1) (e.0 ∷ ks) ks) (room_more same k v es (second _ _ h) on) ∙ keep_first k e.0 (has_round r e.1) (room_in r es) p
      ] refl

pub all_map : {A : Type 0} (P Q : A → Type 0) → ((x : A) → P x → Q x) → (xs : List A) → AllByRecursion P xs → AllByRecursion Q xs
all_map P Q step [] h = tt
all_map P Q step (x ∷ xs) h = (step x h.0, all_map P Q step xs h.1)

pub total_alike : {K : Type 0} (f g : Head → ℕ) (es : List (K × Head)) → AllByRecursion (λ e. g e.1 ≡ f e.1) es → total g es ≡ total f es
total_alike f g [] h = refl
total_alike f g (e ∷ es) h =
    let rest : total g es ≡ total f es = total_alike f g es h.1 in
    let here : g e.1 ≡ f e.1 = h.0 in omega arith

module _ {K : Type 0} (cmp : K → K → Ordering) where
  pub all_put : (P : Head → Type 0) (k : K) (v : Head) (es : List (K × Head)) → P v → AllByRecursion (λ e. P e.1) es → AllByRecursion (λ e. P e.1) (put cmp k v es)
  all_put P k v [] pv h = (pv, tt)
  all_put P k v (e ∷ es) pv h =
      elim (cmp k e.0) as (λ r. AllByRecursion (λ x. P x.1) (by_order r ((k, v) ∷ e ∷ es) ((e.0, v) ∷ es) (e ∷ put cmp k v es))) [
        | Less ↦ (pv, h)
        | Equal ↦ (pv, h.1)
        | Greater ↦ (h.0, all_put P k v es pv h.1)
      ]

  pub all_found : (P : Head → Type 0) (q : K) (es : List (K × Head)) (v : Head) → AllByRecursion (λ e. P e.1) es → find cmp q es ≡ Some v → P v
  all_found P q [] v h is = absurd cc
  all_found P q (e ∷ es) v h is =
      elim (eq_by_cmp cmp q e.0) as (λ b. cond b (Some e.1) (find cmp q es) ≡ Some v → P v) [
        | true ↦ λ s. let same : e.1 ≡ v = cc in subst P same h.0
        | false ↦ λ s. all_found P q es v h.1 s
      ] is

  -- the sum with one head replaced
  pub total_put : IsTotalOrder cmp → (weight : Head → ℕ) (k : K) (v w : Head) (es : List (K × Head)) → T (is_sorted cmp es) → find cmp k es ≡ Some w
      → total weight (put cmp k v es) + weight w ≡ total weight es + weight v
  total_put o weight k v w [] h is = absurd cc
  total_put o weight k v w (e ∷ es) h is =
      elim (cmp k e.0) as (λ r. cmp k e.0 ≡ r → cond (is_eq r) (Some e.1) (find cmp k es) ≡ Some w
      → total weight (by_order r ((k, v) ∷ e ∷ es) ((e.0, v) ∷ es) (e ∷ put cmp k v es)) + weight w ≡ total weight (e ∷ es) + weight v) [
        | Less ↦ λ p s.
            let none : find cmp k es ≡ None = not_found cmp o k es (lower_below cmp o k e.0 es p (first _ _ h)) in
            let wrong : None ≡ Some w = sym none ∙ s in absurd cc
        | Equal ↦ λ p s. let same : e.1 ≡ w = cc in let heavy : weight e.1 ≡ weight w = ap weight same in omega arith
        | Greater ↦ λ p s. let rest : total weight (put cmp k v es) + weight w ≡ total weight es + weight v = total_put o weight k v w es (second _ _ h) s in omega arith
      ] refl is

  -- and with one head more
  pub total_added : IsTotalOrder cmp → (weight : Head → ℕ) (k : K) (v : Head) (es : List (K × Head)) → T (is_sorted cmp es) → find cmp k es ≡ None
      → total weight (put cmp k v es) ≡ total weight es + weight v
  total_added o weight k v [] h is = omega arith
  total_added o weight k v (e ∷ es) h is =
      elim (cmp k e.0) as (λ r. cond (is_eq r) (Some e.1) (find cmp k es) ≡ None
      → total weight (by_order r ((k, v) ∷ e ∷ es) ((e.0, v) ∷ es) (e ∷ put cmp k v es)) ≡ total weight (e ∷ es) + weight v) [
        | Less ↦ λ s. omega arith
        | Equal ↦ λ s. absurd cc
        | Greater ↦ λ s. let rest : total weight (put cmp k v es) ≡ total weight es + weight v = total_added o weight k v es (second _ _ h) s in omega arith
      ] is
