-- The keys of a range that have a value, found head by head.
use Rattle.std.proofs.Common.{◌≡◌, ℕ, Bool, true, false, cond, not, ◌&&◌, List, [], ◌∷◌, ◌++◌, map, Option, Some, None, refl, sym, ap, ◌∙◌, append_assoc, subst, zero, suc}
use Rattle.std.specs.Prelude.{filter, slice_get, ◌==◌}
use Rattle.std.specs.List.{AllByRecursion}
use Rattle.std.specs.Option.{option_map}
use Rattle.std.specs.Ordering.{is_le, is_gt, ordering_reverse, ordering_index}
use Rattle.std.specs.Cmp.{IsTotalOrder}
use Rattle.std.specs.BTreeMap.Range.{range_contains}
use Rattle.std.specs.declared.ops.Bound.TheVariants.{Included, Excluded}
use Rattle.std.specs.declared.cmp.Ordering.{Ordering}
use Rattle.std.specs.declared.cmp.Ordering.TheVariants.{Less, Equal, Greater}
use Rattle.r3_chain.specs.Versions.{Version, Versions, last_upto, present, as_of, with_key, present_keys, range_at}
use Rattle.r3_chain.specs.Heads.{with_versions, kept_by}
use Rattle.r3_chain.specs.declared.head.Head.{Head}

pub nothing_after : {A : Type 0} (xs : List A) → xs ++ [] ≡ xs
nothing_after [] = refl
nothing_after (x ∷ xs) = ap (λ ys. x ∷ ys) (nothing_after xs)

module _ {K V : Type 0} (f : Option ℕ → List (Version V)) (index : ℕ) where
  -- the key with its version, where it has a value
  abbrev pub item : K → Option (V × ℕ) → List (K × ℕ)
  item key None = []
  item key (Some p) = (key, p.1) ∷ []

  abbrev pub item_of : K × Head → List (K × ℕ)
  item_of e = item e.0 (present (last_upto index (f e.1.newest)))

  -- what the heads give
  abbrev pub given : List (K × Head) → List (K × ℕ)
  given es = present_keys (as_of index (kept_by f es))

  one_key : (k : K) (v : Option (Version V)) (rest : List (K × Version V)) → present_keys (with_key k v rest) ≡ item k (present v) ++ present_keys rest
  one_key k None rest = refl
  one_key k (Some (i, None)) rest = refl
  one_key k (Some (i, Some x)) rest = refl

  one_chain : (k : K) (vs : List (Version V)) (rest : Versions K V) → present_keys (as_of index (with_versions k vs rest)) ≡ item k (present (last_upto index vs)) ++ present_keys (as_of index rest)
  one_chain k [] rest = refl
  one_chain k (v ∷ vs) rest = one_key k (last_upto index (v ∷ vs)) (as_of index rest)

  given_more : (e : K × Head) (es : List (K × Head)) → given (e ∷ es) ≡ item_of e ++ given es
  given_more e es = one_chain e.0 (f e.1.newest) (kept_by f es)

  pub given_push : (es : List (K × Head)) (e : K × Head) → given (es ++ e ∷ []) ≡ given es ++ item_of e
  given_push [] e = given_more e [] ∙ nothing_after (item_of e)
  given_push (d ∷ es) e =
      let rest : given (es ++ e ∷ []) ≡ given es ++ item_of e = given_push es e in
      let more : given (d ∷ (es ++ e ∷ [])) ≡ item_of d ++ given (es ++ e ∷ []) = given_more d (es ++ e ∷ []) in
      let whole : (item_of d ++ given es) ++ item_of e ≡ item_of d ++ (given es ++ item_of e) = simp append_assoc in
      more ∙ ap (λ ys. item_of d ++ ys) rest ∙ sym whole ∙ ap (λ ys. ys ++ item_of e) (sym (given_more d es))

  module _ (within : K → Bool) where
    kept_key : (k : K) (v : Option (Version V)) (rest : List (K × Version V))
        → present_keys (filter (λ e. within e.0) (with_key k v rest)) ≡ cond (within k) (item k (present v)) [] ++ present_keys (filter (λ e. within e.0) rest)
    kept_key k None rest = elim (within k) as (λ b. present_keys (filter (λ e. within e.0) rest) ≡ cond b [] [] ++ present_keys (filter (λ e. within e.0) rest)) [ true ↦ refl | false ↦ refl ]
    kept_key k (Some (i, None)) rest =
        elim (within k) as (λ b. present_keys (cond b ((k, (i, None)) ∷ filter (λ e. within e.0) rest) (filter (λ e. within e.0) rest)) ≡ cond b [] [] ++ present_keys (filter (λ e. within e.0) rest)) [ true ↦ refl | false ↦ refl ]
    kept_key k (Some (i, Some x)) rest =
        elim (within k) as (λ b. present_keys (cond b ((k, (i, Some x)) ∷ filter (λ e. within e.0) rest) (filter (λ e. within e.0) rest)) ≡ cond b ((k, i) ∷ []) [] ++ present_keys (filter (λ e. within e.0) rest)) [ true ↦ refl | false ↦ refl ]

    kept_chain : (k : K) (vs : List (Version V)) (rest : Versions K V)
        → present_keys (filter (λ e. within e.0) (as_of index (with_versions k vs rest))) ≡ cond (within k) (item k (present (last_upto index vs))) [] ++ present_keys (filter (λ e. within e.0) (as_of index rest))
    kept_chain k [] rest = elim (within k) as (λ b. present_keys (filter (λ e. within e.0) (as_of index rest)) ≡ cond b [] [] ++ present_keys (filter (λ e. within e.0) (as_of index rest))) [ true ↦ refl | false ↦ refl ]
    kept_chain k (v ∷ vs) rest = kept_key k (last_upto index (v ∷ vs)) (as_of index rest)

    -- the heads within give what is within of all
    pub given_within : (test : K → Bool) → ((k : K) → test k ≡ within k) → (es : List (K × Head)) → given (filter (λ e. test e.0) es) ≡ present_keys (filter (λ e. within e.0) (as_of index (kept_by f es)))
    given_within test same [] = refl
    given_within test same (e ∷ es) =
        let rest : given (filter (λ e. test e.0) es) ≡ present_keys (filter (λ e. within e.0) (as_of index (kept_by f es))) = given_within test same es in
        ap (λ b. given (cond b (e ∷ filter (λ e. test e.0) es) (filter (λ e. test e.0) es))) (same e.0)
        ∙ elim (within e.0) as (λ b. given (cond b (e ∷ filter (λ e. test e.0) es) (filter (λ e. test e.0) es))
        ≡ cond b (item_of e) [] ++ present_keys (filter (λ e. within e.0) (as_of index (kept_by f es)))) [
          | true ↦ given_more e (filter (λ e. test e.0) es) ∙ ap (λ ys. item_of e ++ ys) rest
          | false ↦ rest
        ]
        ∙ sym (kept_chain e.0 (f e.1.newest) (kept_by f es))

module _ {K V : Type 0} (cmp : K → K → Ordering) (f : Option ℕ → List (Version V)) (index : ℕ) (lo hi : K) where
  above : (r : Ordering) → not (is_le r) ≡ is_gt r
  above Less = refl
  above Equal = refl
  above Greater = refl

  pub given_range : (es : List (K × Head)) → given f index (filter (λ e. range_contains cmp (Included lo) (Excluded hi) e.0) es) ≡ range_at cmp lo hi index (kept_by f es)
  given_range es = given_within f index (λ k. is_le (cmp lo k) && is_gt (cmp hi k)) (range_contains cmp (Included lo) (Excluded hi)) (λ k. ap (λ b. is_le (cmp lo k) && b) (above (cmp hi k))) es

module _ {K : Type 0} (cmp : K → K → Ordering) (index : ℕ) (lo hi : K) where
  -- a range that runs backwards is empty
  none_within : IsTotalOrder cmp → cmp lo hi ≡ Greater → (k : K) → (is_le (cmp lo k) && is_gt (cmp hi k)) ≡ false
  none_within o back k =
      elim (cmp lo k) as (λ r. cmp lo k ≡ r → (is_le r && is_gt (cmp hi k)) ≡ false) [
        | Less ↦ λ p. let less : cmp hi k ≡ Less = o.trans hi lo k (o.antisymm hi lo ∙ ap ordering_reverse back) p in ap is_gt less
        | Equal ↦ λ p. let less : cmp hi k ≡ Less = o.antisymm hi k ∙ ap ordering_reverse (sym (o.congr lo k hi p) ∙ back) in ap is_gt less
        | Greater ↦ λ p. refl
      ] refl

  filter_none : {X : Type 0} (p : X → Bool) → ((x : X) → p x ≡ false) → (xs : List X) → filter p xs ≡ []
  filter_none p fails [] = refl
  filter_none p fails (x ∷ xs) = ap (λ b. cond b (x ∷ filter p xs) (filter p xs)) (fails x) ∙ filter_none p fails xs

  pub range_back : {V : Type 0} → IsTotalOrder cmp → cmp lo hi ≡ Greater → (es : Versions K V) → range_at cmp lo hi index es ≡ []
  range_back o back es = ap present_keys (filter_none (λ e. is_le (cmp lo e.0) && is_gt (cmp hi e.0)) (λ e. none_within o back e.0) (as_of index es))

pub greater : (r : Ordering) → (ordering_index r == 2) ≡ true → r ≡ Greater
greater Less e = absurd cc
greater Equal e = absurd cc
greater Greater e = refl

pub map_push : {A B : Type 0} (f : A → B) (xs : List A) (x : A) → map f (xs ++ x ∷ []) ≡ map f xs ++ f x ∷ []
map_push f [] x = refl
map_push f (y ∷ xs) x = ap (λ ys. f y ∷ ys) (map_push f xs x)

module _ {K V : Type 0} (f : Option ℕ → List (Version V)) (index : ℕ) where
  pub item_some : (k : K) (v : ℕ) (p : Option (V × ℕ)) → Some v ≡ option_map (λ q. q.1) p → item f index k p ≡ (k, v) ∷ []
  item_some k v None e = absurd cc
  item_some k v (Some q) e = let same : v ≡ q.1 = cc in ap (λ n. (k, n) ∷ []) (sym same)

  pub item_none : (k : K) (p : Option (V × ℕ)) → None ≡ option_map (λ q. q.1) p → item f index k p ≡ []
  item_none k None e = refl
  item_none k (Some q) e = absurd cc

pub all_filter : {A : Type 0} (P : A → Type 0) (p : A → Bool) (xs : List A) → AllByRecursion P xs → AllByRecursion P (filter p xs)
all_filter P p [] h = tt
all_filter P p (x ∷ xs) h = elim (p x) as (λ b. AllByRecursion P (cond b (x ∷ filter p xs) (filter p xs))) [ true ↦ (h.0, all_filter P p xs h.1) | false ↦ all_filter P p xs h.1 ]

pub all_get : {A : Type 0} (P : A → Type 0) (xs : List A) (i : ℕ) (x : A) → AllByRecursion P xs → slice_get xs i ≡ Some x → P x
all_get P [] i x h is = absurd cc
all_get P (y ∷ xs) zero x h is = let same : y ≡ x = cc in subst P same h.0
all_get P (y ∷ xs) (suc i) x h is = all_get P xs i x h.1 is
