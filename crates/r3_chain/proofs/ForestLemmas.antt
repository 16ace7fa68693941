-- The chains of all keys: that they lie apart, and that each is cut.
use Rattle.std.proofs.Common.{◌≡◌, ℕ, ◌+◌, ◌<◌, ◌≤◌, zero, suc, Bool, true, false, cond, List, [], ◌∷◌, ◌++◌, length, Option, Some, None, is_some, refl, sym, ap, ◌∙◌, subst, arith}
use Rattle.std.specs.Prelude.{nat_le}
use Rattle.std.specs.List.{AllByRecursion}
use Rattle.std.specs.declared.cmp.Ordering.{Ordering}
use Rattle.r3_pool.specs.Slots.{Slots, value_at, live_count}
use Rattle.r3_chain.specs.Versions.{Version, Versions, kept_count, trimmed, trimmed_all, AreFalling}
use Rattle.r3_chain.specs.VersionLaws.{falling_trimmed}
use Rattle.r3_chain.specs.Links.{Cells, Placed, onto, trace, Ends, versions_in, visits, chain_in}
use Rattle.r3_chain.specs.Heads.{with_versions, kept_by}
use Rattle.r3_chain.specs.Sound.{one_if, total, uses, room_count, IsHead, IsSound}
use Rattle.r3_chain.specs.Cuts.{cut_at, Trims}
use Rattle.r3_chain.specs.declared.node.Node.{Node}
use Rattle.r3_chain.specs.declared.head.Head.{Head}
use Rattle.r3_chain.proofs.LinkLemmas.{trace_fits, visited_live, length-versions_in}
use Rattle.r3_chain.proofs.HeadLemmas.{all_map, total_alike}
use Rattle.r3_chain.proofs.TrimLemmas.{versions-cut_at, cut_shorter}

-- the chains of all keys are whole, come to each slot once, and have each slot in use
pub record IsForest {K V : Type 0} (n : ℕ) (nodes : Slots (Node V)) (es : List (K × Head)) : Type 0 where
  pub ends : AllByRecursion (λ e. Ends n (value_at nodes) e.1.newest) es
  pub apart : (t : ℕ) → total (λ h. visits t (trace n (value_at nodes) h.newest)) es ≤ 1
  pub count : total (λ h. length (trace n (value_at nodes) h.newest)) es ≡ live_count nodes

-- and each is cut
pub record TrimsAll {K V : Type 0} (n oldest : ℕ) (es : List (K × Head)) (old new : Slots (Node V)) : Type 0 where
  pub forest : IsForest n new es
  pub cut : AllByRecursion (λ e. trace n (value_at new) e.1.newest ≡ cut_at oldest (trace n (value_at old) e.1.newest)) es
  pub cap : new.cap ≡ old.cap
  pub spare : old.spare ≤ new.spare

one_most : (b : Bool) → one_if b ≤ 1
one_most true = omega arith
one_most false = omega arith

pub total_append : {K : Type 0} (w : Head → ℕ) (xs ys : List (K × Head)) → total w (xs ++ ys) ≡ total w xs + total w ys
total_append w [] ys = omega arith
total_append w (x ∷ xs) ys = let rest : total w (xs ++ ys) ≡ total w xs + total w ys = total_append w xs ys in omega arith

pub all_append : {A : Type 0} (P : A → Type 0) (xs ys : List A) → AllByRecursion P xs → AllByRecursion P ys → AllByRecursion P (xs ++ ys)
all_append P [] ys h k = k
all_append P (x ∷ xs) ys h k = (h.0, all_append P xs ys h.1 k)

pub all_left : {A : Type 0} (P : A → Type 0) (xs ys : List A) → AllByRecursion P (xs ++ ys) → AllByRecursion P xs
all_left P [] ys h = tt
all_left P (x ∷ xs) ys h = (h.0, all_left P xs ys h.1)

pub all_right : {A : Type 0} (P : A → Type 0) (xs ys : List A) → AllByRecursion P (xs ++ ys) → AllByRecursion P ys
all_right P [] ys h = h
all_right P (x ∷ xs) ys h = all_right P xs ys h.1

-- each is at most the sum
all_within : {K : Type 0} (w : Head → ℕ) (m : ℕ) (es : List (K × Head)) → total w es ≤ m → AllByRecursion (λ e. w e.1 ≤ m) es
all_within w m [] le = tt
all_within w m (e ∷ es) le = (omega arith, all_within w m es (omega arith))

pub all_both : {A : Type 0} (P Q R : A → Type 0) → ((x : A) → P x → Q x → R x) → (xs : List A) → AllByRecursion P xs → AllByRecursion Q xs → AllByRecursion R xs
all_both P Q R step [] h k = tt
all_both P Q R step (x ∷ xs) h k = (step x h.0 k.0, all_both P Q R step xs h.1 k.1)

module _ {V : Type 0} where
  trace_short : (n : ℕ) (a : Cells V) (o : Option ℕ) → length (trace n a o) ≤ n
  trace_short zero a o = omega arith
  trace_short (suc n) a None = omega arith
  trace_short (suc n) a (Some s) = elim (a s) as (λ m. length (onto (Some s) m (trace n a)) ≤ suc n) [ None ↦ omega arith | Some node ↦ (let rest : length (trace n a node.older) ≤ n = trace_short n a node.older in omega arith) ]

  -- the same with as many steps as there are slots in use
  pub trims_fuel : (n m oldest : ℕ) (o : Option ℕ) (old new : Slots (Node V)) → Ends n (value_at old) o → length (trace n (value_at old) o) ≤ m → Trims m oldest o old new → Trims n oldest o old new
  trims_fuel n m oldest o old new ends le t =
      let fits : (trace m (value_at old) o ≡ trace n (value_at old) o) × Ends m (value_at old) o = trace_fits n m (value_at old) o ends le in
      let long : length (trace m (value_at old) o) ≡ length (trace n (value_at old) o) = ap length fits.0 in
      let cut_long : length (trace m (value_at new) o) ≡ length (cut_at oldest (trace m (value_at old) o)) = ap length t.cut in
      let shorter : length (cut_at oldest (trace m (value_at old) o)) ≤ length (trace m (value_at old) o) = cut_shorter oldest (trace m (value_at old) o) in
      let short : length (trace n (value_at old) o) ≤ n = trace_short n (value_at old) o in
      let again : (trace n (value_at new) o ≡ trace m (value_at new) o) × Ends n (value_at new) o = trace_fits m n (value_at new) o t.ends (omega arith) in
      let cut_same : length (cut_at oldest (trace m (value_at old) o)) ≡ length (cut_at oldest (trace n (value_at old) o)) = ap (λ ps. length (cut_at oldest ps)) fits.0 in
      let live : live_count new + length (trace m (value_at old) o) ≡ live_count old + length (cut_at oldest (trace m (value_at old) o)) = t.live in
      record {
        ends = again.1;
        cut = again.0 ∙ t.cut ∙ ap (cut_at oldest) fits.0;
        others = λ u off. t.others u (ap (visits u) fits.0 ∙ off);
        live = omega arith;
        cap = t.cap;
        spare = t.spare;
      }

module _ {K V : Type 0} where
  kept_total : (f : Option ℕ → List (Version V)) (es : List (K × Head)) → kept_count (kept_by f es) ≡ total (λ h. length (f h.newest)) es
  kept_total f [] = refl
  kept_total f (e ∷ es) =
      let rest : kept_count (kept_by f es) ≡ total (λ h. length (f h.newest)) es = kept_total f es in
      elim (f e.1.newest) as (λ vs. kept_count (with_versions e.0 vs (kept_by f es)) ≡ length vs + total (λ h. length (f h.newest)) es) [ [] ↦ omega arith | v ∷ vs ↦ omega arith ]

  lengths : (n : ℕ) (nodes : Slots (Node V)) (es : List (K × Head))
      → total (λ h. length (versions_in (trace n (value_at nodes) h.newest))) es ≡ total (λ h. length (trace n (value_at nodes) h.newest)) es
  lengths n nodes [] = refl
  lengths n nodes (e ∷ es) =
      let rest : total (λ h. length (versions_in (trace n (value_at nodes) h.newest))) es ≡ total (λ h. length (trace n (value_at nodes) h.newest)) es = lengths n nodes es in
      let here : length (versions_in (trace n (value_at nodes) e.1.newest)) ≡ length (trace n (value_at nodes) e.1.newest) = length-versions_in (trace n (value_at nodes) e.1.newest) in
      omega arith

  pub forest_of : (cmp : K → K → Ordering) (es : List (K × Head)) (nodes : Slots (Node V)) (cap round last : ℕ) → IsSound cmp es nodes cap round last → IsForest (live_count nodes) nodes es
  forest_of cmp es nodes cap round last ok = record {
    ends = all_map (λ e. IsHead nodes last e.1) (λ e. Ends (live_count nodes) (value_at nodes) e.1.newest) (λ e p. p.chain) es ok.heads;
    apart = λ t. let most : one_if (is_some (value_at nodes t)) ≤ 1 = one_most (is_some (value_at nodes t)) in let few : uses t nodes es ≤ one_if (is_some (value_at nodes t)) = ok.apart t in omega arith;
    count = sym (lengths (live_count nodes) nodes es) ∙ sym (kept_total (chain_in nodes) es) ∙ ok.count;
  }

  dead : (n t : ℕ) (nodes : Slots (Node V)) (es : List (K × Head)) → AllByRecursion (λ e. Ends n (value_at nodes) e.1.newest) es → is_some (value_at nodes t) ≡ false
      → total (λ h. visits t (trace n (value_at nodes) h.newest)) es ≡ 0
  dead n t nodes [] h off = refl
  dead n t nodes (e ∷ es) h off =
      let rest : total (λ h. visits t (trace n (value_at nodes) h.newest)) es ≡ 0 = dead n t nodes es h.1 off in
      let here : visits t (trace n (value_at nodes) e.1.newest) ≡ 0 = zero_or (visits t (trace n (value_at nodes) e.1.newest)) (λ on. wrong (visited_live n (value_at nodes) e.1.newest t on h.0)) in
      omega arith
    where
      wrong : is_some (value_at nodes t) ≡ true → ⊥
      wrong on = let no : false ≡ true = sym off ∙ on in cc

      zero_or : (k : ℕ) → (0 < k → ⊥) → k ≡ 0
      zero_or zero f = refl
      zero_or (suc k) f = absurd (f (omega arith))

  kept_trimmed : (oldest : ℕ) (f g : Option ℕ → List (Version V)) (es : List (K × Head)) → AllByRecursion (λ e. g e.1.newest ≡ trimmed oldest (f e.1.newest)) es
      → kept_by g es ≡ trimmed_all oldest (kept_by f es)
  kept_trimmed oldest f g [] h = refl
  kept_trimmed oldest f g (e ∷ es) h =
      ap (λ vs. with_versions e.0 vs (kept_by g es)) h.0 ∙ ap (with_versions e.0 (trimmed oldest (f e.1.newest))) (kept_trimmed oldest f g es h.1) ∙ one_key e.0 (f e.1.newest) (kept_by f es)
    where
      one_key : (k : K) (vs : List (Version V)) (rest : Versions K V) → with_versions k (trimmed oldest vs) (trimmed_all oldest rest) ≡ trimmed_all oldest (with_versions k vs rest)
      one_key k [] rest = refl
      one_key k (v ∷ vs) rest = elim (nat_le v.0 oldest) as (λ b. with_versions k (cond b (v ∷ []) (v ∷ trimmed oldest vs)) (trimmed_all oldest rest) ≡ (k, cond b (v ∷ []) (v ∷ trimmed oldest vs)) ∷ trimmed_all oldest rest) [ true ↦ refl | false ↦ refl ]

  module _ (cmp : K → K → Ordering) (es : List (K × Head)) (old new : Slots (Node V)) (cap round last oldest : ℕ) (ok : IsSound cmp es old cap round last) (t : TrimsAll (live_count old) oldest es old new) where
    -- with as many steps as there are slots in use now
    fits : AllByRecursion (λ e. (trace (live_count new) (value_at new) e.1.newest ≡ trace (live_count old) (value_at new) e.1.newest) × Ends (live_count new) (value_at new) e.1.newest) es
    fits =
        let all : total (λ h. length (trace (live_count old) (value_at new) h.newest)) es ≡ live_count new = t.forest.count in
        all_both (λ e. Ends (live_count old) (value_at new) e.1.newest) (λ e. length (trace (live_count old) (value_at new) e.1.newest) ≤ live_count new)
        (λ e. (trace (live_count new) (value_at new) e.1.newest ≡ trace (live_count old) (value_at new) e.1.newest) × Ends (live_count new) (value_at new) e.1.newest)
        (λ e p q. trace_fits (live_count old) (live_count new) (value_at new) e.1.newest p q) es t.forest.ends
        (all_within (λ h. length (trace (live_count old) (value_at new) h.newest)) (live_count new) es (omega arith))

    chains : AllByRecursion (λ e. chain_in new e.1.newest ≡ trimmed oldest (chain_in old e.1.newest)) es
    chains = all_both _ _ (λ e. chain_in new e.1.newest ≡ trimmed oldest (chain_in old e.1.newest))
        (λ e p q. ap versions_in (p.0 ∙ q) ∙ versions-cut_at oldest (trace (live_count old) (value_at old) e.1.newest)) es fits t.cut

    pub versions_trimmed : kept_by (chain_in new) es ≡ trimmed_all oldest (kept_by (chain_in old) es)
    versions_trimmed = kept_trimmed oldest (chain_in old) (chain_in new) es chains

    pub same_total : (w : List (Placed V) → ℕ) → total (λ h. w (trace (live_count new) (value_at new) h.newest)) es ≡ total (λ h. w (trace (live_count old) (value_at new) h.newest)) es
    same_total w = total_alike (λ h. w (trace (live_count old) (value_at new) h.newest)) (λ h. w (trace (live_count new) (value_at new) h.newest)) es
        (all_map _ (λ e. w (trace (live_count new) (value_at new) e.1.newest) ≡ w (trace (live_count old) (value_at new) e.1.newest)) (λ e p. ap w p.0) es fits)

    apart : (u : ℕ) → uses u new es ≤ one_if (is_some (value_at new u))
    apart u =
        let same : uses u new es ≡ total (λ h. visits u (trace (live_count old) (value_at new) h.newest)) es = same_total (visits u) in
        let few : total (λ h. visits u (trace (live_count old) (value_at new) h.newest)) es ≤ 1 = t.forest.apart u in
        elim (is_some (value_at new u)) as (λ b. is_some (value_at new u) ≡ b → uses u new es ≤ one_if b) [
          | true ↦ λ p. omega arith
          | false ↦ λ p. let none : total (λ h. visits u (trace (live_count old) (value_at new) h.newest)) es ≡ 0 = dead (live_count old) u new es t.forest.ends p in omega arith
        ] refl

    pub sound_trimmed : IsSound cmp es new cap round last
    sound_trimmed =
        let fits_room : room_count round es ≤ old.spare = ok.room in
        let more : old.spare ≤ new.spare = t.spare in
        record {
          sorted = ok.sorted;
          heads = all_both _ _ (λ e. IsHead new last e.1) (λ e p q. record {
            chain = p.1.1;
            falling = subst AreFalling (sym p.0) (falling_trimmed oldest (chain_in old e.1.newest) q.falling);
            round = q.round;
            before = q.before;
          }) es (all_both _ _ (λ e. (chain_in new e.1.newest ≡ trimmed oldest (chain_in old e.1.newest)) × ((trace (live_count new) (value_at new) e.1.newest ≡ trace (live_count old) (value_at new) e.1.newest) × Ends (live_count new) (value_at new) e.1.newest))
              (λ e p q. (p, q)) es chains fits) ok.heads;
          apart = apart;
          count = kept_total (chain_in new) es ∙ lengths (live_count new) new es ∙ same_total length ∙ t.forest.count;
          room = omega arith;
          limit = t.cap ∙ ok.limit;
          first = ok.first;
          rounds = ok.rounds;
        }
