-- The chains of all keys, while they are cut behind the versions of the list one by one.
use Rattle.std.proofs.Common.{◌≡◌, ◌≢◌, ℕ, ◌+◌, ◌<◌, ◌≤◌, suc, List, [], ◌∷◌, ◌++◌, length, take, drop, Option, Some, None, IsSome, is_some, refl, sym, ap, ◌∙◌, subst, arith, inl, inr, append_assoc}
use Rattle.std.proofs.Math.ListN.{get_or, set, drop_of_length-le}
use Rattle.std.proofs.lemmas.List.{drop_more, take_more_set, drop-set-lt}
use Rattle.std.proofs.lemmas.Bool.Decides.{eqb_tells}
use Rattle.std.specs.Prelude.{nat_eq}
use Rattle.std.specs.List.{AllByRecursion}
use Rattle.std.specs.declared.cmp.Ordering.{Ordering}
use Rattle.r3_pool.specs.Slots.{Slots, value_at, live_count}
use Rattle.r3_chain.specs.Versions.{AreFalling}
use Rattle.r3_chain.specs.Links.{Placed, trace, Ends, versions_in, visits}
use Rattle.r3_chain.specs.Sound.{total, IsHead}
use Rattle.r3_chain.specs.Cuts.{cut_at, IsLine, Trims}
use Rattle.r3_chain.specs.Long.{times, older_in, older_at, uses_by, IsLong, IsWhole}
use Rattle.r3_chain.specs.declared.node.Node.{Node}
use Rattle.r3_chain.specs.declared.head.Head.{Head}
use Rattle.r3_chain.proofs.LinkLemmas.{trace_step, trace_stays, trace_fits, first_live, nothing, seen_same, seen_other, one}
use Rattle.r3_chain.proofs.HeadLemmas.{all_map, total_alike}
use Rattle.r3_chain.proofs.ForestLemmas.{IsForest, TrimsAll, forest_of, total_append, all_append, all_left, all_right, all_both, trims_fuel}
use Rattle.r3_chain.proofs.LongLemmas.{times_append, positive, found, visits_append, length_append, versions_append, falling_first, next_falls, cut_behind, cut_first, through, spliced, last_ends, uncuttable, order_at, order_less}

module _ {V : Type 0} (n : ℕ) (cur new : Slots (Node V)) where
  -- a chain is shorter, and no slot of another has changed
  pub record Shortens (o : Option ℕ) : Type 0 where
    pub ends : Ends n (value_at new) o
    pub fewer : (u : ℕ) → visits u (trace n (value_at new) o) ≤ visits u (trace n (value_at cur) o)
    pub others : (u : ℕ) → visits u (trace n (value_at cur) o) ≡ 0 → value_at new u ≡ value_at cur u
    pub live : live_count new + length (trace n (value_at cur) o) ≡ live_count cur + length (trace n (value_at new) o)

module _ {K V : Type 0} (n : ℕ) (cur new : Slots (Node V)) where
  abbrev Stays : List (K × Head) → Type 0
  Stays xs = AllByRecursion (λ x. (trace n (value_at new) x.1.newest ≡ trace n (value_at cur) x.1.newest) × Ends n (value_at new) x.1.newest) xs

  module _ (e : K × Head) (t : Shortens n cur new e.1.newest) where
    -- the chains of other keys
    pub stay : (xs : List (K × Head)) → AllByRecursion (λ x. Ends n (value_at cur) x.1.newest) xs
        → ((u : ℕ) → total (λ h. visits u (trace n (value_at cur) h.newest)) xs + visits u (trace n (value_at cur) e.1.newest) ≤ 1)
        → Stays xs
    stay [] h few = tt
    stay (x ∷ xs) h few = (
      trace_stays n (value_at cur) (value_at new) x.1.newest (λ u on. t.others u (omega (arith, few u, on))) h.0,
      stay xs h.1 (λ u. omega (arith, few u)),
    )

  pub same : (w : List (Placed V) → ℕ) (xs : List (K × Head)) → Stays xs
      → total (λ h. w (trace n (value_at new) h.newest)) xs ≡ total (λ h. w (trace n (value_at cur) h.newest)) xs
  same w xs h = total_alike (λ h. w (trace n (value_at cur) h.newest)) (λ h. w (trace n (value_at new) h.newest)) xs
      (all_map (λ x. (trace n (value_at new) x.1.newest ≡ trace n (value_at cur) x.1.newest) × Ends n (value_at new) x.1.newest) (λ x. w (trace n (value_at new) x.1.newest) ≡ w (trace n (value_at cur) x.1.newest)) (λ x p. ap w p.0) xs h)

  pub forest_shorter : (e : K × Head) → Shortens n cur new e.1.newest → (done rest : List (K × Head)) → IsForest n cur (done ++ e ∷ rest) → Stays done → Stays rest → IsForest n new (done ++ e ∷ rest)
  forest_shorter e t done rest f d r =
      let P : K × Head → Type 0 = λ x. Ends n (value_at new) x.1.newest in
      let long : (s : Slots (Node V)) → total (λ h. length (trace n (value_at s) h.newest)) (done ++ e ∷ rest)
      ≡ total (λ h. length (trace n (value_at s) h.newest)) done + (length (trace n (value_at s) e.1.newest) + total (λ h. length (trace n (value_at s) h.newest)) rest) =
      λ s. total_append (λ h. length (trace n (value_at s) h.newest)) done (e ∷ rest) in
      let new_long : total (λ h. length (trace n (value_at new) h.newest)) (done ++ e ∷ rest)
      ≡ total (λ h. length (trace n (value_at new) h.newest)) done + (length (trace n (value_at new) e.1.newest) + total (λ h. length (trace n (value_at new) h.newest)) rest) = long new in
      let cur_long : total (λ h. length (trace n (value_at cur) h.newest)) (done ++ e ∷ rest)
      ≡ total (λ h. length (trace n (value_at cur) h.newest)) done + (length (trace n (value_at cur) e.1.newest) + total (λ h. length (trace n (value_at cur) h.newest)) rest) = long cur in
      let done_long : total (λ h. length (trace n (value_at new) h.newest)) done ≡ total (λ h. length (trace n (value_at cur) h.newest)) done = same length done d in
      let rest_long : total (λ h. length (trace n (value_at new) h.newest)) rest ≡ total (λ h. length (trace n (value_at cur) h.newest)) rest = same length rest r in
      let live : live_count new + length (trace n (value_at cur) e.1.newest) ≡ live_count cur + length (trace n (value_at new) e.1.newest) = t.live in
      let all : total (λ h. length (trace n (value_at cur) h.newest)) (done ++ e ∷ rest) ≡ live_count cur = f.count in
      record {
        ends = all_append P done (e ∷ rest) (all_map _ P (λ x p. p.1) done d) (t.ends, all_map _ P (λ x p. p.1) rest r);
        apart = λ u. few u (total_append (λ h. visits u (trace n (value_at new) h.newest)) done (e ∷ rest)) (total_append (λ h. visits u (trace n (value_at cur) h.newest)) done (e ∷ rest))
            (same (visits u) done d) (same (visits u) rest r) (t.fewer u) (f.apart u);
        count = omega arith;
      }
    where
      few : (u : ℕ) → total (λ h. visits u (trace n (value_at new) h.newest)) (done ++ e ∷ rest)
          ≡ total (λ h. visits u (trace n (value_at new) h.newest)) done + (visits u (trace n (value_at new) e.1.newest) + total (λ h. visits u (trace n (value_at new) h.newest)) rest)
          → total (λ h. visits u (trace n (value_at cur) h.newest)) (done ++ e ∷ rest)
          ≡ total (λ h. visits u (trace n (value_at cur) h.newest)) done + (visits u (trace n (value_at cur) e.1.newest) + total (λ h. visits u (trace n (value_at cur) h.newest)) rest)
          → total (λ h. visits u (trace n (value_at new) h.newest)) done ≡ total (λ h. visits u (trace n (value_at cur) h.newest)) done
          → total (λ h. visits u (trace n (value_at new) h.newest)) rest ≡ total (λ h. visits u (trace n (value_at cur) h.newest)) rest
          → visits u (trace n (value_at new) e.1.newest) ≤ visits u (trace n (value_at cur) e.1.newest)
          → total (λ h. visits u (trace n (value_at cur) h.newest)) (done ++ e ∷ rest) ≤ 1
          → total (λ h. visits u (trace n (value_at new) h.newest)) (done ++ e ∷ rest) ≤ 1
      few u a b c d' i k = omega arith

-- so far: behind none of the versions kept is anything to be cut, and the rest of the list is left
pub record Cutting {K V : Type 0} (n oldest : ℕ) (es : List (K × Head)) (old cur : Slots (Node V)) (kept rest : List ℕ) : Type 0 where
  pub forest : IsForest n cur es
  pub falling : AllByRecursion (λ e. AreFalling (versions_in (trace n (value_at cur) e.1.newest))) es
  pub long : IsLong n cur es (kept ++ rest)
  pub late : (s : ℕ) (node : Node V) → 0 < times s kept → value_at cur s ≡ Some node → oldest < node.index
  pub same : AllByRecursion (λ e. cut_at oldest (trace n (value_at cur) e.1.newest) ≡ cut_at oldest (trace n (value_at old) e.1.newest)) es
  pub cap : cur.cap ≡ old.cap
  pub spare : old.spare ≤ cur.spare

module _ {K V : Type 0} (n oldest : ℕ) (es : List (K × Head)) (old : Slots (Node V)) where
  pub cutting_starts : (long : List ℕ) → IsForest n old es → AllByRecursion (λ e. AreFalling (versions_in (trace n (value_at old) e.1.newest))) es → IsLong n old es long → Cutting n oldest es old old [] long
  cutting_starts long f fall is = record { forest = f; falling = fall; long = is; late = λ s node on at. absurd (omega arith); same = alike es; cap = refl; spare = omega arith }
    where
      alike : (xs : List (K × Head)) → AllByRecursion (λ e. cut_at oldest (trace n (value_at old) e.1.newest) ≡ cut_at oldest (trace n (value_at old) e.1.newest)) xs
      alike [] = tt
      alike (x ∷ xs) = (refl, alike xs)

  -- a version past the index is kept in the list
  pub cutting_keeps : (cur : Slots (Node V)) (kept rest : List ℕ) (s : ℕ) (node : Node V) → Cutting n oldest es old cur kept (s ∷ rest) → value_at cur s ≡ Some node → oldest < node.index
      → Cutting n oldest es old cur (kept ++ s ∷ []) rest
  cutting_keeps cur kept rest s node g is lt =
      let whole : (kept ++ s ∷ []) ++ rest ≡ kept ++ s ∷ rest = simp append_assoc in
      record {
        forest = g.forest;
        falling = g.falling;
        long = subst (IsLong n cur es) (sym whole) g.long;
        late = λ u x on at. late u x on at;
        same = g.same;
        cap = g.cap;
        spare = g.spare;
      }
    where
      late : (u : ℕ) (x : Node V) → 0 < times u (kept ++ s ∷ []) → value_at cur u ≡ Some x → oldest < x.index
      late u x on at = elim (eqb_tells s u) [
        | inl e ↦
            let it : Some x ≡ Some node = sym at ∙ sym (ap (value_at cur) e.1) ∙ is in
            let same : x ≡ node = cc in
            subst (λ (y : Node V). oldest < y.index) (sym same) lt
        | inr e ↦
            let off : one (nat_eq s u) ≡ 0 = ap one e.0 in
            let parts : times u (kept ++ s ∷ []) ≡ times u kept + (one (nat_eq s u) + 0) = times_append u kept (s ∷ []) in
            g.late u x (omega arith) at
      ]

  -- once all of the list is gone through
  pub cutting_ends : (cur : Slots (Node V)) (kept : List ℕ) → Cutting n oldest es old cur kept [] → TrimsAll n oldest es old cur × IsLong n cur es kept
  cutting_ends cur kept g =
      let nil : kept ++ [] ≡ kept = append_nil kept in
      let long : IsLong n cur es kept = subst (IsLong n cur es) nil g.long in (
        record {
          forest = g.forest;
          cut = all_both (λ e. cut_at oldest (trace n (value_at cur) e.1.newest) ≡ trace n (value_at cur) e.1.newest) (λ e. cut_at oldest (trace n (value_at cur) e.1.newest) ≡ cut_at oldest (trace n (value_at old) e.1.newest))
              (λ e. trace n (value_at cur) e.1.newest ≡ cut_at oldest (trace n (value_at old) e.1.newest)) (λ e p q. sym p ∙ q) es
              (short es g.forest.ends (λ s node on at has. g.late s node (long.all s on (subst (λ c. IsSome (older_in c)) (sym at) has)) at)) g.same;
          cap = g.cap;
          spare = g.spare;
        },
        long,
      )
    where
      append_nil : (xs : List ℕ) → xs ++ [] ≡ xs
      append_nil [] = refl
      append_nil (x ∷ xs) = ap (λ ys. x ∷ ys) (append_nil xs)

      short : (xs : List (K × Head)) → AllByRecursion (λ x. Ends n (value_at cur) x.1.newest) xs
          → ((s : ℕ) (node : Node V) → 0 < uses_by n cur s xs → value_at cur s ≡ Some node → IsSome node.older → oldest < node.index)
          → AllByRecursion (λ e. cut_at oldest (trace n (value_at cur) e.1.newest) ≡ trace n (value_at cur) e.1.newest) xs
      short [] h late = tt
      short (x ∷ xs) h late = (
        uncuttable n oldest (value_at cur) x.1.newest (λ s node on. late s node (omega arith)) h.0,
        short xs h.1 (λ s node on. late s node (omega arith)),
      )

-- a version of the list, on the chain of one key
module _ {K V : Type 0} (n oldest : ℕ) (old cur : Slots (Node V)) (done : List (K × Head)) (e : K × Head) (others : List (K × Head)) (kept rest : List ℕ) (s : ℕ)
    (g : Cutting n oldest (done ++ e ∷ others) old cur kept (s ∷ rest)) (on : 0 < visits s (trace n (value_at cur) e.1.newest)) where
  sum_of : (w : List (Placed V) → ℕ) (nodes : Slots (Node V)) → total (λ h. w (trace n (value_at nodes) h.newest)) (done ++ e ∷ others)
      ≡ total (λ h. w (trace n (value_at nodes) h.newest)) done + (w (trace n (value_at nodes) e.1.newest) + total (λ h. w (trace n (value_at nodes) h.newest)) others)
  sum_of w nodes = total_append (λ h. w (trace n (value_at nodes) h.newest)) done (e ∷ others)

  top_ends : Ends n (value_at cur) e.1.newest
  top_ends = (all_right (λ x. Ends n (value_at cur) x.1.newest) done (e ∷ others) g.forest.ends).0

  apart : (u : ℕ) → total (λ h. visits u (trace n (value_at cur) h.newest)) done + (visits u (trace n (value_at cur) e.1.newest) + total (λ h. visits u (trace n (value_at cur) h.newest)) others) ≤ 1
  apart u = subst (λ k. k ≤ 1) (sum_of (visits u) cur) (g.forest.apart u)

  once : (u : ℕ) → visits u (trace n (value_at cur) e.1.newest) ≤ 1
  once u = omega (arith, apart u)

  short : length (trace n (value_at cur) e.1.newest) ≤ live_count cur
  short =
      let all : total (λ h. length (trace n (value_at cur) h.newest)) (done ++ e ∷ others) ≡ live_count cur = g.forest.count in
      omega (arith, all, sum_of length cur)

  from_s : (above : List (Placed V)) × ((trace n (value_at cur) e.1.newest ≡ above ++ trace n (value_at cur) (Some s)) × Ends n (value_at cur) (Some s))
  from_s = through n (value_at cur) e.1.newest s on top_ends

  -- the chain from it on, with as many steps as there are slots in use
  pub line_at : Ends n (value_at cur) (Some s) × ((length (trace n (value_at cur) (Some s)) ≤ live_count cur) × IsLine (live_count cur) (value_at cur) (Some s))
  line_at =
      let long : length (trace n (value_at cur) e.1.newest) ≡ length from_s.0 + length (trace n (value_at cur) (Some s)) = ap length from_s.1.0 ∙ length_append from_s.0 (trace n (value_at cur) (Some s)) in
      let le : length (trace n (value_at cur) (Some s)) ≤ live_count cur = omega (arith, short) in
      let fits : (trace (live_count cur) (value_at cur) (Some s) ≡ trace n (value_at cur) (Some s)) × Ends (live_count cur) (value_at cur) (Some s) =
      trace_fits n (live_count cur) (value_at cur) (Some s) from_s.1.1 le in (
        from_s.1.1,
        (
          le,
          record {
            ends = fits.1;
            once = λ u.
                let parts : visits u (trace n (value_at cur) e.1.newest) ≡ visits u from_s.0 + visits u (trace n (value_at cur) (Some s)) = ap (visits u) from_s.1.0 ∙ visits_append u from_s.0 (trace n (value_at cur) (Some s)) in
                subst (λ ps. visits u ps ≤ 1) (sym fits.0) (omega (arith, once u));
          },
        ),
      )

  -- it is up to the index, and the chain is cut behind it
  module _ (new : Slots (Node V)) (node : Node V) (is : value_at cur s ≡ Some node) (le : node.index ≤ oldest) (t : Trims n oldest (Some s) cur new) where
    step : (trace n (value_at cur) (Some s) ≡ (s, (node.index, node.value)) ∷ trace n (value_at cur) node.older) × Ends n (value_at cur) node.older
    step = trace_step n (value_at cur) s node is from_s.1.1

    alone : trace n (value_at new) (Some s) ≡ (s, (node.index, node.value)) ∷ []
    alone = t.cut ∙ ap (cut_at oldest) step.0 ∙ cut_first oldest (s, (node.index, node.value)) (trace n (value_at cur) node.older) le

    one_long : length (trace n (value_at new) (Some s)) ≤ 1
    one_long = let is_one : length (trace n (value_at new) (Some s)) ≡ 1 = ap length alone in omega arith

    parts : (above : List (Placed V)) × ((trace n (value_at cur) e.1.newest ≡ above ++ trace n (value_at cur) (Some s))
        × ((trace n (value_at new) e.1.newest ≡ above ++ trace n (value_at new) (Some s)) × Ends n (value_at new) e.1.newest))
    parts = spliced n n (value_at cur) (value_at new) e.1.newest s from_s.1.1 t.ends one_long (λ u off. t.others u off) on top_ends once

    was : trace n (value_at cur) e.1.newest ≡ parts.0 ++ (s, (node.index, node.value)) ∷ trace n (value_at cur) node.older
    was = parts.1.0 ∙ ap (λ ps. parts.0 ++ ps) step.0

    now : trace n (value_at new) e.1.newest ≡ parts.0 ++ (s, (node.index, node.value)) ∷ []
    now = parts.1.1.0 ∙ ap (λ ps. parts.0 ++ ps) alone

    seen_was : (u : ℕ) → visits u (trace n (value_at cur) e.1.newest) ≡ visits u parts.0 + (one (nat_eq s u) + visits u (trace n (value_at cur) node.older))
    seen_was u = ap (visits u) was ∙ visits_append u parts.0 ((s, (node.index, node.value)) ∷ trace n (value_at cur) node.older)

    seen_now : (u : ℕ) → visits u (trace n (value_at new) e.1.newest) ≡ visits u parts.0 + (one (nat_eq s u) + 0)
    seen_now u = ap (visits u) now ∙ visits_append u parts.0 ((s, (node.index, node.value)) ∷ [])

    seen_here : (u : ℕ) → visits u (trace n (value_at cur) (Some s)) ≡ one (nat_eq s u) + visits u (trace n (value_at cur) node.older)
    seen_here u = ap (visits u) step.0

    shortens : Shortens n cur new e.1.newest
    shortens =
        let long_was : length (trace n (value_at cur) e.1.newest) ≡ length parts.0 + suc (length (trace n (value_at cur) node.older)) = ap length was ∙ length_append parts.0 ((s, (node.index, node.value)) ∷ trace n (value_at cur) node.older) in
        let long_now : length (trace n (value_at new) e.1.newest) ≡ length parts.0 + 1 = ap length now ∙ length_append parts.0 ((s, (node.index, node.value)) ∷ []) in
        let long_here : length (trace n (value_at cur) (Some s)) ≡ suc (length (trace n (value_at cur) node.older)) = ap length step.0 in
        let cut_here : length (cut_at oldest (trace n (value_at cur) (Some s))) ≡ 1 = ap length (ap (cut_at oldest) step.0 ∙ cut_first oldest (s, (node.index, node.value)) (trace n (value_at cur) node.older) le) in
        let live : live_count new + length (trace n (value_at cur) (Some s)) ≡ live_count cur + length (cut_at oldest (trace n (value_at cur) (Some s))) = t.live in
        record {
          ends = parts.1.1.1;
          fewer = λ u. omega (arith, seen_was u, seen_now u);
          others = λ u off. t.others u (omega (arith, seen_was u, seen_here u, off));
          live = omega arith;
        }

    -- nothing behind it is in the list
    gone_at : (r : ℕ) (after : Node V) → node.older ≡ Some r → value_at cur r ≡ Some after → Ends n (value_at cur) (Some r) → (u : ℕ) → 0 < visits u (trace n (value_at cur) (Some r))
        → times u (kept ++ s ∷ rest) ≡ 0
    gone_at r after p q ends u seen = elim (eqb_tells r u) [
      | inl w ↦ subst (λ x. times x (kept ++ s ∷ rest) ≡ 0) w.1 never
      | inr w ↦
          let off : one (nat_eq r u) ≡ 0 = ap one w.0 in
          let parts_u : visits u (trace n (value_at cur) (Some r)) ≡ one (nat_eq r u) + visits u (trace n (value_at cur) after.older) = ap (visits u) next.0 in
          let nil : visits u (trace n (value_at cur) after.older) ≡ 0 = ap (λ x. visits u (trace n (value_at cur) x)) last ∙ ap (visits u) (nothing n (value_at cur)).0 in
          absurd (omega arith)
    ]
      where
        next : (trace n (value_at cur) (Some r) ≡ (r, (after.index, after.value)) ∷ trace n (value_at cur) after.older) × Ends n (value_at cur) after.older
        next = trace_step n (value_at cur) r after q ends

        whole : trace n (value_at cur) e.1.newest ≡ parts.0 ++ (s, (node.index, node.value)) ∷ (r, (after.index, after.value)) ∷ trace n (value_at cur) after.older
        whole = was ∙ ap (λ ps. parts.0 ++ (s, (node.index, node.value)) ∷ ps) (ap (trace n (value_at cur)) p ∙ next.0)

        later : after.index ≤ node.index
        later =
            let fall : AreFalling (versions_in (trace n (value_at cur) e.1.newest)) = (all_right (λ x. AreFalling (versions_in (trace n (value_at cur) x.1.newest))) done (e ∷ others) g.falling).0 in
            next_falls parts.0 (s, (node.index, node.value)) (r, (after.index, after.value)) (trace n (value_at cur) after.older) (subst (λ ps. AreFalling (versions_in ps)) whole fall)

        seen_r : visits r (trace n (value_at cur) node.older) ≡ one (nat_eq r r) + visits r (trace n (value_at cur) after.older)
        seen_r = ap (visits r) (ap (trace n (value_at cur)) p ∙ next.0)

        apart_s : s ≢ r
        apart_s same =
            let seen_s : visits s (trace n (value_at cur) node.older) ≡ one (nat_eq r s) + visits s (trace n (value_at cur) after.older) = ap (visits s) (ap (trace n (value_at cur)) p ∙ next.0) in
            let here : one (nat_eq s s) ≡ 1 = seen_same s in
            let there : one (nat_eq r s) ≡ 1 = subst (λ x. one (nat_eq x s) ≡ 1) same here in
            omega (arith, once s, seen_was s)

        not_kept : times r kept ≡ 0
        not_kept = elim (positive (times r kept)) [
          | inl z ↦ z
          | inr lt ↦ let past : oldest < after.index = g.late r after lt q in let lower : after.index ≤ node.index = later in absurd (omega arith)
        ]

        never : times r (kept ++ s ∷ rest) ≡ 0
        never =
            let in_rest : times r rest ≡ 0 = order_at cur kept s rest g.long.order r (ap older_in is ∙ p) in
            let in_kept : times r kept ≡ 0 = not_kept in
            let off : one (nat_eq s r) ≡ 0 = seen_other s r apart_s in
            let sum : times r (kept ++ s ∷ rest) ≡ times r kept + (one (nat_eq s r) + times r rest) = times_append r kept (s ∷ rest) in
            omega arith

        last : after.older ≡ None
        last = elim after.older as (λ x. after.older ≡ x → x ≡ None) [
          | None ↦ λ z. refl
          | Some v ↦ λ z.
              let here : one (nat_eq r r) ≡ 1 = seen_same r in
              let used : 0 < uses_by n cur r (done ++ e ∷ others) = omega (arith, sum_of (visits r) cur, seen_was r, seen_r) in
              let has : older_at cur r ≡ Some v = ap older_in q ∙ z in
              let more : 0 < times r (kept ++ s ∷ rest) = g.long.all r used (ap is_some has) in
              let none : times r (kept ++ s ∷ rest) ≡ 0 = never in
              absurd (omega arith)
        ] refl

    gone : (u : ℕ) → 0 < visits u (trace n (value_at cur) node.older) → times u (kept ++ s ∷ rest) ≡ 0
    gone u seen = elim node.older as (λ x. node.older ≡ x → 0 < visits u (trace n (value_at cur) x) → Ends n (value_at cur) x → times u (kept ++ s ∷ rest) ≡ 0) [
      | None ↦ λ p on' ends. let nil : visits u (trace n (value_at cur) None) ≡ 0 = ap (visits u) (nothing n (value_at cur)).0 in absurd (omega arith)
      | Some r ↦ λ p on' ends.
          let live : IsSome (value_at cur r) = first_live n (value_at cur) r ends in
          elim (value_at cur r) as (λ c. value_at cur r ≡ c → IsSome c → times u (kept ++ s ∷ rest) ≡ 0) [
            | None ↦ λ q w. absurd cc
            | Some after ↦ λ q w. gone_at r after p q ends u on'
          ] refl live
    ] refl seen step.1

    list_was : (u : ℕ) → times u (kept ++ s ∷ rest) ≡ times u kept + (one (nat_eq s u) + times u rest)
    list_was u = times_append u kept (s ∷ rest)

    list_now : (u : ℕ) → times u (kept ++ rest) ≡ times u kept + times u rest
    list_now u = times_append u kept rest

    -- the versions that the list still has
    stays_at : (x : ℕ) → 0 < times x (kept ++ rest) → value_at new x ≡ value_at cur x
    stays_at x on' =
        let few : times x (kept ++ s ∷ rest) ≤ uses_by n cur x (done ++ e ∷ others) = g.long.once x in
        let most : uses_by n cur x (done ++ e ∷ others) ≤ 1 = g.forest.apart x in
        let off : one (nat_eq s x) ≡ 0 = omega (arith, list_was x, list_now x) in
        elim (positive (visits x (trace n (value_at cur) node.older))) [
          | inl z ↦ t.others x (omega (arith, seen_here x))
          | inr seen ↦ let none : times x (kept ++ s ∷ rest) ≡ 0 = gone x seen in absurd (omega (arith, list_was x, list_now x))
        ]

    d : Stays n cur new done
    d = stay n cur new e shortens done (all_left (λ x. Ends n (value_at cur) x.1.newest) done (e ∷ others) g.forest.ends) (λ u. omega (arith, apart u))

    r : Stays n cur new others
    r = stay n cur new e shortens others (all_right (λ x. Ends n (value_at cur) x.1.newest) done (e ∷ others) g.forest.ends).1 (λ u. omega (arith, apart u))

    uses_now : (u : ℕ) → uses_by n new u (done ++ e ∷ others) + visits u (trace n (value_at cur) node.older) ≡ uses_by n cur u (done ++ e ∷ others)
    uses_now u =
        let in_done : total (λ h. visits u (trace n (value_at new) h.newest)) done ≡ total (λ h. visits u (trace n (value_at cur) h.newest)) done = same n cur new (visits u) done d in
        let in_others : total (λ h. visits u (trace n (value_at new) h.newest)) others ≡ total (λ h. visits u (trace n (value_at cur) h.newest)) others = same n cur new (visits u) others r in
        omega (arith, sum_of (visits u) cur, sum_of (visits u) new, seen_was u, seen_now u)

    long_now : IsLong n new (done ++ e ∷ others) (kept ++ rest)
    long_now = record {
      once = λ u.
          let few : times u (kept ++ s ∷ rest) ≤ uses_by n cur u (done ++ e ∷ others) = g.long.once u in
          elim (positive (visits u (trace n (value_at cur) node.older))) [
            | inl z ↦ omega (arith, uses_now u, list_was u, list_now u)
            | inr seen ↦ let none : times u (kept ++ s ∷ rest) ≡ 0 = gone u seen in omega (arith, list_was u, list_now u)
          ];
      all = λ u used has. elim (eqb_tells s u) [
        | inl w ↦
            let none : older_at new s ≡ None = last_ends n (value_at new) s t.ends one_long in
            let off : older_at new u ≡ None = subst (λ x. older_at new x ≡ None) w.1 none in
            absurd (wrong (older_at new u) has off)
        | inr w ↦
            let off : one (nat_eq s u) ≡ 0 = ap one w.0 in
            let most : uses_by n cur u (done ++ e ∷ others) ≤ 1 = g.forest.apart u in
            let unseen : visits u (trace n (value_at cur) node.older) ≡ 0 = omega (arith, uses_now u) in
            let stays : value_at new u ≡ value_at cur u = t.others u (omega (arith, seen_here u)) in
            let on' : 0 < times u (kept ++ s ∷ rest) = g.long.all u (omega (arith, uses_now u)) (subst (λ c. IsSome (older_in c)) stays has) in
            omega (arith, list_was u, list_now u)
      ];
      order = order_less cur new kept s rest (λ x on'. ap older_in (stays_at x on')) g.long.order;
    }
      where
        wrong : (x : Option ℕ) → IsSome x → x ≡ None → ⊥
        wrong None has off = absurd cc
        wrong (Some v) has off = cc

    falling_now : AreFalling (versions_in (trace n (value_at new) e.1.newest))
    falling_now =
        let all : trace n (value_at cur) e.1.newest ≡ trace n (value_at new) e.1.newest ++ trace n (value_at cur) node.older = was ∙ moved parts.0 ∙ ap (λ ps. ps ++ trace n (value_at cur) node.older) (sym now) in
        let fall : AreFalling (versions_in (trace n (value_at cur) e.1.newest)) = (all_right (λ x. AreFalling (versions_in (trace n (value_at cur) x.1.newest))) done (e ∷ others) g.falling).0 in
        falling_first (versions_in (trace n (value_at new) e.1.newest)) (versions_in (trace n (value_at cur) node.older))
        (subst AreFalling (ap versions_in all ∙ versions_append (trace n (value_at new) e.1.newest) (trace n (value_at cur) node.older)) fall)
      where
        moved : (above : List (Placed V)) → above ++ (s, (node.index, node.value)) ∷ trace n (value_at cur) node.older ≡ (above ++ (s, (node.index, node.value)) ∷ []) ++ trace n (value_at cur) node.older
        moved above = simp append_assoc

    pub cutting_cuts : Cutting n oldest (done ++ e ∷ others) old new kept rest
    cutting_cuts =
        let more : cur.spare ≤ new.spare = t.spare in
        let more' : old.spare ≤ cur.spare = g.spare in
        let F : Slots (Node V) → K × Head → Type 0 = λ nodes x. AreFalling (versions_in (trace n (value_at nodes) x.1.newest)) in
        let S : K × Head → Type 0 = λ x. cut_at oldest (trace n (value_at cur) x.1.newest) ≡ cut_at oldest (trace n (value_at old) x.1.newest) in
        let N : K × Head → Type 0 = λ x. cut_at oldest (trace n (value_at new) x.1.newest) ≡ cut_at oldest (trace n (value_at old) x.1.newest) in
        record {
          forest = forest_shorter n cur new e shortens done others g.forest d r;
          falling = all_append (F new) done (e ∷ others)
              (all_both _ (F cur) (F new) (λ x p q. subst (λ ps. AreFalling (versions_in ps)) (sym p.0) q) done d (all_left (F cur) done (e ∷ others) g.falling))
              (falling_now, all_both _ (F cur) (F new) (λ x p q. subst (λ ps. AreFalling (versions_in ps)) (sym p.0) q) others r (all_right (F cur) done (e ∷ others) g.falling).1);
          long = long_now;
          late = λ u x on' at. g.late u x on' (sym (stays_at u (omega (arith, list_now u))) ∙ at);
          same = all_append N done (e ∷ others)
              (all_both _ S N (λ x p q. ap (cut_at oldest) p.0 ∙ q) done d (all_left S done (e ∷ others) g.same)) (
                ap (cut_at oldest) now ∙ sym (cut_behind oldest parts.0 (s, (node.index, node.value)) (trace n (value_at cur) node.older) le) ∙ ap (cut_at oldest) (sym was) ∙ (all_right S done (e ∷ others) g.same).0,
                all_both _ S N (λ x p q. ap (cut_at oldest) p.0 ∙ q) others r (all_right S done (e ∷ others) g.same).1,
              );
          cap = t.cap ∙ g.cap;
          spare = omega arith;
        }

-- the same, wherever it is
module _ {K V : Type 0} (n oldest : ℕ) (es : List (K × Head)) (old cur : Slots (Node V)) (kept rest : List ℕ) (s : ℕ) (g : Cutting n oldest es old cur kept (s ∷ rest)) where
  on_chain : 0 < uses_by n cur s es
  on_chain =
      let here : one (nat_eq s s) ≡ 1 = seen_same s in
      let sum : times s (kept ++ s ∷ rest) ≡ times s kept + (one (nat_eq s s) + times s rest) = times_append s kept (s ∷ rest) in
      let few : times s (kept ++ s ∷ rest) ≤ uses_by n cur s es = g.long.once s in
      omega arith

  place : (done : List (K × Head)) × ((e : K × Head) × ((others : List (K × Head)) × ((es ≡ done ++ e ∷ others) × (0 < visits s (trace n (value_at cur) e.1.newest)))))
  place = found (λ h. visits s (trace n (value_at cur) h.newest)) es on_chain

  pub line_of : Ends n (value_at cur) (Some s) × ((length (trace n (value_at cur) (Some s)) ≤ live_count cur) × IsLine (live_count cur) (value_at cur) (Some s))
  line_of = line_at n oldest old cur place.0 place.1.0 place.1.1.0 kept rest s (subst (λ xs. Cutting n oldest xs old cur kept (s ∷ rest)) place.1.1.1.0 g) place.1.1.1.1

  pub cutting_goes_on : (new : Slots (Node V)) (node : Node V) → value_at cur s ≡ Some node → node.index ≤ oldest → Trims (live_count cur) oldest (Some s) cur new → Cutting n oldest es old new kept rest
  cutting_goes_on new node is le t =
      let line : Ends n (value_at cur) (Some s) × ((length (trace n (value_at cur) (Some s)) ≤ live_count cur) × IsLine (live_count cur) (value_at cur) (Some s)) = line_of in
      subst (λ xs. Cutting n oldest xs old new kept rest) (sym place.1.1.1.0)
      (cutting_cuts n oldest old cur place.0 place.1.0 place.1.1.0 kept rest s (subst (λ xs. Cutting n oldest xs old cur kept (s ∷ rest)) place.1.1.1.0 g) place.1.1.1.1
      new node is le (trims_fuel n (live_count cur) oldest (Some s) cur new line.0 line.1.0 t))

-- the list as the loop holds it: kept entries at its start, and those from a place on that are left
module _ {K V : Type 0} where
  pub place_starts : (cmp : K → K → Ordering) (es : List (K × Head)) (nodes : Slots (Node V)) (cap round last : ℕ) (ss : List ℕ) (capacity oldest : ℕ) → IsWhole cmp es nodes cap round last ss capacity
      → Cutting (live_count nodes) oldest es nodes nodes [] ss
  place_starts cmp es nodes cap round last ss capacity oldest w = cutting_starts (live_count nodes) oldest es nodes ss (forest_of cmp es nodes cap round last w.sound)
      (all_map (λ e. IsHead nodes last e.1) (λ e. AreFalling (versions_in (trace (live_count nodes) (value_at nodes) e.1.newest))) (λ e p. p.falling) es w.sound.heads) w.long

  module _ (n oldest : ℕ) (es : List (K × Head)) (old cur : Slots (Node V)) (kept at : ℕ) (ss : List ℕ) (g : Cutting n oldest es old cur (take kept ss) (drop at ss)) where
    pub place_ends : length ss ≤ at → TrimsAll n oldest es old cur × IsLong n cur es (take kept ss)
    place_ends le = cutting_ends n oldest es old cur (take kept ss) (subst (Cutting n oldest es old cur (take kept ss)) (drop_of_length-le ss le) g)

    module _ (s : ℕ) (is : s ≡ get_or ss at s) (lt : at < length ss) where
      place_at : Cutting n oldest es old cur (take kept ss) (s ∷ drop (at + 1) ss)
      place_at = subst (Cutting n oldest es old cur (take kept ss)) (drop_more ss at s lt ∙ ap (λ x. x ∷ drop (at + 1) ss) (sym is)) g

      pub place_live : IsSome (value_at cur s)
      place_live = first_live n (value_at cur) s (line_of n oldest es old cur (take kept ss) (drop (at + 1) ss) s place_at).0

      pub place_line : IsLine (live_count cur) (value_at cur) (Some s)
      place_line = (line_of n oldest es old cur (take kept ss) (drop (at + 1) ss) s place_at).1.1

      pub place_cut : (new : Slots (Node V)) (node : Node V) → value_at cur s ≡ Some node → node.index ≤ oldest → Trims (live_count cur) oldest (Some s) cur new
          → Cutting n oldest es old new (take kept ss) (drop (at + 1) ss)
      place_cut = cutting_goes_on n oldest es old cur (take kept ss) (drop (at + 1) ss) s place_at

      pub place_kept : (node : Node V) → value_at cur s ≡ Some node → oldest < node.index → kept ≤ at → Cutting n oldest es old cur (take (kept + 1) (set ss kept s)) (drop (at + 1) (set ss kept s))
      place_kept node live late le =
          let next : Cutting n oldest es old cur (take kept ss ++ s ∷ []) (drop (at + 1) ss) = cutting_keeps n oldest es old cur (take kept ss) (drop (at + 1) ss) s node place_at live late in
          subst (λ xs. Cutting n oldest es old cur xs (drop (at + 1) (set ss kept s))) (sym (take_more_set ss kept s (omega arith)))
          (subst (Cutting n oldest es old cur (take kept ss ++ s ∷ [])) (sym (drop-set-lt (at + 1) ss kept s (omega arith))) next)
