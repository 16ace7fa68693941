-- The fields of chains stay sound: after an install, and while keys are given room.
use Rattle.std.proofs.Common.{◌≡◌, ℕ, ◌+◌, ◌<◌, ◌≤◌, suc, true, false, List, [], ◌∷◌, Option, Some, None, is_some, refl, sym, ap, ◌∙◌, subst, arith, inl, inr}
use Rattle.std.proofs.lemmas.Bool.Decides.{eqb_tells}
use Rattle.std.specs.Prelude.{nat_eq}
use Rattle.std.specs.List.{AllByRecursion}
use Rattle.std.specs.Cmp.{IsTotalOrder}
use Rattle.std.specs.declared.cmp.Ordering.{Ordering}
use Rattle.std.specs.FinMap.{find, IsAntisymmetric}
use Rattle.std.specs.FinMap.Entries.{put, is_sorted-put}
use Rattle.r3_pool.specs.Slots.{Slots, Fills, value_at, live_count}
use Rattle.r3_chain.specs.Versions.{Version, versions_of, installed, kept_count, has_room, without, IsNext, AreFalling}
use Rattle.r3_chain.specs.VersionLaws.{kept_count-installed}
use Rattle.r3_chain.specs.Links.{trace, Ends, visits, versions_in, chain_in, IsChain}
use Rattle.r3_chain.specs.Heads.{newest_in, has_round, is_marked, written, room_in, kept_by}
use Rattle.r3_chain.specs.Sound.{one_if, total, room_count, uses, IsHead, IsSound}
use Rattle.r3_chain.specs.declared.node.Node.{Node}
use Rattle.r3_chain.specs.declared.head.Head.{Head}
use Rattle.r3_chain.proofs.LinkLemmas.{trace_longer, trace_kept, trace_pushed, nothing}
use Rattle.r3_chain.proofs.HeadLemmas.{kept_versions, kept_put, kept_alike, sorted_kept, room_is, room_less, all_map, all_put, all_found, total_alike, total_put}

module _ {V : Type 0} (nodes : Slots (Node V)) where
  pub no_chain : chain_in nodes None ≡ []
  no_chain = ap versions_in (nothing (live_count nodes) (value_at nodes)).0

  -- a key's chain is whole and newest first, also where it has none
  pub head_chain : {K : Type 0} (cmp : K → K → Ordering) (last : ℕ) (q : K) (es : List (K × Head)) → AllByRecursion (λ e. IsHead nodes last e.1) es
      → IsChain nodes (newest_in (find cmp q es)) × AreFalling (chain_in nodes (newest_in (find cmp q es)))
  head_chain cmp last q es h =
      elim (find cmp q es) as (λ f. find cmp q es ≡ f → IsChain nodes (newest_in f) × AreFalling (chain_in nodes (newest_in f))) [
        | None ↦ λ p. ((nothing (live_count nodes) (value_at nodes)).1, subst AreFalling (sym no_chain) tt)
        | Some v ↦ λ p. let ok : IsHead nodes last v = all_found cmp (IsHead nodes last) q es v h p in (ok.chain, ok.falling)
      ] refl

falls : {V : Type 0} (index : ℕ) (vs : List (Version V)) → AllByRecursion (λ v. v.0 < index) vs → AllByRecursion (λ v. v.0 ≤ index) vs
falls index vs h = all_map (λ v. v.0 < index) (λ v. v.0 ≤ index) (λ v p. omega arith) vs h

marked_some : (round : ℕ) (f : Option Head) → is_marked round f ≡ true → (h : Head) × (f ≡ Some h)
marked_some round None p = absurd cc
marked_some round (Some h) p = (h, refl)

off_round : (round : ℕ) → 0 < round → nat_eq 0 round ≡ false
off_round round lt = elim (eqb_tells 0 round) [ inl t ↦ absurd (omega arith) | inr t ↦ t.0 ]

unmarked : (round s : ℕ) → 0 < round → has_round round (written s) ≡ false
unmarked round s lt = rw (off_round round lt) refl

module _ {K V : Type 0} (cmp : K → K → Ordering) (o : IsTotalOrder cmp) (es : List (K × Head)) (old new : Slots (Node V)) (cap round last s index : ℕ) (key : K) (x : Option V)
    (snd : IsSound cmp es old cap round last) (h : Head) (found : find cmp key es ≡ Some h)
    (fills : Fills old new s (record { index = index; value = x; older = newest_in (find cmp key es) })) where
  grows : live_count new ≡ suc (live_count old)
  grows = let more : live_count new ≡ live_count old + 1 = fills.live in omega arith

  same_trace : (t : Option ℕ) → IsChain old t → (trace (live_count new) (value_at new) t ≡ trace (live_count old) (value_at old) t) × IsChain new t
  same_trace t ends =
      let kept : (trace (live_count old) (value_at new) t ≡ trace (live_count old) (value_at old) t) × Ends (live_count old) (value_at new) t =
      trace_kept (live_count old) (value_at old) (value_at new) s t fills.was_free fills.others ends in
      let longer : (trace (suc (live_count old)) (value_at new) t ≡ trace (live_count old) (value_at new) t) × Ends (suc (live_count old)) (value_at new) t =
      trace_longer (live_count old) (value_at new) t kept.1 in
      subst (λ n. (trace n (value_at new) t ≡ trace (live_count old) (value_at old) t) × Ends n (value_at new) t) (sym grows) (longer.0 ∙ kept.0, longer.1)

  old_head : IsHead old last h
  old_head = all_found cmp (IsHead old last) key es h snd.heads found

  new_trace : (trace (live_count new) (value_at new) (Some s) ≡ (s, (index, x)) ∷ trace (live_count old) (value_at old) h.newest) × IsChain new (Some s)
  new_trace =
      let older : newest_in (find cmp key es) ≡ h.newest = ap newest_in found in
      let holds : value_at new s ≡ Some (record { index = index; value = x; older = h.newest }) =
      fills.holds ∙ ap (λ t. Some (record { index = index; value = x; older = t })) older in
      let pushed : (trace (suc (live_count old)) (value_at new) (Some s) ≡ (s, (index, x)) ∷ trace (live_count old) (value_at old) h.newest) × Ends (suc (live_count old)) (value_at new) (Some s) =
      trace_pushed (live_count old) (value_at old) (value_at new) s index x h.newest fills.was_free fills.others holds old_head.chain in
      subst (λ n. (trace n (value_at new) (Some s) ≡ (s, (index, x)) ∷ trace (live_count old) (value_at old) h.newest) × Ends n (value_at new) (Some s)) (sym grows) pushed

  same_chains : AllByRecursion (λ e. chain_in new e.1.newest ≡ chain_in old e.1.newest) es
  same_chains = all_map (λ e. IsHead old last e.1) (λ e. chain_in new e.1.newest ≡ chain_in old e.1.newest) (λ e p. ap versions_in (same_trace e.1.newest p.chain).0) es snd.heads

  was : versions_of cmp key (kept_by (chain_in old) es) ≡ chain_in old h.newest
  was = kept_versions cmp o (chain_in old) (no_chain old) key es snd.sorted ∙ ap (λ f. chain_in old (newest_in f)) found

  pub versions_after : IsAntisymmetric cmp → kept_by (chain_in new) (put cmp key (written s) es) ≡ installed cmp index key x (kept_by (chain_in old) es)
  versions_after same =
      let top : chain_in new (Some s) ≡ (index, x) ∷ chain_in old h.newest = ap versions_in new_trace.0 in
      kept_put cmp o (chain_in new) (no_chain new) same key (written s) (index, x) (chain_in old h.newest) es snd.sorted top
      ∙ ap (put cmp key (chain_in new (Some s))) (kept_alike (chain_in old) (chain_in new) es same_chains)
      ∙ ap (λ vs. put cmp key vs (kept_by (chain_in old) es)) (top ∙ ap (λ vs. (index, x) ∷ vs) (sym was))

  pub new_uses : (t : ℕ) → uses t new (put cmp key (written s) es) ≡ uses t old es + one_if (nat_eq s t)
  new_uses t =
      let weight : Head → ℕ = λ g. visits t (trace (live_count new) (value_at new) g.newest) in
      let alike : total weight es ≡ uses t old es =
      total_alike (λ g. visits t (trace (live_count old) (value_at old) g.newest)) weight es
      (all_map (λ e. IsHead old last e.1) (λ e. weight e.1 ≡ visits t (trace (live_count old) (value_at old) e.1.newest)) (λ e p. ap (visits t) (same_trace e.1.newest p.chain).0) es snd.heads) in
      let sum : total weight (put cmp key (written s) es) + weight h ≡ total weight es + weight (written s) = total_put cmp o weight key (written s) h es snd.sorted found in
      let here : weight (written s) ≡ one_if (nat_eq s t) + visits t (trace (live_count old) (value_at old) h.newest) = ap (visits t) new_trace.0 in
      let there : weight h ≡ visits t (trace (live_count old) (value_at old) h.newest) = ap (visits t) (same_trace h.newest old_head.chain).0 in
      omega arith

  new_apart : (t : ℕ) → uses t new (put cmp key (written s) es) ≤ one_if (is_some (value_at new t))
  new_apart t =
      let before : uses t old es ≤ one_if (is_some (value_at old t)) = snd.apart t in
      let after : uses t new (put cmp key (written s) es) ≡ uses t old es + one_if (nat_eq s t) = new_uses t in
      elim (eqb_tells s t) [
        | inl e ↦
            let on : one_if (nat_eq s t) ≡ 1 = ap one_if e.0 in
            let free : one_if (is_some (value_at old t)) ≡ 0 = subst (λ u. one_if (is_some (value_at old u)) ≡ 0) e.1 (ap (λ c. one_if (is_some c)) fills.was_free) in
            let live : one_if (is_some (value_at new t)) ≡ 1 = subst (λ u. one_if (is_some (value_at new u)) ≡ 1) e.1 (ap (λ c. one_if (is_some c)) fills.holds) in
            omega arith
        | inr e ↦
            let off : one_if (nat_eq s t) ≡ 0 = ap one_if e.0 in
            let stays : one_if (is_some (value_at new t)) ≡ one_if (is_some (value_at old t)) = ap (λ c. one_if (is_some c)) (fills.others t (λ q. e.1 (sym q))) in
            omega arith
      ]

  pub one_less : has_round round h ≡ true → 0 < round → room_count round (put cmp key (written s) es) + 1 ≡ room_count round es
  one_less on lt =
      let sum : room_count round (put cmp key (written s) es) + one_if (has_round round h) ≡ room_count round es + one_if (has_round round (written s)) =
      total_put cmp o (λ g. one_if (has_round round g)) key (written s) h es snd.sorted found in
      let one : one_if (has_round round h) ≡ 1 = ap one_if on in
      let none : one_if (has_round round (written s)) ≡ 0 = ap one_if (unmarked round s lt) in
      omega arith

  pub sound_after : IsAntisymmetric cmp → IsNext cmp index key (kept_by (chain_in old) es) → has_round round h ≡ true → new.cap ≡ old.cap → new.spare + 1 ≡ old.spare
      → IsSound cmp (put cmp key (written s) es) new cap round last
  sound_after same next on cap_is spare_is =
      let top : chain_in new (Some s) ≡ (index, x) ∷ chain_in old h.newest = ap versions_in new_trace.0 in
      let less : AllByRecursion (λ v. v.0 < index) (chain_in old h.newest) = subst (AllByRecursion (λ v. v.0 < index)) was next in
      let less_room : room_count round (put cmp key (written s) es) + 1 ≡ room_count round es = one_less on snd.first in
      let fits : room_count round es ≤ old.spare = snd.room in
      let more : live_count new ≡ live_count old + 1 = fills.live in
      let counted : kept_count (kept_by (chain_in new) (put cmp key (written s) es)) ≡ kept_count (kept_by (chain_in old) es) + 1 =
      ap kept_count (versions_after same) ∙ kept_count-installed cmp o index key x (kept_by (chain_in old) es) (sorted_kept cmp o (chain_in old) (no_chain old) es snd.sorted) in
      let all : kept_count (kept_by (chain_in old) es) ≡ live_count old = snd.count in
      record {
        sorted = is_sorted-put cmp o key (written s) es snd.sorted;
        heads = all_put cmp (IsHead new last) key (written s) es
            (record {
              chain = new_trace.1;
              falling = subst AreFalling (sym top) (falls index (chain_in old h.newest) less, old_head.falling);
              round = omega arith;
              before = omega arith;
            })
            (all_map (λ e. IsHead old last e.1) (λ e. IsHead new last e.1)
            (λ e p. record {
              chain = (same_trace e.1.newest p.chain).1;
              falling = subst AreFalling (sym (ap versions_in (same_trace e.1.newest p.chain).0)) p.falling;
              round = p.round;
              before = p.before;
            }) es snd.heads);
        apart = new_apart;
        count = omega arith;
        room = omega arith;
        limit = cap_is ∙ snd.limit;
        first = snd.first;
        rounds = snd.rounds;
      }

module _ {K V : Type 0} (cmp : K → K → Ordering) (o : IsTotalOrder cmp) (es : List (K × Head)) (nodes : Slots (Node V)) (cap round last : ℕ) (ok : IsSound cmp es nodes cap round last) (key : K) where
  -- a key that has room has a head
  pub has_head : has_room cmp key (room_in round es) ≡ true → (h : Head) × ((find cmp key es ≡ Some h) × (has_round round h ≡ true))
  has_head room =
      let on : is_marked round (find cmp key es) ≡ true = sym (room_is cmp o round key es ok.sorted) ∙ room in
      let head : (h : Head) × (find cmp key es ≡ Some h) = marked_some round (find cmp key es) on in
      (head.0, (head.1, sym (ap (is_marked round) head.1) ∙ on))

  pub some_room : has_room cmp key (room_in round es) ≡ true → 0 < room_count round es
  some_room room =
      let head : (h : Head) × ((find cmp key es ≡ Some h) × (has_round round h ≡ true)) = has_head room in
      let weight : Head → ℕ = λ g. one_if (has_round round g) in
      let sum : room_count round (put cmp key (written 0) es) + one_if (has_round round head.0) ≡ room_count round es + one_if (has_round round (written 0)) =
      total_put cmp o (λ g. one_if (has_round round g)) key (written 0) head.0 es ok.sorted head.1.0 in
      let one : one_if (has_round round head.0) ≡ 1 = ap one_if head.1.1 in
      let none : one_if (has_round round (written 0)) ≡ 0 = ap one_if (unmarked round 0 ok.first) in
      omega arith

  pub has_spare : has_room cmp key (room_in round es) ≡ true → 0 < nodes.spare
  has_spare room = let some : 0 < room_count round es = some_room room in let fits : room_count round es ≤ nodes.spare = ok.room in omega arith

  pub room_after : (s : ℕ) → has_room cmp key (room_in round es) ≡ true → room_in round (put cmp key (written s) es) ≡ without cmp key (room_in round es)
  room_after s room =
      let head : (h : Head) × ((find cmp key es ≡ Some h) × (has_round round h ≡ true)) = has_head room in
      room_less cmp o round key (written s) es ok.sorted (unmarked round s ok.first) (ap (is_marked round) head.1.0 ∙ head.1.1)

  -- the versions of a key are on its chain
  pub chain_is : versions_of cmp key (kept_by (chain_in nodes) es) ≡ chain_in nodes (newest_in (find cmp key es))
  chain_is = kept_versions cmp o (chain_in nodes) (no_chain nodes) key es ok.sorted
