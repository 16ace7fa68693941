-- The fields of chains while keys are given room.
use Rattle.std.proofs.Common.{◌≡◌, ◌≢◌, ℕ, ◌+◌, ◌<◌, ◌≤◌, true, false, cond, ◌||◌, List, [], ◌∷◌, length, fold, Option, Some, None, is_some, refl, sym, ap, ◌∙◌, subst, arith, eq-eqb, inl, inr}
use Rattle.std.proofs.lemmas.Bool.Decides.{eqb_tells}
use Rattle.std.specs.Prelude.{T, nat_eq, Result, Ok, Err, OnOk}
use Rattle.std.specs.Result.{is_err}
use Rattle.std.specs.List.{AllByRecursion}
use Rattle.std.specs.Cmp.{IsTotalOrder}
use Rattle.std.specs.BTreeSet.{insert_key}
use Rattle.std.specs.declared.cmp.Ordering.{Ordering}
use Rattle.std.specs.FinMap.{find, IsAntisymmetric}
use Rattle.std.specs.FinMap.Entries.{put, is_sorted, is_sorted-put}
use Rattle.r3_pool.specs.Slots.{Slots, value_at, live_count, with_spare}
use Rattle.r3_chain.specs.Versions.{Chains, Versions, kept_count, AreFalling}
use Rattle.r3_chain.specs.Links.{trace, visits, chain_in, IsChain}
use Rattle.r3_chain.specs.Heads.{newest_in, has_round, is_marked, roomed, all_roomed, room_in, kept_by}
use Rattle.r3_chain.specs.Sound.{one_if, total, uses, room_count, IsHead, IsSound}
use Rattle.r3_chain.specs.declared.node.Node.{Node}
use Rattle.r3_chain.specs.declared.head.Head.{Head}
use Rattle.r3_chain.proofs.LinkLemmas.{nothing}
use Rattle.r3_chain.proofs.HeadLemmas.{kept_same, room_same, room_more, all_map, all_put, all_found, total_put, total_added}
use Rattle.r3_chain.proofs.SoundLemmas.{no_chain, head_chain}

differ : (a b : ℕ) → a ≢ b → nat_eq a b ≡ false
differ a b ne = elim (eqb_tells a b) [ inl t ↦ absurd (ne t.1) | inr t ↦ t.0 ]

pub roomed_newest : (round next : ℕ) (f : Option Head) → (roomed round next f).newest ≡ newest_in f
roomed_newest round next None = refl
roomed_newest round next (Some h) = refl

-- the room of this round stays
roomed_keeps : (round next : ℕ) (f : Option Head) → 0 < round → round < next → has_round round (roomed round next f) ≡ is_marked round f
roomed_keeps round next None pos lt =
    let a : nat_eq next round ≡ false = differ next round (λ e. absurd (omega arith)) in
    let b : nat_eq 0 round ≡ false = differ 0 round (λ e. absurd (omega arith)) in
    rw (a, b) refl
roomed_keeps round next (Some h) pos lt =
    let a : nat_eq next round ≡ false = differ next round (λ e. absurd (omega arith)) in
    let same : nat_eq round round ≡ true = eq-eqb round round refl in
    ap (λ b. b || nat_eq (cond (nat_eq h.round round) round h.before) round) a
    ∙ elim (nat_eq h.round round) as (λ b. nat_eq (cond b round h.before) round ≡ (b || nat_eq h.before round)) [ true ↦ same | false ↦ refl ]

roomed_marked : (round next : ℕ) (f : Option Head) → has_round next (roomed round next f) ≡ true
roomed_marked round next None = let on : nat_eq next next ≡ true = eq-eqb next next refl in rw on refl
roomed_marked round next (Some h) = let on : nat_eq next next ≡ true = eq-eqb next next refl in rw on refl

abbrev weight_at : (Head → ℕ) → Option Head → ℕ
weight_at weight None = 0
weight_at weight (Some h) = weight h

total_same : {K : Type 0} (cmp : K → K → Ordering) → IsTotalOrder cmp → (weight : Head → ℕ) (k : K) (v : Head) (es : List (K × Head)) → T (is_sorted cmp es)
    → weight v ≡ weight_at weight (find cmp k es) → total weight (put cmp k v es) ≡ total weight es
total_same cmp o weight k v es h same =
    elim (find cmp k es) as (λ f. find cmp k es ≡ f → weight v ≡ weight_at weight f → total weight (put cmp k v es) ≡ total weight es) [
      | None ↦ λ p s. let more : total weight (put cmp k v es) ≡ total weight es + weight v = total_added cmp o weight k v es h p in omega arith
      | Some w ↦ λ p s. let more : total weight (put cmp k v es) + weight w ≡ total weight es + weight v = total_put cmp o weight k v w es h p in omega arith
    ] refl same

total_one : {K : Type 0} (cmp : K → K → Ordering) → IsTotalOrder cmp → (weight : Head → ℕ) (k : K) (v : Head) (es : List (K × Head)) → T (is_sorted cmp es)
    → weight v ≡ 1 → total weight (put cmp k v es) ≤ total weight es + 1
total_one cmp o weight k v es h one =
    elim (find cmp k es) as (λ f. find cmp k es ≡ f → total weight (put cmp k v es) ≤ total weight es + 1) [
      | None ↦ λ p. let more : total weight (put cmp k v es) ≡ total weight es + weight v = total_added cmp o weight k v es h p in omega arith
      | Some w ↦ λ p. let more : total weight (put cmp k v es) + weight w ≡ total weight es + weight v = total_put cmp o weight k v w es h p in omega arith
    ] refl

module _ {K V : Type 0} (cmp : K → K → Ordering) (o : IsTotalOrder cmp) (nodes : Slots (Node V)) where
  visits_of : (t : ℕ) (round next : ℕ) (f : Option Head)
      → visits t (trace (live_count nodes) (value_at nodes) (roomed round next f).newest) ≡ weight_at (λ h. visits t (trace (live_count nodes) (value_at nodes) h.newest)) f
  visits_of t round next None = ap (visits t) (nothing (live_count nodes) (value_at nodes)).0
  visits_of t round next (Some h) = refl

  marks_of : (round next : ℕ) (f : Option Head) → 0 < round → round < next → one_if (has_round round (roomed round next f)) ≡ weight_at (λ h. one_if (has_round round h)) f
  marks_of round next None pos lt = ap one_if (roomed_keeps round next None pos lt)
  marks_of round next (Some h) pos lt = ap one_if (roomed_keeps round next (Some h) pos lt)

  before_of : (round next last : ℕ) (f : Option Head) → ((h : Head) → f ≡ Some h → IsHead nodes last h) → round ≤ last → (roomed round next f).before ≤ last
  before_of round next last None old le = omega arith
  before_of round next last (Some h) old le =
      let ok : h.before ≤ last = (old h refl).before in
      elim (nat_eq h.round round) as (λ b. cond b round h.before ≤ last) [ true ↦ le | false ↦ ok ]

  round_of : (round next last : ℕ) (f : Option Head) → next ≤ last → (roomed round next f).round ≤ last
  round_of round next last None le = le
  round_of round next last (Some h) le = le

  kept_one : (cap round next last : ℕ) (k : K) (es : List (K × Head)) → IsSound cmp es nodes cap round last
      → kept_by (chain_in nodes) (put cmp k (roomed round next (find cmp k es)) es) ≡ kept_by (chain_in nodes) es
  kept_one cap round next last k es ok =
      kept_same cmp o (chain_in nodes) (no_chain nodes) k (roomed round next (find cmp k es)) es ok.sorted (ap (chain_in nodes) (roomed_newest round next (find cmp k es)))

  sound_one : (cap round next last : ℕ) (k : K) (es : List (K × Head)) → round < next → next ≤ last → IsSound cmp es nodes cap round last
      → IsSound cmp (put cmp k (roomed round next (find cmp k es)) es) nodes cap round last
  sound_one cap round next last k es lt le ok =
      let v : Head = roomed round next (find cmp k es) in
      let old : IsChain nodes (newest_in (find cmp k es)) × AreFalling (chain_in nodes (newest_in (find cmp k es))) = head_chain nodes cmp last k es ok.heads in
      let newest : (roomed round next (find cmp k es)).newest ≡ newest_in (find cmp k es) = roomed_newest round next (find cmp k es) in
      let head : IsHead nodes last (roomed round next (find cmp k es)) = record {
        chain = subst (IsChain nodes) (sym newest) old.0;
        falling = subst (λ t. AreFalling (chain_in nodes t)) (sym newest) old.1;
        round = round_of round next last (find cmp k es) le;
        before = before_of round next last (find cmp k es) (λ h p. all_found cmp (IsHead nodes last) k es h ok.heads p) ok.rounds;
      } in
      record {
        sorted = is_sorted-put cmp o k (roomed round next (find cmp k es)) es ok.sorted;
        heads = all_put cmp (IsHead nodes last) k (roomed round next (find cmp k es)) es head ok.heads;
        apart = λ t. subst (λ n. n ≤ one_if (is_some (value_at nodes t)))
            (sym (total_same cmp o (λ h. visits t (trace (live_count nodes) (value_at nodes) h.newest)) k (roomed round next (find cmp k es)) es ok.sorted (visits_of t round next (find cmp k es)))) (ok.apart t);
        count = ap kept_count (kept_one cap round next last k es ok) ∙ ok.count;
        room = subst (λ n. n ≤ nodes.spare)
            (sym (total_same cmp o (λ h. one_if (has_round round h)) k (roomed round next (find cmp k es)) es ok.sorted (marks_of round next (find cmp k es) ok.first lt))) ok.room;
        limit = ok.limit;
        first = ok.first;
        rounds = ok.rounds;
      }

  pub sound_all : (cap round next last : ℕ) (ks : List K) (es : List (K × Head)) → round < next → next ≤ last → IsSound cmp es nodes cap round last
      → IsSound cmp (all_roomed cmp round next ks es) nodes cap round last
  sound_all cap round next last [] es lt le ok = ok
  sound_all cap round next last (k ∷ ks) es lt le ok = sound_all cap round next last ks (put cmp k (roomed round next (find cmp k es)) es) lt le (sound_one cap round next last k es lt le ok)

  pub uses_all : (cap round next last : ℕ) (ks : List K) (es : List (K × Head)) → round < next → next ≤ last → IsSound cmp es nodes cap round last
      → (t : ℕ) → uses t nodes (all_roomed cmp round next ks es) ≡ uses t nodes es
  uses_all cap round next last [] es lt le ok t = refl
  uses_all cap round next last (k ∷ ks) es lt le ok t =
      uses_all cap round next last ks (put cmp k (roomed round next (find cmp k es)) es) lt le (sound_one cap round next last k es lt le ok) t
      ∙ total_same cmp o (λ h. visits t (trace (live_count nodes) (value_at nodes) h.newest)) k (roomed round next (find cmp k es)) es ok.sorted (visits_of t round next (find cmp k es))

  pub rooms_all : (cap round next last : ℕ) (ks : List K) (es : List (K × Head)) → round < next → next ≤ last → IsSound cmp es nodes cap round last
      → room_count round (all_roomed cmp round next ks es) ≡ room_count round es
  rooms_all cap round next last [] es lt le ok = refl
  rooms_all cap round next last (k ∷ ks) es lt le ok =
      rooms_all cap round next last ks (put cmp k (roomed round next (find cmp k es)) es) lt le (sound_one cap round next last k es lt le ok)
      ∙ total_same cmp o (λ h. one_if (has_round round h)) k (roomed round next (find cmp k es)) es ok.sorted (marks_of round next (find cmp k es) ok.first lt)

  pub kept_all : (cap round next last : ℕ) (ks : List K) (es : List (K × Head)) → round < next → next ≤ last → IsSound cmp es nodes cap round last
      → kept_by (chain_in nodes) (all_roomed cmp round next ks es) ≡ kept_by (chain_in nodes) es
  kept_all cap round next last [] es lt le ok = refl
  kept_all cap round next last (k ∷ ks) es lt le ok =
      kept_all cap round next last ks (put cmp k (roomed round next (find cmp k es)) es) lt le (sound_one cap round next last k es lt le ok) ∙ kept_one cap round next last k es ok

  pub room_all : (cap round next last : ℕ) (ks : List K) (es : List (K × Head)) → round < next → next ≤ last → IsSound cmp es nodes cap round last
      → room_in round (all_roomed cmp round next ks es) ≡ room_in round es
  room_all cap round next last [] es lt le ok = refl
  room_all cap round next last (k ∷ ks) es lt le ok =
      room_all cap round next last ks (put cmp k (roomed round next (find cmp k es)) es) lt le (sound_one cap round next last k es lt le ok)
      ∙ room_same cmp o round k (roomed round next (find cmp k es)) es ok.sorted (roomed_keeps round next (find cmp k es) ok.first lt)

  pub count_all : (cap round next last : ℕ) (ks : List K) (es : List (K × Head)) → round < next → next ≤ last → IsSound cmp es nodes cap round last
      → room_count next (all_roomed cmp round next ks es) ≤ room_count next es + length ks
  count_all cap round next last [] es lt le ok = omega arith
  count_all cap round next last (k ∷ ks) es lt le ok =
      let rest : room_count next (all_roomed cmp round next (k ∷ ks) es) ≤ room_count next (put cmp k (roomed round next (find cmp k es)) es) + length ks =
      count_all cap round next last ks (put cmp k (roomed round next (find cmp k es)) es) lt le (sound_one cap round next last k es lt le ok) in
      let one : room_count next (put cmp k (roomed round next (find cmp k es)) es) ≤ room_count next es + 1 =
      total_one cmp o (λ h. one_if (has_round next h)) k (roomed round next (find cmp k es)) es ok.sorted (ap one_if (roomed_marked round next (find cmp k es))) in
      omega arith

  pub keys_all : IsAntisymmetric cmp → (cap round next last : ℕ) (ks : List K) (es : List (K × Head)) → round < next → next ≤ last → IsSound cmp es nodes cap round last
      → room_in next (all_roomed cmp round next ks es) ≡ fold (insert_key cmp) (room_in next es) ks
  keys_all same cap round next last [] es lt le ok = refl
  keys_all same cap round next last (k ∷ ks) es lt le ok =
      keys_all same cap round next last ks (put cmp k (roomed round next (find cmp k es)) es) lt le (sound_one cap round next last k es lt le ok)
      ∙ ap (λ zs. fold (insert_key cmp) zs ks) (room_more cmp o next same k (roomed round next (find cmp k es)) es ok.sorted (roomed_marked round next (find cmp k es)))

  -- no head names a later round
  fresh : (next last : ℕ) (h : Head) → IsHead nodes last h → last < next → has_round next h ≡ false
  fresh next last h ok lt =
      let r : h.round ≤ last = ok.round in
      let b : h.before ≤ last = ok.before in
      let off : nat_eq h.round next ≡ false = differ h.round next (λ e. absurd (omega arith)) in
      let off' : nat_eq h.before next ≡ false = differ h.before next (λ e. absurd (omega arith)) in
      rw (off, off') refl

  pub none_yet : (next last : ℕ) (es : List (K × Head)) → AllByRecursion (λ e. IsHead nodes last e.1) es → last < next → (room_in next es ≡ []) × (room_count next es ≡ 0)
  none_yet next last [] h lt = (refl, refl)
  none_yet next last (e ∷ es) h lt =
      let rest : (room_in next es ≡ []) × (room_count next es ≡ 0) = none_yet next last es h.1 lt in
      let off : has_round next e.1 ≡ false = fresh next last e.1 h.0 lt in
      let light : one_if (has_round next e.1) ≡ 0 = ap one_if off in
      let none : room_count next es ≡ 0 = rest.1 in
      (ap (λ b. cond b (e.0 ∷ room_in next es) (room_in next es)) off ∙ rest.0, omega arith)

  -- one more round may be named
  pub later_round : (cap round last : ℕ) (es : List (K × Head)) → IsSound cmp es nodes cap round last → IsSound cmp es nodes cap round (last + 1)
  later_round cap round last es ok =
      let r : round ≤ last = ok.rounds in
      record {
        sorted = ok.sorted;
        heads = all_map (λ e. IsHead nodes last e.1) (λ e. IsHead nodes (last + 1) e.1)
            (λ e p. let a : e.1.round ≤ last = p.round in let b : e.1.before ≤ last = p.before in record { chain = p.chain; falling = p.falling; round = omega arith; before = omega arith }) es ok.heads;
        apart = ok.apart;
        count = ok.count;
        room = ok.room;
        limit = ok.limit;
        first = ok.first;
        rounds = omega arith;
      }

  -- and it counts from now on
  pub next_round : (cap round next : ℕ) (es : List (K × Head)) → room_count next es ≤ nodes.spare → 0 < next → IsSound cmp es nodes cap round next → IsSound cmp es nodes cap next next
  next_round cap round next es fits pos ok = record {
    sorted = ok.sorted;
    heads = ok.heads;
    apart = ok.apart;
    count = ok.count;
    room = fits;
    limit = ok.limit;
    first = pos;
    rounds = omega arith;
  }

  -- more slots are reserved
  pub more_spare : (cap round last n : ℕ) (es : List (K × Head)) → nodes.spare ≤ n → IsSound cmp es nodes cap round last → IsSound cmp es (with_spare nodes n) cap round last
  more_spare cap round last n es le ok =
      let fits : room_count round es ≤ nodes.spare = ok.room in
      record {
        sorted = ok.sorted;
        heads = all_map (λ e. IsHead nodes last e.1) (λ e. IsHead (with_spare nodes n) last e.1) (λ e p. record { chain = p.chain; falling = p.falling; round = p.round; before = p.before }) es ok.heads;
        apart = ok.apart;
        count = ok.count;
        room = omega arith;
        limit = ok.limit;
        first = ok.first;
        rounds = ok.rounds;
      }

pub view_same : {K V : Type 0} (a b : Versions K V) (r s : List K) (cap : ℕ) → a ≡ b → r ≡ s
    → ◌≡◌ {A = Chains K V} (record { versions = a; room = r; cap = cap }) (record { versions = b; room = s; cap = cap })
view_same a b r s cap p q = rw (p, q) refl

pub on_ok : {A E : Type 0} (r : Result A E) (P : Type 0) → is_err r ≡ false → OnOk r P → P
on_ok (Ok x) P off h = h
on_ok (Err e) P off h = absurd cc
