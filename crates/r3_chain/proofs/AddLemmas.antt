-- A version that is added without room stands as one that is installed where its key was given room first.
use Rattle.std.proofs.Common.{◌≡◌, ℕ, ◌+◌, ◌<◌, ◌≤◌, max, true, false, cond, ◌||◌, List, [], ◌∷◌, fold, Option, Some, refl, sym, ap, ◌∙◌, subst, arith}
use Rattle.std.specs.Cmp.{IsTotalOrder, tied_itself}
use Rattle.std.specs.Ordering.{is_eq}
use Rattle.std.specs.BTreeSet.{insert_key}
use Rattle.std.specs.declared.cmp.Ordering.{Ordering}
use Rattle.std.specs.declared.cmp.Ordering.TheVariants.{Less, Equal, Greater}
use Rattle.std.specs.FinMap.{find, IsAntisymmetric}
use Rattle.std.specs.FinMap.Entries.{put, by_order, find-put}
use Rattle.r3_pool.specs.Slots.{Slots, Fills, live_count, with_spare}
use Rattle.r3_chain.specs.Versions.{versions_of, installed, has_room, without, IsNext}
use Rattle.r3_chain.specs.Links.{chain_in, IsChain}
use Rattle.r3_chain.specs.Heads.{newest_in, roomed, written, room_in, kept_by}
use Rattle.r3_chain.specs.Sound.{room_count, IsSound}
use Rattle.r3_chain.specs.Long.{listed, IsLong}
use Rattle.r3_chain.specs.declared.node.Node.{Node}
use Rattle.r3_chain.specs.declared.head.Head.{Head}
use Rattle.r3_chain.proofs.RoomLemmas.{roomed_newest, sound_all, uses_all, kept_all, count_all, keys_all, none_yet, later_round, next_round, more_spare}
use Rattle.r3_chain.proofs.SoundLemmas.{head_chain, chain_is, has_head, one_less, sound_after, versions_after, room_after}
use Rattle.r3_chain.proofs.WholeLemmas.{long_same, long_spare, long_after}

module _ {K : Type 0} (cmp : K → K → Ordering) (o : IsTotalOrder cmp) where
  -- the later of two heads of a key counts
  put_again : (k : K) (v w : Head) (es : List (K × Head)) → put cmp k v (put cmp k w es) ≡ put cmp k v es
  put_again k v w [] = ap (λ r. by_order r ((k, v) ∷ (k, w) ∷ []) ((k, v) ∷ []) ((k, w) ∷ (k, v) ∷ [])) (tied_itself o k)
  put_again k v w (e ∷ es) =
      elim (cmp k e.0) as (λ r. cmp k e.0 ≡ r → put cmp k v (by_order r ((k, w) ∷ e ∷ es) ((e.0, w) ∷ es) (e ∷ put cmp k w es)) ≡ by_order r ((k, v) ∷ e ∷ es) ((e.0, v) ∷ es) (e ∷ put cmp k v es)) [
        | Less ↦ λ p. ap (λ r. by_order r ((k, v) ∷ (k, w) ∷ e ∷ es) ((k, v) ∷ e ∷ es) ((k, w) ∷ put cmp k v (e ∷ es))) (tied_itself o k)
        | Equal ↦ λ p. ap (λ r. by_order r ((k, v) ∷ (e.0, w) ∷ es) ((e.0, v) ∷ es) ((e.0, w) ∷ put cmp k v es)) p
        | Greater ↦ λ p. ap (λ r. by_order r ((k, v) ∷ e ∷ put cmp k w es) ((e.0, v) ∷ put cmp k w es) (e ∷ put cmp k v (put cmp k w es))) p
            ∙ ap (λ rest. e ∷ rest) (put_again k v w es)
      ] refl

module _ {K V : Type 0} (cmp : K → K → Ordering) (o : IsTotalOrder cmp) where
  module _ (es : List (K × Head)) (old mid : Slots (Node V)) (cap round last : ℕ) (ok : IsSound cmp es old cap round last) (is : mid ≡ with_spare old (max old.spare 1)) where
    pub with_one : IsSound cmp es mid cap round last
    with_one = subst (λ n. IsSound cmp es n cap round last) (sym is) (more_spare cmp o old cap round last (max old.spare 1) es (omega arith) ok)

    -- the chain that the version is put before
    pub chain_before : (key : K) (older : Option ℕ) → older ≡ newest_in (find cmp key es) → IsChain mid older × (versions_of cmp key (kept_by (chain_in old) es) ≡ chain_in mid older)
    chain_before key older newest =
        let kept : kept_by (chain_in old) es ≡ kept_by (chain_in mid) es = ap (λ n. kept_by (chain_in n) es) (sym is) in (
          subst (IsChain mid) (sym newest) (head_chain mid cmp last key es with_one.heads).0,
          ap (versions_of cmp key) kept ∙ chain_is cmp o es mid cap round last with_one key ∙ ap (chain_in mid) (sym newest),
        )

  -- what is true once the version is added
  pub record Adds (es : List (K × Head)) (old new : Slots (Node V)) (cap next s index : ℕ) (key : K) (x : Option V) : Type 0 where
    pub sound : IsSound cmp (put cmp key (written s) es) new cap next next
    pub versions : kept_by (chain_in new) (put cmp key (written s) es) ≡ installed cmp index key x (kept_by (chain_in old) es)
    pub room : room_in next (put cmp key (written s) es) ≡ []
    pub none : room_count next (put cmp key (written s) es) ≡ 0
    pub long : (ss : List ℕ) → IsLong (live_count old) old es ss → IsLong (live_count new) new (put cmp key (written s) es) (listed s (newest_in (find cmp key es)) ss)

  pub added : (es : List (K × Head)) (old mid new : Slots (Node V)) (cap round last s index : ℕ) (key : K) (x : Option V)
      → IsSound cmp es old cap round last → mid ≡ with_spare old (max old.spare 1) → IsAntisymmetric cmp → IsNext cmp index key (kept_by (chain_in old) es)
      → Fills mid new s (record { index = index; value = x; older = newest_in (find cmp key es) }) → new.cap ≡ mid.cap → new.spare + 1 ≡ mid.spare
      → Adds es old new cap (last + 1) s index key x
  added es old mid new cap round last s index key x ok is same next fills cap_is spare_is =
      let base : IsSound cmp es mid cap round last = with_one es old mid cap round last ok is in
      let later : IsSound cmp es mid cap round (last + 1) = later_round cmp o mid cap round last es base in
      let within : round ≤ last = ok.rounds in
      let lt : round < last + 1 = omega arith in
      let le : last + 1 ≤ last + 1 = omega arith in
      let given : List (K × Head) = put cmp key (roomed round (last + 1) (find cmp key es)) es in
      let whole : IsSound cmp given mid cap round (last + 1) = sound_all cmp o mid cap round (last + 1) (last + 1) (key ∷ []) es lt le later in
      let none : (room_in (last + 1) es ≡ []) × (room_count (last + 1) es ≡ 0) = none_yet cmp o mid (last + 1) last es base.heads lt_one in
      let most : room_count (last + 1) given ≤ room_count (last + 1) es + 1 = count_all cmp o mid cap round (last + 1) (last + 1) (key ∷ []) es lt le later in
      let zero_yet : room_count (last + 1) es ≡ 0 = none.1 in
      let spare : mid.spare ≡ max old.spare 1 = ap (λ p. p.spare) is in
      let counts : IsSound cmp given mid cap (last + 1) (last + 1) = next_round cmp o mid cap round (last + 1) given (omega arith) (omega arith) whole in
      let kept : kept_by (chain_in mid) given ≡ kept_by (chain_in old) es =
      kept_all cmp o mid cap round (last + 1) (last + 1) (key ∷ []) es lt le later ∙ ap (λ n. kept_by (chain_in n) es) is in
      let keys : room_in (last + 1) given ≡ key ∷ [] =
      keys_all cmp o mid same cap round (last + 1) (last + 1) (key ∷ []) es lt le later ∙ ap (λ zs. fold (insert_key cmp) zs (key ∷ [])) none.0 in
      let room : has_room cmp key (room_in (last + 1) given) ≡ true = ap (has_room cmp key) keys ∙ ap (λ r. is_eq r || false) (tied_itself o key) in
      let head = has_head cmp o given mid cap (last + 1) (last + 1) counts key room in
      let found : newest_in (find cmp key given) ≡ newest_in (find cmp key es) =
      ap newest_in (find-put cmp o key key (roomed round (last + 1) (find cmp key es)) es
      ∙ ap (λ r. cond (is_eq r) (Some (roomed round (last + 1) (find cmp key es))) (find cmp key es)) (tied_itself o key)) ∙ roomed_newest round (last + 1) (find cmp key es) in
      let fills' : Fills mid new s (record { index = index; value = x; older = newest_in (find cmp key given) }) =
      subst (λ t. Fills mid new s (record { index = index; value = x; older = t })) (sym found) fills in
      let next' : IsNext cmp index key (kept_by (chain_in mid) given) = subst (IsNext cmp index key) (sym kept) next in
      let once : put cmp key (written s) given ≡ put cmp key (written s) es = put_again cmp o key (written s) (roomed round (last + 1) (find cmp key es)) es in
      let less : room_count (last + 1) (put cmp key (written s) given) + 1 ≡ room_count (last + 1) given =
      one_less cmp o given mid new cap (last + 1) (last + 1) s index key x counts head.0 head.1.0 fills' head.1.1 (omega arith) in
      let zero_now : room_count (last + 1) (put cmp key (written s) given) ≡ 0 = omega arith in
      record {
        none = ap (room_count (last + 1)) (sym once) ∙ zero_now;
        long = λ ss l.
            let base' : IsLong (live_count mid) mid es ss = subst (λ p. IsLong (live_count p) p es ss) (sym is) (long_spare (max old.spare 1) old es ss l) in
            let given' : IsLong (live_count mid) mid given ss = long_same (live_count mid) (live_count mid) mid es given ss (uses_all cmp o mid cap round (last + 1) (last + 1) (key ∷ []) es lt le later) base' in
            subst (λ hs. IsLong (live_count new) new hs (listed s (newest_in (find cmp key es)) ss)) once
            (subst (λ r. IsLong (live_count new) new (put cmp key (written s) given) (listed s r ss)) found
            (long_after cmp o given mid new cap (last + 1) (last + 1) s index key x counts head.0 head.1.0 fills' ss given'));
        sound = subst (λ hs. IsSound cmp hs new cap (last + 1) (last + 1)) once
            (sound_after cmp o given mid new cap (last + 1) (last + 1) s index key x counts head.0 head.1.0 fills' same next' head.1.1 cap_is spare_is);
        versions = ap (kept_by (chain_in new)) (sym once)
            ∙ versions_after cmp o given mid new cap (last + 1) (last + 1) s index key x counts head.0 head.1.0 fills' same ∙ ap (installed cmp index key x) kept;
        room = ap (room_in (last + 1)) (sym once) ∙ room_after cmp o given mid cap (last + 1) (last + 1) counts key s room
            ∙ ap (without cmp key) keys ∙ ap (λ r. cond (is_eq r) [] (key ∷ [])) (tied_itself o key);
      }
    where
      lt_one : last < last + 1
      lt_one = omega arith
