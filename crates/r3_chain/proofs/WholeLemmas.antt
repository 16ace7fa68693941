-- The list of versions with older ones behind them stays right: after an install, after a trim, and while keys are given room.
use Rattle.std.proofs.Common.{◌≡◌, ◌≢◌, ℕ, ◌+◌, ◌<◌, ◌≤◌, max, true, false, List, [], ◌∷◌, ◌++◌, length, Option, Some, None, IsSome, is_some, refl, sym, ap, ◌∙◌, subst, arith, inl, inr}
use Rattle.std.proofs.lemmas.Bool.Decides.{eqb_tells}
use Rattle.std.specs.Prelude.{nat_eq}
use Rattle.std.specs.List.{AllByRecursion}
use Rattle.std.specs.Cmp.{IsTotalOrder}
use Rattle.std.specs.declared.cmp.Ordering.{Ordering}
use Rattle.std.specs.FinMap.{find}
use Rattle.std.specs.FinMap.Entries.{put}
use Rattle.r3_pool.specs.Slots.{Slots, Fills, value_at, live_count, with_spare}
use Rattle.r3_chain.specs.Links.{trace, Ends, visits}
use Rattle.r3_chain.specs.Heads.{newest_in, written, all_roomed}
use Rattle.r3_chain.specs.Sound.{one_if, uses, room_count, IsHead, IsSound}
use Rattle.r3_chain.specs.Long.{times, listed, older_in, older_at, InOrder, uses_by, IsLong, IsWhole}
use Rattle.r3_chain.specs.declared.node.Node.{Node}
use Rattle.r3_chain.specs.declared.head.Head.{Head}
use Rattle.r3_chain.proofs.LinkLemmas.{trace_step, first_live, one}
use Rattle.r3_chain.proofs.HeadLemmas.{all_map}
use Rattle.r3_chain.proofs.ForestLemmas.{TrimsAll, all_right, same_total, sound_trimmed}
use Rattle.r3_chain.proofs.SoundLemmas.{new_uses}
use Rattle.r3_chain.proofs.RoomLemmas.{sound_all, uses_all, rooms_all, later_round, more_spare}
use Rattle.r3_chain.proofs.LongLemmas.{times_append, found, through, order_same, order_more}

module _ {K V : Type 0} where
  -- the same chains, counted with other steps or by other heads
  pub long_same : (n m : ℕ) (nodes : Slots (Node V)) (es fs : List (K × Head)) (long : List ℕ) → ((t : ℕ) → uses_by m nodes t fs ≡ uses_by n nodes t es) → IsLong n nodes es long → IsLong m nodes fs long
  long_same n m nodes es fs long same is = record {
    once = λ t. subst (λ k. times t long ≤ k) (sym (same t)) (is.once t);
    all = λ t used has. is.all t (subst (λ k. 0 < k) (same t) used) has;
    order = is.order;
  }

  pub long_spare : (k : ℕ) (nodes : Slots (Node V)) (es : List (K × Head)) (long : List ℕ) → IsLong (live_count nodes) nodes es long → IsLong (live_count (with_spare nodes k)) (with_spare nodes k) es long
  long_spare k nodes es long is = record {
    once = λ t. is.once t;
    all = λ t used has. is.all t used has;
    order = order_same nodes (with_spare nodes k) long (λ x on. refl) is.order;
  }

  -- what is behind a version is in use
  older_live : (n : ℕ) (nodes : Slots (Node V)) (es : List (K × Head)) → AllByRecursion (λ e. Ends n (value_at nodes) e.1.newest) es
      → (x t : ℕ) → 0 < uses_by n nodes x es → older_at nodes x ≡ Some t → IsSome (value_at nodes t)
  older_live n nodes es ends x t used is =
      let at : (done : List (K × Head)) × ((e : K × Head) × ((others : List (K × Head)) × ((es ≡ done ++ e ∷ others) × (0 < visits x (trace n (value_at nodes) e.1.newest))))) =
      found (λ h. visits x (trace n (value_at nodes) h.newest)) es used in
      let top : Ends n (value_at nodes) at.1.0.1.newest =
      (all_right (λ e. Ends n (value_at nodes) e.1.newest) at.0 (at.1.0 ∷ at.1.1.0) (subst (AllByRecursion (λ e. Ends n (value_at nodes) e.1.newest)) at.1.1.1.0 ends)).0 in
      let from_x = through n (value_at nodes) at.1.0.1.newest x at.1.1.1.1 top in
      elim (value_at nodes x) as (λ c. value_at nodes x ≡ c → older_in c ≡ Some t → IsSome (value_at nodes t)) [
        | None ↦ λ p q. absurd cc
        | Some node ↦ λ p q. first_live n (value_at nodes) t (subst (Ends n (value_at nodes)) q (trace_step n (value_at nodes) x node p from_x.1.1).1)
      ] refl is

times_listed : (t s : ℕ) (o : Option ℕ) (ss : List ℕ) → (times t ss ≤ times t (listed s o ss)) × (times t (listed s o ss) ≤ times t ss + one (nat_eq s t))
times_listed t s None ss = (omega arith, omega arith)
times_listed t s (Some r) ss = let more : times t (ss ++ s ∷ []) ≡ times t ss + (one (nat_eq s t) + 0) = times_append t ss (s ∷ []) in (omega arith, omega arith)

pub length_listed : (s : ℕ) (o : Option ℕ) (ss : List ℕ) → length (listed s o ss) ≤ length ss + 1
length_listed s None ss = omega arith
length_listed s (Some r) ss = longer ss
  where
    longer : (xs : List ℕ) → length (xs ++ s ∷ []) ≤ length xs + 1
    longer [] = omega arith
    longer (x ∷ xs) = let rest : length (xs ++ s ∷ []) ≤ length xs + 1 = longer xs in omega arith

now_listed : (t s : ℕ) (o : Option ℕ) (ss : List ℕ) → IsSome o → nat_eq s t ≡ true → 0 < times t (listed s o ss)
now_listed t s None ss has same = absurd cc
now_listed t s (Some r) ss has same =
    let more : times t (ss ++ s ∷ []) ≡ times t ss + (one (nat_eq s t) + 0) = times_append t ss (s ∷ []) in
    let here : one (nat_eq s t) ≡ 1 = ap one same in
    omega arith

module _ {K V : Type 0} (cmp : K → K → Ordering) (o : IsTotalOrder cmp) (es : List (K × Head)) (old new : Slots (Node V)) (cap round last s index : ℕ) (key : K) (x : Option V)
    (snd : IsSound cmp es old cap round last) (h : Head) (is : find cmp key es ≡ Some h)
    (fills : Fills old new s (record { index = index; value = x; older = newest_in (find cmp key es) })) where
  -- a version in use isn't in the slot that was free
  other : (t : ℕ) → IsSome (value_at old t) → s ≢ t
  other t live same =
      let free : is_some (value_at old t) ≡ false = ap (λ u. is_some (value_at old u)) (sym same) ∙ ap is_some fills.was_free in
      let no : false ≡ true = sym free ∙ live in cc

  live_of : (t : ℕ) → 0 < uses t old es → IsSome (value_at old t)
  live_of t used =
      let few : uses t old es ≤ one_if (is_some (value_at old t)) = snd.apart t in
      on (is_some (value_at old t)) (omega arith)
    where
      on : (b : _) → 0 < one_if b → b ≡ true
      on true p = refl
      on false p = absurd (omega arith)

  pub long_after : (long : List ℕ) → IsLong (live_count old) old es long → IsLong (live_count new) new (put cmp key (written s) es) (listed s (newest_in (find cmp key es)) long)
  long_after long l = record {
    once = λ t.
        let before : times t long ≤ uses t old es = l.once t in
        let after : uses t new (put cmp key (written s) es) ≡ uses t old es + one_if (nat_eq s t) = new_uses cmp o es old new cap round last s index key x snd h is fills t in
        omega (arith, (times_listed t s (newest_in (find cmp key es)) long).1);
    all = λ t used has. elim (eqb_tells s t) [
      | inl e ↦
          let it : older_at new t ≡ newest_in (find cmp key es) = ap (older_at new) (sym e.1) ∙ ap older_in fills.holds in
          now_listed t s (newest_in (find cmp key es)) long (subst IsSome it has) e.0
      | inr e ↦
          let stays : value_at new t ≡ value_at old t = fills.others t (λ q. e.1 (sym q)) in
          let after : uses t new (put cmp key (written s) es) ≡ uses t old es + one_if (nat_eq s t) = new_uses cmp o es old new cap round last s index key x snd h is fills t in
          let off : one_if (nat_eq s t) ≡ 0 = ap one_if e.0 in
          let on : 0 < times t long = l.all t (omega arith) (subst (λ c. IsSome (older_in c)) stays has) in
          omega (arith, (times_listed t s (newest_in (find cmp key es)) long).0)
    ];
    order = ordered (newest_in (find cmp key es));
  }
    where
      used_of : (t : ℕ) → 0 < times t long → 0 < uses t old es
      used_of t on = let before : times t long ≤ uses t old es = l.once t in omega arith

      stays_at : (t : ℕ) → 0 < times t long → older_at new t ≡ older_at old t
      stays_at t on = ap older_in (fills.others t (λ q. other t (live_of t (used_of t on)) (sym q)))

      ends : AllByRecursion (λ e. Ends (live_count old) (value_at old) e.1.newest) es
      ends = all_map (λ e. IsHead old last e.1) (λ e. Ends (live_count old) (value_at old) e.1.newest) (λ e p. p.chain) es snd.heads

      ordered : (r : Option ℕ) → InOrder new (listed s r long)
      ordered None = order_same old new long stays_at l.order
      ordered (Some r) = order_more old new long s (λ t on. (stays_at t on, λ u q. other u (older_live (live_count old) old es ends t u (used_of t on) q))) l.order

-- all that is true of the fields, after a trim
module _ {K V : Type 0} (cmp : K → K → Ordering) (es : List (K × Head)) (old new : Slots (Node V)) (cap round last oldest : ℕ) where
  pub whole_trimmed : (ss rs : List ℕ) (a b : ℕ) → IsWhole cmp es old cap round last ss a → TrimsAll (live_count old) oldest es old new → IsLong (live_count old) new es rs
      → length rs ≤ length ss → a ≤ b → IsWhole cmp es new cap round last rs b
  whole_trimmed ss rs a b w t long fewer le =
      let fits : length ss + room_count round es ≤ a = w.fits in
      record {
        sound = sound_trimmed cmp es old new cap round last oldest w.sound t;
        long = long_same (live_count old) (live_count new) new es es rs (λ u. same_total cmp es old new cap round last oldest w.sound t (visits u)) long;
        fits = omega arith;
      }

-- all that is true of the fields, while room is made
module _ {K V : Type 0} (cmp : K → K → Ordering) (o : IsTotalOrder cmp) where
  pub whole_spare : (es : List (K × Head)) (old mid : Slots (Node V)) (cap round last k : ℕ) (ss rs : List ℕ) (a b : ℕ) → IsWhole cmp es old cap round last ss a
      → mid ≡ with_spare old (max old.spare k) → rs ≡ ss → a ≤ b → IsWhole cmp es mid cap round last rs b
  whole_spare es old mid cap round last k ss rs a b w is same le =
      let fits : length ss + room_count round es ≤ a = w.fits in
      let long : length rs ≡ length ss = ap length same in
      record {
        sound = subst (λ n. IsSound cmp es n cap round last) (sym is) (more_spare cmp o old cap round last (max old.spare k) es (omega arith) w.sound);
        long = subst (λ n. IsLong (live_count n) n es rs) (sym is) (subst (IsLong (live_count (with_spare old (max old.spare k))) (with_spare old (max old.spare k)) es) (sym same) (long_spare (max old.spare k) old es ss w.long));
        fits = omega arith;
      }

  pub whole_rooms : (es : List (K × Head)) (nodes : Slots (Node V)) (cap round last : ℕ) (ks : List K) (ss : List ℕ) (a : ℕ) → IsWhole cmp es nodes cap round last ss a
      → IsWhole cmp (all_roomed cmp round (last + 1) ks es) nodes cap round (last + 1) ss a
  whole_rooms es nodes cap round last ks ss a w =
      let later : IsSound cmp es nodes cap round (last + 1) = later_round cmp o nodes cap round last es w.sound in
      let within : round ≤ last = w.sound.rounds in
      let lt : round < last + 1 = omega arith in
      let le : last + 1 ≤ last + 1 = omega arith in
      let fits : length ss + room_count round es ≤ a = w.fits in
      let rooms : room_count round (all_roomed cmp round (last + 1) ks es) ≡ room_count round es = rooms_all cmp o nodes cap round (last + 1) (last + 1) ks es lt le later in
      record {
        sound = sound_all cmp o nodes cap round (last + 1) (last + 1) ks es lt le later;
        long = long_same (live_count nodes) (live_count nodes) nodes es (all_roomed cmp round (last + 1) ks es) ss (uses_all cmp o nodes cap round (last + 1) (last + 1) ks es lt le later) w.long;
        fits = omega arith;
      }
