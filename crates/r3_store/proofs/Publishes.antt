-- What a store's log tells of what is staged, and what a crash leaves of it.
use Rattle.std.proofs.Common.{◌≡◌, ◌⊎◌, ℕ, ◌+◌, ◌^◌, ◌<◌, ◌≤◌, List, [], ◌∷◌, ◌++◌, length, take, drop, refl, sym, ap, subst, ◌∙◌, inl, inr, ⊎_elim, arith, append-nil, length-append, Option, true, false, nat_lt}
use Rattle.std.proofs.lemmas.List.{map-append, take-append-drop, length-map, get_or_append_left}
use Rattle.std.proofs.Math.Seq.{drop-length, take-length}
use Rattle.std.proofs.lemmas.Bool.Decides.{nat_tests}
use Rattle.r3_desk.specs.Crash.{Reach}
use Rattle.r3_desk.specs.Disk.{told_len}
use Rattle.r3_desk.specs.Moments.{LeavesImage, started}
use Rattle.r3_gate.specs.Log.{IsLog, IsPayload, Fits, size_of}
use Rattle.r3_gate.specs.Gate.{Tracks, Left}
use Rattle.r3_gate.specs.declared.gate.Gate.{Gate}
use Rattle.r3_entry.specs.declared.entry.Entry.{Entry}
use Rattle.r3_entry.specs.Formed.{IsFormed}
use Rattle.r3_entry.specs.Image.{IsHistoryOf}
use Rattle.r3_formed.specs.Load.{payloads}
use Rattle.r3_store.specs.Holds.{Holds}
use Rattle.r3_store.specs.declared.store.Store.{Store}
use Rattle.r3_store.proofs.Images.{history_of_log}

size_least : (ps : List (List ℕ)) → 9 ≤ size_of ps
size_least [] = omega arith
size_least (p ∷ ps) = omega (arith, size_least ps)

size_more : (ps : List (List ℕ)) (q : List ℕ) (qs : List (List ℕ)) → size_of ps < size_of (ps ++ q ∷ qs)
size_more [] q qs = omega (arith, size_least qs)
size_more (p ∷ ps) q qs = omega (arith, size_more ps q qs)

size_front : (ps qs : List (List ℕ)) → size_of ps ≤ size_of (ps ++ qs)
size_front [] qs = size_least qs
size_front (p ∷ ps) qs = omega (arith, size_front ps qs)

first_fits : (ps qs : List (List ℕ)) → Fits (ps ++ qs) → Fits ps
first_fits ps qs f = record {
  each = λ i d lt. subst IsPayload (get_or_append_left ps qs d i lt) (f.each i d (omega (arith, length-append ps qs)));
  entries = omega (arith, f.entries, length-append ps qs);
  bytes = omega (arith, f.bytes, size_front ps qs);
}

pub payloads_join : (h : List Entry) (k : ℕ) → payloads (take k h) ++ payloads (drop k h) ≡ payloads h
payloads_join h k = sym (map-append _ (take k h) (drop k h)) ∙ ap payloads (take-append-drop k h)

pub settled_image : (i : List ℕ) (h : List Entry) (k : ℕ) → IsFormed (take k h) → IsFormed h → IsLog i (payloads (take k h)) ⊎ IsLog i (payloads (take k h) ++ payloads (drop k h))
    → IsHistoryOf (take k h) i ⊎ IsHistoryOf h i
settled_image i h k front whole l =
    ⊎_elim (λ x. inl (history_of_log i (take k h) front x)) (λ x. inr (history_of_log i h whole (subst (IsLog i) (payloads_join h k) x))) l

-- the first payload of a list that isn't empty
pub record Some_first (qs : List (List ℕ)) : Type 0 where
  pub q : List ℕ
  pub rest : List (List ℕ)
  pub is : qs ≡ q ∷ rest

module _ {D : Type 0} (told_size : D → Option ℕ) (told_image : D → Option (List ℕ)) (may_leave : D → List ℕ → Type 0) where
  none_staged : (d : D) (g : Gate) (ps qs : List (List ℕ)) → Tracks told_size told_image may_leave d g ps qs → nat_lt g.published g.end ≡ false → qs ≡ []
  none_staged d g ps [] t e = refl
  none_staged d g ps (q ∷ qs) t e =
      let a : g.published < g.end = omega (arith, t.published_end, t.end, size_more ps q qs) in
      absurd (grind (arith, nat_tests))

  some_staged : (d : D) (g : Gate) (ps qs : List (List ℕ)) → Tracks told_size told_image may_leave d g ps qs → nat_lt g.published g.end ≡ true → Some_first qs
  some_staged d g ps [] t e =
      let same : size_of (ps ++ []) ≡ size_of ps = ap size_of (append-nil ps) in
      let a : g.published ≡ g.end = omega (arith, t.published_end, t.end, same) in
      absurd (grind (arith, nat_tests))
  some_staged d g ps (q ∷ qs) t e = record { q = q; rest = qs; is = refl }

  left_log : (d : D) (g : Gate) (ps qs : List (List ℕ)) → Tracks told_size told_image may_leave d g ps qs → (c : List ℕ) → may_leave d c → IsLog c ps
  left_log d g ps qs t c m =
      elim g.fresh as (λ b. g.fresh ≡ b → Left b ps c → IsLog c ps) [
        | true ↦ λ f short. record { fits = first_fits ps qs t.fits; bytes = inl (short, (t.fresh f).0) }
        | false ↦ λ f front. record { fits = first_fits ps qs t.fits; bytes = inr front }
      ] refl (t.left c m)

  pub asks_publish : (d : D) (s : Store) (h : List Entry) (k : ℕ) → Holds told_size told_image may_leave d s h k → nat_lt s.gate.published s.gate.end ≡ true
      → (ps : List (List ℕ)) × (q : List ℕ) × (qs : List (List ℕ)) × Tracks told_size told_image may_leave d s.gate ps (q ∷ qs)
  asks_publish d s h k holds e =
      let f : Some_first (payloads (drop k h)) = some_staged d s.gate _ _ holds.tracks e in
      (payloads (take k h), f.q, f.rest, subst (Tracks told_size told_image may_leave d s.gate (payloads (take k h))) f.is holds.tracks)

  -- where all is settled, nothing is staged
  pub none_to_publish : (d : D) (s : Store) (h : List Entry) → Holds told_size told_image may_leave d s h (length h) → nat_lt s.gate.published s.gate.end ≡ true → ⊥
  none_to_publish d s h holds e =
      let f : Some_first (payloads (drop (length h) h)) = some_staged d s.gate _ _ holds.tracks e in
      let none : payloads (drop (length h) h) ≡ [] = ap payloads (drop-length h) in
      let no : f.q ∷ f.rest ≡ [] = sym f.is ∙ none in cc

  pub all_settled : (d : D) (s : Store) (h : List Entry) (k : ℕ) → Holds told_size told_image may_leave d s h k → nat_lt s.gate.published s.gate.end ≡ false
      → Holds told_size told_image may_leave d s h (length h)
  all_settled d s h k holds e =
      let none : payloads (drop k h) ≡ [] = none_staged d s.gate _ _ holds.tracks e in
      let front : payloads (take k h) ≡ payloads (take (length h) h) =
      sym (append-nil _) ∙ ap (λ (qs : List (List ℕ)). payloads (take k h) ++ qs) (sym none) ∙ payloads_join h k ∙ ap payloads (sym (take-length h)) in
      let back : payloads (drop k h) ≡ payloads (drop (length h) h) = none ∙ ap payloads (sym (drop-length h)) in
      record {
        stands = holds.stands;
        within = omega arith;
        settled_formed = rw (take-length h) holds.stands.formed;
        tracks = subst (λ ps. Tracks told_size told_image may_leave d s.gate ps (payloads (drop (length h) h))) front
            (subst (Tracks told_size told_image may_leave d s.gate (payloads (take k h))) back holds.tracks);
      }

  pub published : (d e : D) (s : Store) (g : Gate) (cap : s.chains.cap ≡ 2 ^ 28) (h : List Entry) (k : ℕ) → Holds told_size told_image may_leave d s h k
      → Tracks told_size told_image may_leave e g (payloads (take k h) ++ payloads (drop k h)) []
      → Holds told_size told_image may_leave e (record { gate = g; chains = s.chains; pins = s.pins; oldest = s.oldest; texts = s.texts; cap = cap }) h (length h)
  published d e s g cap h k holds tracks =
      let front : payloads (take k h) ++ payloads (drop k h) ≡ payloads (take (length h) h) = payloads_join h k ∙ ap payloads (sym (take-length h)) in
      let back : [] ≡ payloads (drop (length h) h) = ap payloads (sym (drop-length h)) in
      let whole : (payloads (take k h) ++ payloads (drop k h)) ++ [] ≡ payloads h = append-nil _ ∙ payloads_join h k in
      record {
        stands = record {
          formed = holds.stands.formed;
          count = tracks.count ∙ ap length whole ∙ length-map h _;
          versions = holds.stands.versions;
          oldest = holds.stands.oldest;
          pins = holds.stands.pins;
          texts = holds.stands.texts;
        };
        within = omega arith;
        settled_formed = rw (take-length h) holds.stands.formed;
        tracks = subst (λ ps. Tracks told_size told_image may_leave e g ps (payloads (drop (length h) h))) front
            (subst (Tracks told_size told_image may_leave e g (payloads (take k h) ++ payloads (drop k h))) back tracks);
      }

  module _ {C : Type 0} (moment : D → ℕ) (reach : D → Reach) (said : D → Option (List ℕ)) (asked : D → Option (List C)) where
    pub weaker : (old new : D) (P Q : List ℕ → Type 0) → LeavesImage moment reach may_leave said asked old new P → ((c : List ℕ) → P c → Q c) → LeavesImage moment reach may_leave said asked old new Q
    weaker old new P Q l f = record { elapses = l.elapses; each = λ c n m r. let x = l.each c n m r in (f c x.0, x.1, x.2) }

    pub settles_to : (old new : D) (s : Store) (h : List Entry) (k : ℕ) → Holds told_size told_image may_leave old s h k
        → LeavesImage moment reach may_leave said asked old new (λ c. IsLog c (payloads (take k h)) ⊎ IsLog c (payloads (take k h) ++ payloads (drop k h)))
        → LeavesImage moment reach may_leave said asked old new (λ c. IsHistoryOf (take k h) c ⊎ IsHistoryOf h c)
    settles_to old new s h k holds l =
        weaker old new _ _ l (λ c. ⊎_elim
        (λ x. inl (history_of_log c (take k h) holds.settled_formed x))
        (λ x. inr (history_of_log c h holds.stands.formed (subst (IsLog c) (payloads_join h k) x))))

    pub unmoved : (d : D) (s : Store) (h : List Entry) (k : ℕ) → Holds told_size told_image may_leave d s h k
        → ((t : ℕ) (c : List ℕ) → t ≤ moment d → may_leave d c → reach d t c (told_len (said d)) (told_len (asked d)))
        → ((c : List ℕ) (n m : ℕ) → reach d (moment d) c n m → may_leave d c × (n ≡ told_len (said d)) × (m ≡ told_len (asked d)))
        → LeavesImage moment reach may_leave said asked d d (IsHistoryOf (take k h))
    unmoved d s h k holds counts_now only_now =
        started moment reach may_leave said asked d _ counts_now only_now
        (λ c m. history_of_log c (take k h) holds.settled_formed (left_log d s.gate (payloads (take k h)) _ holds.tracks c m))

    pub stays : (d : D) (s : Store) (h : List Entry) (k : ℕ) → Holds told_size told_image may_leave d s h k
        → ((t : ℕ) (c : List ℕ) → t ≤ moment d → may_leave d c → reach d t c (told_len (said d)) (told_len (asked d)))
        → ((c : List ℕ) (n m : ℕ) → reach d (moment d) c n m → may_leave d c × (n ≡ told_len (said d)) × (m ≡ told_len (asked d)))
        → LeavesImage moment reach may_leave said asked d d (λ c. IsHistoryOf (take k h) c ⊎ IsHistoryOf h c)
    stays d s h k holds counts_now only_now = weaker d d _ _ (unmoved d s h k holds counts_now only_now) (λ c x. inl x)

    pub keeps_settled : (old new : D) (s : Store) (h : List Entry) (k : ℕ) → Holds told_size told_image may_leave old s h k
        → LeavesImage moment reach may_leave said asked old new (λ c. IsLog c (payloads (take k h)))
        → LeavesImage moment reach may_leave said asked old new (IsHistoryOf (take k h))
    keeps_settled old new s h k holds l = weaker old new _ _ l (λ c x. history_of_log c (take k h) holds.settled_formed x)

  pub next_number : (d e : D) (s : Store) (g : Gate) (h : List Entry) (k : ℕ) (p : List ℕ) → Holds told_size told_image may_leave d s h k
      → Tracks told_size told_image may_leave e g (payloads (take k h)) (payloads (drop k h) ++ p ∷ []) → g.count ≡ length h + 1
  next_number d e s g h k p holds t =
      let a : length (payloads (take k h) ++ (payloads (drop k h) ++ p ∷ [])) ≡ length (payloads (take k h)) + length (payloads (drop k h) ++ p ∷ []) = length-append (payloads (take k h)) (payloads (drop k h) ++ p ∷ []) in
      let b : length (payloads (drop k h) ++ p ∷ []) ≡ length (payloads (drop k h)) + 1 = length-append (payloads (drop k h)) (p ∷ []) in
      let c : length (payloads (take k h) ++ payloads (drop k h)) ≡ length h = ap length (payloads_join h k) ∙ length-map h _ in
      omega (arith, t.count, length-append (payloads (take k h)) (payloads (drop k h)))
