-- How a gate stands for its log after each of its writes.
use Rattle.std.proofs.Common.{◌≡◌, ◌⊎◌, inl, inr, ⊎_elim, ℕ, ◌+◌, ◌≤◌, ◌^◌, max, List, [], ◌∷◌, ◌++◌, length, drop, All, suc, Bool, true, false, None, Some, refl, sym, ◌∙◌, ap, subst, arith, append_assoc, length-append}
use Rattle.std.specs.declared.option.Option.{Option}
use Rattle.std.specs.Option.{option_map}
use Rattle.std.proofs.lemmas.List.{append-nil, drop_all, get_or_append_left, length-drop}
use Rattle.std.proofs.lemmas.List.Elements.{All-push}
use Rattle.r3_desk.specs.Crash.{Follows, NothingPending}
use Rattle.r3_desk.specs.Disk.{Torn, overwritten}
use Rattle.r3_gate.specs.Log.{magic, frame, front, size_of, behind, Fits, Fronts, Staged, IsLog, IsPayload}
use Rattle.r3_gate.specs.Gate.{Seen, Left, Tracks}
use Rattle.r3_gate.specs.declared.gate.Gate.{Gate}
use Rattle.r3_gate.proofs.Bytes.{length-frame, size_of-append, size_above}
use Rattle.r3_gate.proofs.Writes.{front_stays, stages_first, stages_next, gate_torn, gate_written}

-- what a told value was before a step
pub told_by : {A B : Type 0} (f : A → B) (old : Option A) (b : B) → option_map f old ≡ Some b → (a : A) × (old ≡ Some a) × (f a ≡ b)
told_by f None b is = absurd (elim_none is)
  where
    elim_none : None ≡ Some b → ⊥
    elim_none e = cc
told_by f (Some a) b is = (a, refl, cc)

abbrev header : List ℕ
header = magic ++ 0 ∷ []

not_new : (b : Bool) → (b ≡ true → ⊥) → b ≡ false
not_new true never = absurd (never refl)
not_new false never = refl

-- what is published is within the limits
pub fits_front : (ps qs : List (List ℕ)) → Fits (ps ++ qs) → Fits ps
fits_front ps qs fits = record {
  each = λ k d lt. subst IsPayload (get_or_append_left ps qs d k lt) (fits.each k d (omega (arith, lt, length-append ps qs)));
  entries = omega (arith, fits.entries, length-append ps qs);
  bytes = omega (arith, fits.bytes, size_of-append ps qs, size_above qs);
}

module _ {D : Type 0} (told_size : D → Option ℕ) (told_image : D → Option (List ℕ)) (may_leave : D → List ℕ → Type 0) where
  abbrev T : D → Gate → List (List ℕ) → List (List ℕ) → Type 0
  T = Tracks told_size told_image may_leave

  -- an outcome of a crash is an accepted image of what is published
  left_is_log : (fresh : Bool) (ps qs : List (List ℕ)) (c : List ℕ) → Fits (ps ++ qs) → (fresh ≡ true → (ps ≡ []) × (qs ≡ [])) → Left fresh ps c → IsLog c ps
  left_is_log true ps qs c fits new le = record { fits = fits_front ps qs fits; bytes = inl (le, (new refl).0) }
  left_is_log false ps qs c fits new f = record { fits = fits_front ps qs fits; bytes = inr f }

  pub left_log : (desk : D) (gate : Gate) (ps qs : List (List ℕ)) → T desk gate ps qs → (c : List ℕ) → may_leave desk c → IsLog c ps
  left_log desk gate ps qs t c l = left_is_log gate.fresh ps qs c t.fits t.fresh (t.left c l)

  -- and so is what a read gives
  seen_is_log : (fresh : Bool) (ps qs : List (List ℕ)) (i : List ℕ) → Fits (ps ++ qs) → (fresh ≡ true → (ps ≡ []) × (qs ≡ [])) → Seen fresh ps qs i → IsLog i ps
  seen_is_log true ps qs i fits new le = record { fits = fits_front ps qs fits; bytes = inl (le, (new refl).0) }
  seen_is_log false ps qs i fits new s = record { fits = fits_front ps qs fits; bytes = inr (record { gate = s.gate; rest = behind qs s.rest; shut = s.shut; is = s.is }) }

  pub seen_log : (desk : D) (gate : Gate) (ps qs : List (List ℕ)) → T desk gate ps qs → (i : List ℕ) → told_image desk ≡ Some i → IsLog i ps
  seen_log desk gate ps qs t i is = seen_is_log gate.fresh ps qs i t.fits t.fresh (t.seen i is)

  -- what a read gives begins with what is committed
  front_of_staged : (i : List ℕ) (ps qs : List (List ℕ)) → Staged i ps qs → Fronts i ps
  front_of_staged i ps qs s = record { gate = s.gate; rest = behind qs s.rest; shut = s.shut; is = s.is }

  pub seen_front : (desk : D) (gate : Gate) (ps qs : List (List ℕ)) → T desk gate ps qs → gate.fresh ≡ false → (i : List ℕ) → told_image desk ≡ Some i → Fronts i ps
  seen_front desk gate ps qs t ready i is = let S : Bool → Type 0 = λ b. Seen b ps qs i in front_of_staged i ps qs (subst S ready (t.seen i is))

  pub header_tracks : (old new : D) (gate : Gate) (ps qs : List (List ℕ)) → T old gate ps qs → gate.fresh ≡ true
      → told_size new ≡ option_map (λ n. max n (0 + 9)) (told_size old)
      → told_image new ≡ option_map (λ i. overwritten i 0 header) (told_image old)
      → NothingPending (told_image new) (may_leave new)
      → T new (record gate { fresh = false }) ps qs
  header_tracks old new gate ps qs t fresh size image quiet = record {
    published_end = t.published_end;
    end = t.end;
    count = t.count;
    fits = t.fits;
    fresh = λ e. absurd (let h : false ≡ true = e in cc);
    size = λ _ n is. let was = told_by (λ n. max n (0 + 9)) (told_size old) n (sym size ∙ is) in omega (arith, was.2, t.end, empty);
    seen = λ i is. seen_now i is;
    left = λ c l. let s = seen_now c (quiet c l) in record { gate = s.gate; rest = s.rest; shut = s.shut; is = s.is ∙ ap (λ (l : List ℕ). front ps ++ s.gate ∷ l) (behind_none s.rest) };
    quiet = λ _. quiet;
  }
    where
      none : (ps ≡ []) × (qs ≡ [])
      none = t.fresh fresh

      empty : size_of (ps ++ qs) ≡ 9
      empty = ap (λ (l : List (List ℕ)). size_of (l ++ qs)) none.0 ∙ ap size_of none.1

      behind_none : (rest : List ℕ) → behind qs rest ≡ rest
      behind_none rest = ap (λ (l : List (List ℕ)). behind l rest) none.1

      seen_now : (i : List ℕ) → told_image new ≡ Some i → Staged i ps qs
      seen_now i is =
          let was = told_by (λ (i : List ℕ). overwritten i 0 header) (told_image old) i (sym image ∙ is) in
          let S : Bool → Type 0 = λ b. Seen b ps qs was.0 in
          let le : length was.0 ≤ 9 = subst S fresh (t.seen was.0 was.1) in
          let rest : drop 9 was.0 ≡ [] = drop_all 9 was.0 le in
          let now : i ≡ header = sym was.2 ∙ ap (λ (l : List ℕ). header ++ l) rest ∙ append-nil header in
          let base : Staged i [] [] = record { gate = 0; rest = []; shut = omega arith; is = now } in
          subst (λ (l : List (List ℕ)). Staged i l qs) (sym none.0) (subst (λ (l : List (List ℕ)). Staged i [] l) (sym none.1) base)

  -- a header that is written and not synced
  pub header_told : (old : D) (gate : Gate) (ps qs : List (List ℕ)) → T old gate ps qs → gate.fresh ≡ true
      → (i : List ℕ) → option_map (λ i. overwritten i 0 header) (told_image old) ≡ Some i → IsLog i ps
  header_told old gate ps qs t fresh i is =
      let was = told_by (λ (i : List ℕ). overwritten i 0 header) (told_image old) i is in
      let S : Bool → Type 0 = λ b. Seen b ps qs was.0 in
      let le : length was.0 ≤ 9 = subst S fresh (t.seen was.0 was.1) in
      record { fits = fits_front ps qs t.fits; bytes = inl (omega (arith, le, ap length (sym was.2), length-append header (drop 9 was.0), length-drop 9 was.0), (t.fresh fresh).0) }

  -- a crash leaves the front, whatever is staged behind it
  pub stage_left : (old new : D) (gate : Gate) (ps qs : List (List ℕ)) (at : ℕ) (block : List ℕ) → T old gate ps qs → gate.fresh ≡ false → size_of ps ≤ at
      → Follows (Torn at (length block)) (may_leave old) (may_leave new) → (c : List ℕ) → may_leave new c → Fronts c ps
  stage_left old new gate ps qs at block t ready behind_front pending c l =
      let from = pending c l in
      let L : Bool → Type 0 = λ b. Left b ps from.0 in
      front_stays from.0 c ps at (length block) (subst L ready (t.left from.0 from.1)) behind_front from.2

  -- a record staged at an offset behind what is published
  pub stage_tracks : (old new : D) (gate : Gate) (ps qs : List (List ℕ)) (p : List ℕ) (at : ℕ) (block : List ℕ) → T old gate ps qs → gate.fresh ≡ false → IsPayload p
      → suc gate.count ≤ 1000000 → gate.end + (5 + length p) ≤ 2 ^ 30
      → size_of ps ≤ at → at + length block ≡ gate.end + (5 + length p)
      → ((i : List ℕ) → Staged i ps qs → Staged (overwritten i at block) ps (qs ++ p ∷ []))
      → told_size new ≡ option_map (λ n. max n (at + length block)) (told_size old)
      → told_image new ≡ option_map (λ i. overwritten i at block) (told_image old)
      → Follows (Torn at (length block)) (may_leave old) (may_leave new)
      → T new (record gate { end = gate.end + (5 + length p); count = gate.count + 1 }) ps (qs ++ p ∷ [])
  stage_tracks old new gate ps qs p at block t ready payload few small behind_front to stages size image pending = record {
    published_end = t.published_end;
    end = omega (arith, t.end, ap size_of (sym (append_assoc ps qs (p ∷ []))), size_of-append (ps ++ qs) (p ∷ []));
    count = omega (arith, t.count, length-append ps (qs ++ p ∷ []), length-append qs (p ∷ []), length-append ps qs);
    fits = record {
      each = let A : List (List ℕ) → Type 0 = λ l. All IsPayload l in subst A (append_assoc ps qs (p ∷ [])) (All-push IsPayload (ps ++ qs) p t.fits.each payload);
      entries = omega (arith, few, t.count, length-append ps (qs ++ p ∷ []), length-append qs (p ∷ []), length-append ps qs);
      bytes = omega (arith, small, t.end, ap size_of (sym (append_assoc ps qs (p ∷ []))), size_of-append (ps ++ qs) (p ∷ []));
    };
    fresh = λ e. absurd (let h : false ≡ true = sym ready ∙ e in cc);
    size = λ _ n is. let was = told_by (λ n. max n (at + length block)) (told_size old) n (sym size ∙ is) in omega (arith, was.2, to);
    seen = λ i is.
        let was = told_by (λ (i : List ℕ). overwritten i at block) (told_image old) i (sym image ∙ is) in
        let S : Bool → Type 0 = λ b. Seen b ps qs was.0 in
        let S' : Bool → Type 0 = λ b. Seen b ps (qs ++ p ∷ []) i in
        subst S' (sym ready) (subst (λ (l : List ℕ). Staged l ps (qs ++ p ∷ [])) was.2 (stages was.0 (subst S ready (t.seen was.0 was.1))));
    left = λ c l. let L : Bool → Type 0 = λ b. Left b ps c in subst L (sym ready) (stage_left old new gate ps qs at block t ready behind_front pending c l);
    quiet = λ e. absurd (none_pushed qs p e);
  }
    where
      none_pushed : (xs : List (List ℕ)) (x : List ℕ) → xs ++ x ∷ [] ≡ [] → ⊥
      none_pushed [] x e = cc
      none_pushed (y ∷ xs) x e = cc

  -- all that is staged becomes lasting
  pub publish_tracks : (old new : D) (gate : Gate) (ps qs : List (List ℕ)) (at : ℕ) → T old gate ps qs → suc gate.published ≤ gate.end → at + 1 ≡ gate.published
      → ((i : List ℕ) → told_image old ≡ Some i → Staged i ps qs)
      → told_size new ≡ option_map (λ n. max n (at + 1)) (told_size old)
      → told_image new ≡ option_map (λ i. overwritten i at (165 ∷ [])) (told_image old)
      → NothingPending (told_image new) (may_leave new)
      → T new (record gate { published = gate.end }) (ps ++ qs) []
  publish_tracks old new gate ps [] at t some is_at staged size image quiet = absurd (omega (arith, some, t.published_end, t.end, size_of-append ps []))
  publish_tracks old new gate ps (q ∷ qs) at t some is_at staged size image quiet = record {
    published_end = t.end;
    end = t.end ∙ ap size_of (sym nothing_more);
    count = t.count ∙ ap length (sym nothing_more);
    fits = let F : List (List ℕ) → Type 0 = Fits in subst F (sym nothing_more) t.fits;
    fresh = λ e. absurd (let h : q ∷ qs ≡ [] = (t.fresh e).1 in cc);
    size = λ r n is. let was = told_by (λ n. max n (at + 1)) (told_size old) n (sym size ∙ is) in omega (arith, was.2, t.size r was.0 was.1);
    seen = λ i is. let S : Bool → Type 0 = λ b. Seen b (ps ++ q ∷ qs) [] i in subst S (sym not_fresh) (seen_now i is);
    left = λ c l. let s = seen_now c (quiet c l) in let L : Bool → Type 0 = λ b. Left b (ps ++ q ∷ qs) c in
        subst L (sym not_fresh) (record { gate = s.gate; rest = s.rest; shut = s.shut; is = s.is });
    quiet = λ _. quiet;
  }
    where
      nothing_more : (ps ++ q ∷ qs) ++ [] ≡ ps ++ q ∷ qs
      nothing_more = append-nil (ps ++ q ∷ qs)

      not_fresh : gate.fresh ≡ false
      not_fresh = not_new gate.fresh (λ e. let h : q ∷ qs ≡ [] = (t.fresh e).1 in cc)

      seen_now : (i : List ℕ) → told_image new ≡ Some i → Staged i (ps ++ q ∷ qs) []
      seen_now i is =
          let was = told_by (λ (i : List ℕ). overwritten i at (165 ∷ [])) (told_image old) i (sym image ∙ is) in
          subst (λ (l : List ℕ). Staged l (ps ++ q ∷ qs) []) was.2 (gate_written was.0 ps q qs at (omega (arith, is_at, t.published_end)) (staged was.0 was.1))

  -- the first record goes behind the gate of what is published
  pub first_tracks : (old new : D) (gate : Gate) (ps qs : List (List ℕ)) (p block : List ℕ) → T old gate ps qs → gate.fresh ≡ false → gate.end ≤ gate.published → IsPayload p
      → suc gate.count ≤ 1000000 → gate.end + (5 + length p) ≤ 2 ^ 30 → block ≡ frame p ++ 0 ∷ []
      → told_size new ≡ option_map (λ n. max n (gate.end + length block)) (told_size old)
      → told_image new ≡ option_map (λ i. overwritten i gate.end block) (told_image old)
      → Follows (Torn gate.end (length block)) (may_leave old) (may_leave new)
      → T new (record gate { end = gate.end + (5 + length p); count = gate.count + 1 }) ps (qs ++ p ∷ [])
  first_tracks old new gate ps (q ∷ qs) p block t ready none payload few small is size image pending =
      absurd (omega (arith, none, t.published_end, t.end, size_of-append ps (q ∷ qs), size_above qs))
  first_tracks old new gate ps [] p block t ready none payload few small is size image pending =
      let ends : gate.end ≡ size_of ps = omega (arith, t.end, size_of-append ps []) in
      stage_tracks old new gate ps [] p gate.end block t ready payload few small (omega (arith, ends))
      (omega (arith, ap length is, length-append (frame p) (0 ∷ []), length-frame p))
      (λ i s. subst (λ (b : List ℕ). Staged (overwritten i gate.end b) ps (p ∷ [])) (sym is) (subst (λ (n : ℕ). Staged (overwritten i n (frame p ++ 0 ∷ [])) ps (p ∷ [])) (sym ends) (stages_first i ps p s)))
      size image pending

  next_ready : (old : D) (gate : Gate) (ps : List (List ℕ)) (q : List ℕ) (qs : List (List ℕ)) → T old gate ps (q ∷ qs) → gate.fresh ≡ false
  next_ready old gate ps q qs t = not_new gate.fresh (λ e. let h : q ∷ qs ≡ [] = (t.fresh e).1 in cc)

  -- one more goes behind the last staged gate, which it opens
  pub next_tracks : (old new : D) (gate : Gate) (ps qs : List (List ℕ)) (p block : List ℕ) (at : ℕ) → T old gate ps qs → suc gate.published ≤ gate.end → IsPayload p
      → suc gate.count ≤ 1000000 → gate.end + (5 + length p) ≤ 2 ^ 30 → block ≡ 165 ∷ frame p ++ 0 ∷ [] → at + 1 ≡ gate.end
      → told_size new ≡ option_map (λ n. max n (at + length block)) (told_size old)
      → told_image new ≡ option_map (λ i. overwritten i at block) (told_image old)
      → Follows (Torn at (length block)) (may_leave old) (may_leave new)
      → T new (record gate { end = gate.end + (5 + length p); count = gate.count + 1 }) ps (qs ++ p ∷ [])
  next_tracks old new gate ps [] p block at t some payload few small is is_at size image pending =
      absurd (omega (arith, some, t.published_end, t.end, size_of-append ps []))
  next_tracks old new gate ps (q ∷ qs) p block at t some payload few small is is_at size image pending =
      let ends : at + 1 ≡ size_of (ps ++ q ∷ qs) = omega (arith, is_at, t.end) in
      stage_tracks old new gate ps (q ∷ qs) p at block t (next_ready old gate ps q qs t) payload few small
      (omega (arith, ends, size_of-append ps (q ∷ qs), size_above qs))
      (omega (arith, is_at, ap length is, length-append (165 ∷ frame p) (0 ∷ []), length-frame p))
      (λ i s. subst (λ (b : List ℕ). Staged (overwritten i at b) ps (q ∷ qs ++ p ∷ [])) (sym is) (stages_next i ps q qs p at ends s))
      size image pending

  -- what a crash leaves after either write
  pub staged_log : (old new : D) (gate : Gate) (ps qs : List (List ℕ)) (at n : ℕ) → T old gate ps qs → gate.fresh ≡ false → size_of ps ≤ at
      → Follows (Torn at n) (may_leave old) (may_leave new) → (c : List ℕ) → may_leave new c → IsLog c ps
  staged_log old new gate ps qs at n t ready le pending c l =
      let from = pending c l in
      let L : Bool → Type 0 = λ b. Left b ps from.0 in
      record { fits = fits_front ps qs t.fits; bytes = inr (front_stays from.0 c ps at n (subst L ready (t.left from.0 from.1)) le from.2) }

  pub next_is_ready : (old : D) (gate : Gate) (ps qs : List (List ℕ)) → T old gate ps qs → suc gate.published ≤ gate.end → gate.fresh ≡ false
  next_is_ready old gate ps [] t some = absurd (omega (arith, some, t.published_end, t.end, size_of-append ps []))
  next_is_ready old gate ps (q ∷ qs) t some = next_ready old gate ps q qs t

  -- the gate is at the end of what is published, over records that are on the disk
  pub lasting : (old mid : D) (gate : Gate) (ps qs : List (List ℕ)) → T old gate ps qs → suc gate.published ≤ gate.end → told_image mid ≡ told_image old
      → (i : List ℕ) → told_image mid ≡ Some i → Staged i ps qs
  lasting old mid gate ps qs t some same i is =
      let S : Bool → Type 0 = λ b. Seen b ps qs i in subst S (next_is_ready old gate ps qs t some) (t.seen i (sym same ∙ is))

  abbrev Either : List (List ℕ) → List (List ℕ) → List ℕ → Type 0
  Either ps qs c = IsLog c ps ⊎ IsLog c (ps ++ qs)

  -- before the gate is opened
  pub before_open : (old mid : D) (gate : Gate) (ps qs : List (List ℕ)) → T old gate ps qs → suc gate.published ≤ gate.end → told_image mid ≡ told_image old
      → NothingPending (told_image mid) (may_leave mid) → (c : List ℕ) → may_leave mid c → Either ps qs c
  before_open old mid gate ps qs t some same quiet c l =
      let s = lasting old mid gate ps qs t some same c (quiet c l) in
      inl (record { fits = fits_front ps qs t.fits; bytes = inr (record { gate = s.gate; rest = behind qs s.rest; shut = s.shut; is = s.is }) })

  -- the commit byte is torn
  pub opened_or_not : (old : D) (gate : Gate) (ps qs : List (List ℕ)) (at : ℕ) → T old gate ps qs → suc gate.published ≤ gate.end → at + 1 ≡ gate.published
      → (i c : List ℕ) → Staged i ps qs → Torn at 1 i c → Either ps qs c
  opened_or_not old gate ps [] at t some is_at i c s torn = absurd (omega (arith, some, t.published_end, t.end, size_of-append ps []))
  opened_or_not old gate ps (q ∷ qs) at t some is_at i c s torn =
      ⊎_elim
      (λ f. inl (record { fits = fits_front ps (q ∷ qs) t.fits; bytes = inr f }))
      (λ f. inr (record { fits = t.fits; bytes = inr f }))
      (gate_torn i c ps q qs at (omega (arith, is_at, t.published_end)) s torn)

  -- while it is opened
  pub while_open : (old mid new : D) (gate : Gate) (ps qs : List (List ℕ)) (at : ℕ) → T old gate ps qs → suc gate.published ≤ gate.end → at + 1 ≡ gate.published → told_image mid ≡ told_image old
      → NothingPending (told_image mid) (may_leave mid) → Follows (Torn at 1) (may_leave mid) (may_leave new) → (c : List ℕ) → may_leave new c → Either ps qs c
  while_open old mid new gate ps qs at t some is_at same quiet pending c l =
      let from = pending c l in
      opened_or_not old gate ps qs at t some is_at from.0 c (lasting old mid gate ps qs t some same from.0 (quiet from.0 from.1)) from.2

  -- once it is opened, a read gives all that was staged
  pub opened_told : (old : D) (gate : Gate) (ps qs : List (List ℕ)) (at : ℕ) → T old gate ps qs → suc gate.published ≤ gate.end → at + 1 ≡ gate.published
      → (i : List ℕ) → option_map (λ i. overwritten i at (165 ∷ [])) (told_image old) ≡ Some i → IsLog i (ps ++ qs)
  opened_told old gate ps [] at t some is_at i is = absurd (omega (arith, some, t.published_end, t.end, size_of-append ps []))
  opened_told old gate ps (q ∷ qs) at t some is_at i is =
      let was = told_by (λ (i : List ℕ). overwritten i at (165 ∷ [])) (told_image old) i is in
      let s = gate_written was.0 ps q qs at (omega (arith, is_at, t.published_end)) (lasting old old gate ps (q ∷ qs) t some refl was.0 was.1) in
      record { fits = t.fits; bytes = inr (front_of_staged i (ps ++ q ∷ qs) [] (subst (λ (l : List ℕ). Staged l (ps ++ q ∷ qs) []) was.2 s)) }

  pub some_staged : (desk : D) (gate : Gate) → (ps : List (List ℕ)) × (q : List ℕ) × (qs : List (List ℕ)) × T desk gate ps (q ∷ qs) → suc gate.published ≤ gate.end
  some_staged desk gate s = omega (arith, s.3.published_end, s.3.end, size_of-append s.0 (s.1 ∷ s.2), size_above s.2)

  pub above_magic : (desk : D) (gate : Gate) (ps qs : List (List ℕ)) → T desk gate ps qs → 9 ≤ gate.published
  above_magic desk gate ps qs t = omega (arith, t.published_end, size_above ps)
