-- What a crash leaves, and what a read gives, at each exit of a call that writes.
use Rattle.std.proofs.Common.{◌≡◌, ◌⊎◌, inl, inr, ℕ, ◌+◌, ◌≤◌, List, ◌++◌, length, Bool, true, false, None, Some, suc, refl, sym, ◌∙◌, subst}
use Rattle.std.specs.declared.option.Option.{Option}
use Rattle.std.specs.Option.{ForSome}
use Rattle.r3_desk.specs.Crash.{Reach, Follows, NothingPending, GoesOn}
use Rattle.r3_desk.specs.Disk.{Torn, MayTear, told_len}
use Rattle.r3_desk.specs.Moments.{LeavesImage, started, one_call, image_then}
use Rattle.r3_gate.specs.Log.{size_of, Fronts, Staged, IsLog}
use Rattle.r3_gate.specs.Gate.{Seen, Tracks}
use Rattle.r3_gate.specs.declared.gate.Gate.{Gate}
use Rattle.r3_gate.proofs.Writes.{front_stays, header_torn}
use Rattle.r3_gate.proofs.Steps.{left_log, seen_front, fits_front, staged_log, before_open, while_open, lasting, opened_or_not}

module _ {D C : Type 0} (told_size : D → Option ℕ) (told_image : D → Option (List ℕ)) (may_leave : D → List ℕ → Type 0)
    (moment : D → ℕ) (reach : D → Reach) (said : D → Option (List ℕ)) (asked : D → Option (List C)) where
  abbrev T : D → Gate → List (List ℕ) → List (List ℕ) → Type 0
  T = Tracks told_size told_image may_leave

  abbrev Leaves : D → D → (List ℕ → Type 0) → Type 0
  Leaves = LeavesImage moment reach may_leave said asked

  abbrev Goes : D → D → Type 0
  Goes = GoesOn moment reach may_leave said asked

  -- before any call
  pub at_rest : (d : D) (gate : Gate) (ps qs : List (List ℕ))
      → ((t : ℕ) (c : List ℕ) → t ≤ moment d → may_leave d c → reach d t c (told_len (said d)) (told_len (asked d)))
      → ((c : List ℕ) (n m : ℕ) → reach d (moment d) c n m → may_leave d c × (n ≡ told_len (said d)) × (m ≡ told_len (asked d)))
      → T d gate ps qs → Leaves d d (λ c. IsLog c ps)
  at_rest d gate ps qs counts_now only_now t = started moment reach may_leave said asked d (λ c. IsLog c ps) counts_now only_now (left_log told_size told_image may_leave d gate ps qs t)

  -- a record is written behind what is committed
  pub while_staged : (old new : D) (gate : Gate) (ps qs : List (List ℕ)) (at n : ℕ) → T old gate ps qs → gate.fresh ≡ false → size_of ps ≤ at
      → Goes old new → said new ≡ said old → asked new ≡ asked old → Follows (Torn at n) (may_leave old) (may_leave new) → Leaves old new (λ c. IsLog c ps)
  while_staged old new gate ps qs at n t ready le goes same_said same_asked pending =
      one_call moment reach may_leave said asked old new (λ c. IsLog c ps) goes same_said same_asked
      (left_log told_size told_image may_leave old gate ps qs t)
      (staged_log told_size told_image may_leave old new gate ps qs at n t ready le pending)

  -- the same behind another run of calls
  pub then_staged : (start old new : D) (gate : Gate) (ps qs : List (List ℕ)) (at n : ℕ) → Leaves start old (λ c. IsLog c ps) → said old ≡ said start → asked old ≡ asked start
      → T old gate ps qs → gate.fresh ≡ false → size_of ps ≤ at
      → Goes old new → said new ≡ said old → asked new ≡ asked old → Follows (Torn at n) (may_leave old) (may_leave new) → Leaves start new (λ c. IsLog c ps)
  then_staged start old new gate ps qs at n first start_said start_asked t ready le goes same_said same_asked pending =
      image_then moment reach may_leave said asked start old new (λ c. IsLog c ps) (λ c. IsLog c ps) (λ c. IsLog c ps) first
      (while_staged old new gate ps qs at n t ready le goes same_said same_asked pending) start_said start_asked (λ _ h. h) (λ _ h. h)

  abbrev pub Either : List (List ℕ) → List (List ℕ) → List ℕ → Type 0
  Either ps qs c = IsLog c ps ⊎ IsLog c (ps ++ qs)

  -- the records are synced
  pub while_synced : (old mid : D) (gate : Gate) (ps qs : List (List ℕ)) → T old gate ps qs
      → Goes old mid → said mid ≡ said old → asked mid ≡ asked old → ((c : List ℕ) → may_leave mid c → may_leave old c) → Leaves old mid (Either ps qs)
  while_synced old mid gate ps qs t goes same_said same_asked fewer =
      one_call moment reach may_leave said asked old mid (Either ps qs) goes same_said same_asked
      (λ c l. inl (left_log told_size told_image may_leave old gate ps qs t c l))
      (λ c l. inl (left_log told_size told_image may_leave old gate ps qs t c (fewer c l)))

  -- the first commit byte is opened
  pub while_opened : (old mid new : D) (gate : Gate) (ps qs : List (List ℕ)) (at : ℕ) → T old gate ps qs → suc gate.published ≤ gate.end → at + 1 ≡ gate.published
      → told_image mid ≡ told_image old → NothingPending (told_image old) (may_leave mid) → said mid ≡ said old → asked mid ≡ asked old → Leaves old mid (Either ps qs)
      → Goes mid new → said new ≡ said mid → asked new ≡ asked mid → Follows (Torn at 1) (may_leave mid) (may_leave new)
      → Leaves old new (Either ps qs) × ((c : List ℕ) → may_leave new c → Either ps qs c)
  while_opened old mid new gate ps qs at t some is_at image durable mid_said mid_asked first goes same_said same_asked pending =
      let quiet : NothingPending (told_image mid) (may_leave mid) = λ c l. image ∙ durable c l in
      let while = while_open told_size told_image may_leave old mid new gate ps qs at t some is_at image quiet pending in (
        image_then moment reach may_leave said asked old mid new (Either ps qs) (Either ps qs) (Either ps qs) first
            (one_call moment reach may_leave said asked mid new (Either ps qs) goes same_said same_asked
            (before_open told_size told_image may_leave old mid gate ps qs t some image quiet) while)
            mid_said mid_asked (λ _ h. h) (λ _ h. h),
        while,
      )

  -- and synced
  pub while_committed : (old mid new : D) (ps qs : List (List ℕ)) → Leaves old mid (Either ps qs) × ((c : List ℕ) → may_leave mid c → Either ps qs c)
      → said mid ≡ said old → asked mid ≡ asked old
      → Goes mid new → said new ≡ said mid → asked new ≡ asked mid → ((c : List ℕ) → may_leave new c → may_leave mid c) → Leaves old new (Either ps qs)
  while_committed old mid new ps qs opened mid_said mid_asked goes same_said same_asked fewer =
      image_then moment reach may_leave said asked old mid new (Either ps qs) (Either ps qs) (Either ps qs) opened.0
      (one_call moment reach may_leave said asked mid new (Either ps qs) goes same_said same_asked opened.1 (λ c l. opened.1 c (fewer c l)))
      mid_said mid_asked (λ _ h. h) (λ _ h. h)

-- what a write that failed leaves to read
torn_told : (P Q : List ℕ → Type 0) (at n : ℕ) (old new : Option (List ℕ)) → MayTear at n old new → ((i j : List ℕ) → P i → Torn at n i j → Q j)
    → ForSome old P → ForSome new Q
torn_told P Q at n None new torn step before j is = absurd (let e : None ≡ Some j = sym torn ∙ is in cc)
torn_told P Q at n (Some i) None torn step before j is = absurd torn
torn_told P Q at n (Some i) (Some k) torn step before j is = let same : k ≡ j = cc in subst Q same (step i k (before i refl) torn)

module _ {D : Type 0} (told_size : D → Option ℕ) (told_image : D → Option (List ℕ)) (may_leave : D → List ℕ → Type 0) where
  abbrev R : D → Gate → List (List ℕ) → List (List ℕ) → Type 0
  R = Tracks told_size told_image may_leave

  pub header_failed : (old new : D) (gate : Gate) (ps qs : List (List ℕ)) → R old gate ps qs → gate.fresh ≡ true → MayTear 0 9 (told_image old) (told_image new)
      → ForSome (told_image new) (λ i. IsLog i ps)
  header_failed old new gate ps qs t fresh torn =
      torn_told (λ i. length i ≤ 9) (λ i. IsLog i ps) 0 9 (told_image old) (told_image new) torn
      (λ i j le tear. record { fits = fits_front ps qs t.fits; bytes = inl (header_torn i j le tear, (t.fresh fresh).0) })
      (λ i is. let S : Bool → Type 0 = λ b. Seen b ps qs i in subst S fresh (t.seen i is))

  pub stage_failed : (old new : D) (gate : Gate) (ps qs : List (List ℕ)) (at n : ℕ) → R old gate ps qs → gate.fresh ≡ false → size_of ps ≤ at
      → MayTear at n (told_image old) (told_image new) → ForSome (told_image new) (λ i. IsLog i ps)
  stage_failed old new gate ps qs at n t ready le torn =
      torn_told (λ i. Fronts i ps) (λ i. IsLog i ps) at n (told_image old) (told_image new) torn
      (λ i j f tear. record { fits = fits_front ps qs t.fits; bytes = inr (front_stays i j ps at n f le tear) })
      (λ i is. seen_front told_size told_image may_leave old gate ps qs t ready i is)

  pub open_failed : (old new : D) (gate : Gate) (ps : List (List ℕ)) (qs : List (List ℕ)) (at : ℕ) → R old gate ps qs → suc gate.published ≤ gate.end → at + 1 ≡ gate.published
      → MayTear at 1 (told_image old) (told_image new) → ForSome (told_image new) (λ i. IsLog i ps ⊎ IsLog i (ps ++ qs))
  open_failed old new gate ps qs at t some is_at torn =
      torn_told (λ i. Staged i ps qs) (λ i. IsLog i ps ⊎ IsLog i (ps ++ qs)) at 1 (told_image old) (told_image new) torn
      (λ i j s tear. opened_or_not told_size told_image may_leave old gate ps qs at t some is_at i j s tear)
      (λ i is. lasting told_size told_image may_leave old old gate ps qs t some refl i is)
