-- The state at a moment goes on step by step.
use Rattle.std.proofs.Common.{◌≡◌, ◌⊎◌, inl, inr, ⊎_elim, ℕ, ◌+◌, ◌-◌, ◌<◌, ◌≤◌, Bool, true, false, ◌&&◌, nat_lt, nat_le, if◌then◌else◌, List, [], ◌∷◌, ◌++◌, length, reverse, take, drop, get_or, replicate, refl, sym, ◌∙◌, ap, subst, arith}
use Rattle.std.proofs.lemmas.Bool.{lt-ltb, le-ltb, leb-true, eqb-true, and_parts, cases_lt}
use Rattle.std.proofs.lemmas.List.{reverse-append, reverse-reverse, length-reverse, length-append, length-take-le, length-drop, length-replicate, take_at, drop_at, append-nil, take-append-drop, drop-append-le, append_assoc, get_or_append_left, get_or_push}
use Rattle.r3_desk.proofs.Kept.{length-overwritten}
use Rattle.r3_desk.specs.Disk.{overwritten}
use Rattle.r3_desk.specs.Memory.{State, state, after_step, bytes_before, write_len, past, state_when, fitting}
use Rattle.r3_desk.specs.Torn.{filled, crash_image, torn_write, BeginsIn, image_after, left_after, CanFollow}
use Rattle.r3_desk.specs.declared.step.Step.{Step}
use Rattle.r3_desk.specs.declared.step.Step.TheVariants.{Idle, Write, Sync, Say, Ask}
use Rattle.r3_desk.specs.declared.torn.Torn.{Torn}
use Rattle.r3_desk.specs.declared.torn.Torn.TheVariants.{Old, New, Fill}

abbrev pub Past : Type 0
Past = List Step × List ℕ

if_true : {A : Type 0} (v : Bool) (p q : A) → v ≡ true → (if v then p else q) ≡ p
if_true true p q e = refl
if_true false p q e = absurd cc

if_false : {A : Type 0} (v : Bool) (p q : A) → v ≡ false → (if v then p else q) ≡ q
if_false true p q e = absurd cc
if_false false p q e = refl

-- at a moment past the older steps, all steps were taken
pub past-in : (x : Step) (older : List Step) (b : List ℕ) (t : ℕ) → length older < t → past (x ∷ older) b t ≡ (x ∷ older, b)
past-in x older b t lt = let whole : Past = (x ∷ older, b) in if_true (nat_lt (length older) t) whole (past older (bytes_before x b) t) (lt-ltb (length older) t lt)

pub past-out : (x : Step) (older : List Step) (b : List ℕ) (t : ℕ) → t ≤ length older → past (x ∷ older) b t ≡ past older (bytes_before x b) t
past-out x older b t le = let whole : Past = (x ∷ older, b) in if_false (nat_lt (length older) t) whole (past older (bytes_before x b) t) (le-ltb (length older) t le)

past-all : (xs : List Step) (b : List ℕ) (t : ℕ) → length xs ≤ t → past xs b t ≡ (xs, b)
past-all [] b t le = refl
past-all (x ∷ older) b t le = past-in x older b t (omega (arith, le))

past-none : (xs : List Step) (b : List ℕ) → (past xs b 0).0 ≡ []
past-none [] b = refl
past-none (x ∷ older) b = ap (λ (p : Past). p.0) (past-out x older b 0 (omega arith)) ∙ past-none older (bytes_before x b)

-- the step after a moment
pub record Next (xs : List Step) (b : List ℕ) (t : ℕ) (x : Step) : Type 0 where
  pub steps : (past xs b (t + 1)).0 ≡ x ∷ (past xs b t).0
  pub bytes : (past xs b t).1 ≡ bytes_before x (past xs b (t + 1)).1

next_older : (x y z : Step) (older : List Step) (b : List ℕ) (t : ℕ) → t < length older → z ≡ y → Next older (bytes_before x b) t y → Next (x ∷ older) b t z
next_older x y z older b t lt same ih =
    let now : past (x ∷ older) b t ≡ past older (bytes_before x b) t = past-out x older b t (omega (arith, lt)) in
    let later : past (x ∷ older) b (t + 1) ≡ past older (bytes_before x b) (t + 1) = past-out x older b (t + 1) (omega (arith, lt)) in
    let N : Past → Past → Step → Type 0 = λ p q w. (q.0 ≡ w ∷ p.0) × (p.1 ≡ bytes_before w q.1) in
    let n0 : N (past older (bytes_before x b) t) (past older (bytes_before x b) (t + 1)) y = (ih.steps, ih.bytes) in
    let n1 : N (past (x ∷ older) b t) (past older (bytes_before x b) (t + 1)) y = subst (λ p. N p (past older (bytes_before x b) (t + 1)) y) (sym now) n0 in
    let n2 : N (past (x ∷ older) b t) (past (x ∷ older) b (t + 1)) y = subst (λ q. N (past (x ∷ older) b t) q y) (sym later) n1 in
    let n3 : N (past (x ∷ older) b t) (past (x ∷ older) b (t + 1)) z = subst (λ w. N (past (x ∷ older) b t) (past (x ∷ older) b (t + 1)) w) (sym same) n2 in
    record { steps = n3.0; bytes = n3.1 }

next_newest : (x z : Step) (older : List Step) (b : List ℕ) (t : ℕ) → length older ≡ t → z ≡ x → Next (x ∷ older) b t z
next_newest x z older b t is same =
    let now : past (x ∷ older) b t ≡ (older, bytes_before x b) = past-out x older b t (omega (arith, is)) ∙ past-all older (bytes_before x b) t (omega (arith, is)) in
    let later : past (x ∷ older) b (t + 1) ≡ (x ∷ older, b) = past-in x older b (t + 1) (omega (arith, is)) in
    let N : Past → Past → Step → Type 0 = λ p q w. (q.0 ≡ w ∷ p.0) × (p.1 ≡ bytes_before w q.1) in
    let n0 : N (older, bytes_before x b) (x ∷ older, b) x = (refl, refl) in
    let n1 : N (past (x ∷ older) b t) (x ∷ older, b) x = subst (λ p. N p (x ∷ older, b) x) (sym now) n0 in
    let n2 : N (past (x ∷ older) b t) (past (x ∷ older) b (t + 1)) x = subst (λ q. N (past (x ∷ older) b t) q x) (sym later) n1 in
    let n3 : N (past (x ∷ older) b t) (past (x ∷ older) b (t + 1)) z = subst (λ w. N (past (x ∷ older) b t) (past (x ∷ older) b (t + 1)) w) (sym same) n2 in
    record { steps = n3.0; bytes = n3.1 }

pub next : (xs : List Step) (b : List ℕ) (t : ℕ) (d : Step) → t < length xs → Next xs b t (get_or (reverse xs) t d)
next [] b t d lt = absurd (omega (arith, lt))
next (x ∷ older) b t d lt =
    let split : reverse (x ∷ older) ≡ reverse older ++ x ∷ [] = reverse-append (x ∷ []) older in
    let at : get_or (reverse (x ∷ older)) t d ≡ get_or (reverse older ++ x ∷ []) t d = ap (λ (l : List Step). get_or l t d) split in
    ⊎_elim
    (λ below. next_older x (get_or (reverse older) t d) (get_or (reverse (x ∷ older)) t d) older b t below
    (at ∙ get_or_append_left (reverse older) (x ∷ []) d t (omega (arith, below, length-reverse older)))
    (next older (bytes_before x b) t d below))
    (λ above. let is : length older ≡ t = omega (arith, above, lt) in
    next_newest x (get_or (reverse (x ∷ older)) t d) older b t is
    (at ∙ get_or_push (reverse older) x d t (length-reverse older ∙ is)))
    (cases_lt t (length older))

-- the same of steps in the order in which they were recorded
pub next_step : (steps : List Step) (b : List ℕ) (t : ℕ) → t < length steps → Next (reverse steps) b t (get_or steps t Idle)
next_step steps b t lt =
    subst (λ (l : List Step). Next (reverse steps) b t (get_or l t Idle)) (reverse-reverse steps) (next (reverse steps) b t Idle (omega (arith, lt, length-reverse steps)))

before_is : (x : Step) (b : List ℕ) → (rest : List ℕ) × (b ≡ bytes_before x b ++ rest)
before_is Idle b = ([], sym (append-nil b))
before_is (Write at len) b = (drop (length b - len) b, sym (take-append-drop (length b - len) b))
before_is Sync b = ([], sym (append-nil b))
before_is (Say len) b = ([], sym (append-nil b))
before_is Ask b = ([], sym (append-nil b))

-- the bytes written up to a moment stand first
pub past_bytes : (xs : List Step) (b : List ℕ) (t : ℕ) → (rest : List ℕ) × (b ≡ (past xs b t).1 ++ rest)
past_bytes [] b t = ([], sym (append-nil b))
past_bytes (x ∷ older) b t = ⊎_elim
    (λ below. ([], sym (append-nil b) ∙ ap (λ (p : Past). p.1 ++ []) (sym (past-in x older b t below))))
    (λ above.
    let one = before_is x b in
    let more = past_bytes older (bytes_before x b) t in
    let both : bytes_before x b ++ one.0 ≡ (past older (bytes_before x b) t).1 ++ more.0 ++ one.0 = ap (λ (l : List ℕ). l ++ one.0) more.1 in (
      more.0 ++ one.0,
      one.1 ∙ both ∙ append_assoc (past older (bytes_before x b) t).1 more.0 one.0
          ∙ ap (λ (p : Past). p.1 ++ (more.0 ++ one.0)) (sym (past-out x older b t above)),
    ))
    (cases_lt (length older) t)

module _ (first : List ℕ) where
  pub fits_older : (x : Step) (older : List Step) (b : List ℕ) → fitting first (x ∷ older) b ≡ true → fitting first older (bytes_before x b) ≡ true
  fits_older Idle older b f = f
  fits_older (Write at len) older b f =
      (and_parts (nat_le at (length (state first older (bytes_before (Write at len) b)).image) && nat_le len (length b)) (fitting first older (bytes_before (Write at len) b)) f).1
  fits_older Sync older b f = f
  fits_older (Say len) older b f = f
  fits_older Ask older b f = f

  pub fits_past : (xs : List Step) (b : List ℕ) (t : ℕ) → fitting first xs b ≡ true → fitting first (past xs b t).0 (past xs b t).1 ≡ true
  fits_past [] b t f = f
  fits_past (x ∷ older) b t f = ⊎_elim
      (λ below. subst (λ (p : Past). fitting first p.0 p.1 ≡ true) (sym (past-in x older b t below)) f)
      (λ above. subst (λ (p : Past). fitting first p.0 p.1 ≡ true) (sym (past-out x older b t above)) (fits_past older (bytes_before x b) t (fits_older x older b f)))
      (cases_lt (length older) t)

  -- the images that a replay holds at a moment
  pub record Replayed (xs : List Step) (b : List ℕ) (t : ℕ) (torn : Torn) (image left : List ℕ) (from : ℕ) : Type 0 where
    pub image_is : image ≡ (state_when first xs b t).image
    pub left_is : left ≡ crash_image torn (state_when first xs b t)
    pub from_is : from ≡ length (past xs b t).1

  first_image : (torn : Torn) (b : List ℕ) → first ≡ crash_image torn (state first [] b)
  first_image Old b = refl
  first_image New b = refl
  first_image (Fill byte) b = refl

  pub replay_start : (xs : List Step) (b : List ℕ) (torn : Torn) → fitting first xs b ≡ true → Replayed xs b 0 torn first first 0
  replay_start xs b torn f =
      let p = past xs b 0 in
      let none : p.0 ≡ [] = past-none xs b in
      let fits : fitting first [] p.1 ≡ true = subst (λ (l : List Step). fitting first l p.1 ≡ true) none (fits_past xs b 0 f) in
      record {
        image_is = subst (λ (l : List Step). first ≡ (state first l p.1).image) (sym none) refl;
        left_is = subst (λ (l : List Step). first ≡ crash_image torn (state first l p.1)) (sym none) (first_image torn p.1);
        from_is = sym (eqb-true (length p.1) 0 fits);
      }

  state_next : (xs : List Step) (b : List ℕ) (t : ℕ) (x : Step) → Next xs b t x → state_when first xs b (t + 1) ≡ after_step x (past xs b (t + 1)).1 (state_when first xs b t)
  state_next xs b t x n =
      ap (λ (l : List Step). state first l (past xs b (t + 1)).1) n.steps
      ∙ ap (λ (l : List ℕ). after_step x (past xs b (t + 1)).1 (state first (past xs b t).0 l)) (sym n.bytes)

  -- what holds of a write's range
  pub write_fits : (at len : ℕ) (older : List Step) (b : List ℕ) → fitting first (Write at len ∷ older) b ≡ true → (at ≤ length (state first older (bytes_before (Write at len) b)).image) × (len ≤ length b)
  write_fits at len older b f =
      let within = nat_le at (length (state first older (bytes_before (Write at len) b)).image) in
      let both = (and_parts (within && nat_le len (length b)) (fitting first older (bytes_before (Write at len) b)) f).0 in
      let parts = and_parts within (nat_le len (length b)) both in
      (leb-true _ _ parts.0, leb-true _ _ parts.1)

  -- filling what isn't synced gives an image as long as the one that a read gives
  pub length-filled : (byte : ℕ) (xs : List Step) (b : List ℕ) → fitting first xs b ≡ true → length (filled byte (state first xs b).ranges (state first xs b).base) ≡ length (state first xs b).image
  length-filled byte [] b f = refl
  length-filled byte (Idle ∷ older) b f = length-filled byte older b f
  length-filled byte (Write at len ∷ older) b f =
      let s = state first older (bytes_before (Write at len) b) in
      let ih : length (filled byte s.ranges s.base) ≡ length s.image = length-filled byte older (bytes_before (Write at len) b) (fits_older (Write at len) older b f) in
      let w = write_fits at len older b f in
      let n : length (drop (length b - len) b) ≡ len = omega (arith, length-drop (length b - len) b, w.1) in
      omega (arith, ih, n, w.0, length-replicate len byte, length-overwritten (filled byte s.ranges s.base) at (replicate len byte) (omega (arith, ih, w.0)), length-overwritten s.image at (drop (length b - len) b) w.0)
  length-filled byte (Sync ∷ older) b f = refl
  length-filled byte (Say len ∷ older) b f = length-filled byte older b f
  length-filled byte (Ask ∷ older) b f = length-filled byte older b f

  pub next_fits : (xs : List Step) (b : List ℕ) (t : ℕ) (x : Step) → fitting first xs b ≡ true → Next xs b t x → fitting first (x ∷ (past xs b t).0) (past xs b (t + 1)).1 ≡ true
  next_fits xs b t x f n = subst (λ (l : List Step). fitting first l (past xs b (t + 1)).1 ≡ true) n.steps (fits_past xs b (t + 1) f)

  -- the bytes of the step after a moment, where a replay stands
  pub record Bytes (xs : List Step) (b : List ℕ) (t : ℕ) (from len : ℕ) : Type 0 where
    pub upto : length (past xs b (t + 1)).1 ≡ from + len
    pub within : from + len ≤ length b
    pub are : take len (drop from b) ≡ drop (length (past xs b (t + 1)).1 - len) (past xs b (t + 1)).1

  pub bytes_of : (xs : List Step) (b : List ℕ) (t : ℕ) (torn : Torn) (image left : List ℕ) (from : ℕ) (x : Step)
      → fitting first xs b ≡ true → Next xs b t x → Replayed xs b t torn image left from → Bytes xs b t from (write_len x)
  bytes_of xs b t torn image left from x f n r =
      let q = (past xs b (t + 1)).1 in
      let upto : length q ≡ from + write_len x = omega (arith, longer x q (next_fits xs b t x f n), ap length n.bytes, r.from_is) in
      let rest = past_bytes xs b (t + 1) in
      let len : length b ≡ length q + length rest.0 = ap length rest.1 ∙ length-append q rest.0 in
      let short : length (drop from q) ≡ write_len x = omega (arith, upto, length-drop from q) in
      let back : length q - write_len x ≡ from = omega (arith, upto) in
      record {
        upto = upto;
        within = omega (arith, upto, len);
        are = ap (λ (l : List ℕ). take (write_len x) (drop from l)) rest.1
            ∙ ap (λ (l : List ℕ). take (write_len x) l) (drop-append-le from q rest.0 (omega (arith, upto)))
            ∙ take_at (drop from q) rest.0 (write_len x) short
            ∙ ap (λ (k : ℕ). drop k q) (sym back);
      }
    where
      longer : (y : Step) (q : List ℕ) → fitting first (y ∷ (past xs b t).0) q ≡ true → length q ≡ length (bytes_before y q) + write_len y
      longer Idle q g = omega arith
      longer (Write at len) q g = omega (arith, (write_fits at len (past xs b t).0 q g).1, length-take-le (length q - len) q (omega arith))
      longer Sync q g = omega arith
      longer (Say len) q g = omega arith
      longer Ask q g = omega arith

  -- the step can follow
  pub can_follow : (xs : List Step) (b : List ℕ) (t : ℕ) (torn : Torn) (image left : List ℕ) (from : ℕ) (x : Step)
      → fitting first xs b ≡ true → Next xs b t x → Replayed xs b t torn image left from → CanFollow torn x (length image) (length left)
  can_follow xs b t torn image left from Idle f n r = tt
  can_follow xs b t torn image left from (Write at len) f n r = (within, begins torn left r.left_is)
    where
      s : State
      s = state_when first xs b t

      within : at ≤ length image
      within =
          let w : at ≤ length (state first (past xs b t).0 (bytes_before (Write at len) (past xs b (t + 1)).1)).image = (write_fits at len (past xs b t).0 (past xs b (t + 1)).1 (next_fits xs b t (Write at len) f n)).0 in
          let e : length (state first (past xs b t).0 (bytes_before (Write at len) (past xs b (t + 1)).1)).image ≡ length (state_when first xs b t).image = ap (λ (l : List ℕ). length (state first (past xs b t).0 l).image) (sym n.bytes) in
          omega (arith, w, e, ap length r.image_is)

      begins : (torn : Torn) (left : List ℕ) → left ≡ crash_image torn (state_when first xs b t) → BeginsIn torn at (length left)
      begins Old left is = tt
      begins New left is = omega (arith, within, ap length is, ap length r.image_is)
      begins (Fill byte) left is = omega (arith, within, ap length is, ap length r.image_is, length-filled byte (past xs b t).0 (past xs b t).1 (fits_past xs b t f))
  can_follow xs b t torn image left from Sync f n r = tt
  can_follow xs b t torn image left from (Say len) f n r = tt
  can_follow xs b t torn image left from Ask f n r = tt

  -- one step on
  pub replay_next : (xs : List Step) (b : List ℕ) (t : ℕ) (torn : Torn) (image left : List ℕ) (from : ℕ) (x : Step)
      → fitting first xs b ≡ true → Next xs b t x → Replayed xs b t torn image left from
      → Replayed xs b (t + 1) torn (image_after x (take (write_len x) (drop from b)) image) (left_after torn x (take (write_len x) (drop from b)) image left) (from + write_len x)
  replay_next xs b t torn image left from x f n r =
      let q = (past xs b (t + 1)).1 in
      let s = state_when first xs b t in
      let y = bytes_of xs b t torn image left from x f n r in
      let bytes = take (write_len x) (drop from b) in
      let later = state_next xs b t x n in
      record {
        image_is = ap (λ (l : List ℕ). image_after x bytes l) r.image_is ∙ image_step x q bytes s y.are ∙ ap (λ (w : State). w.image) (sym later);
        left_is = ap (λ (l : List ℕ). left_after torn x bytes l left) r.image_is ∙ ap (λ (l : List ℕ). left_after torn x bytes s.image l) r.left_is
            ∙ left_step torn x q bytes s (omega (arith, y.upto)) y.are ∙ ap (λ (w : State). crash_image torn w) (sym later);
        from_is = sym y.upto;
      }
    where
      image_step : (x : Step) (q bytes : List ℕ) (s : State) → bytes ≡ drop (length q - write_len x) q → image_after x bytes s.image ≡ (after_step x q s).image
      image_step Idle q bytes s is = refl
      image_step (Write at len) q bytes s is = ap (λ (l : List ℕ). overwritten s.image at l) is
      image_step Sync q bytes s is = refl
      image_step (Say len) q bytes s is = refl
      image_step Ask q bytes s is = refl

      torn_step : (torn : Torn) (at len : ℕ) (q bytes : List ℕ) (s : State) → length bytes ≡ len → bytes ≡ drop (length q - len) q → torn_write torn at bytes (crash_image torn s) ≡ crash_image torn (after_step (Write at len) q s)
      torn_step Old at len q bytes s n is = refl
      torn_step New at len q bytes s n is = ap (λ (l : List ℕ). overwritten s.image at l) is
      torn_step (Fill byte) at len q bytes s n is = ap (λ (k : ℕ). overwritten (filled byte s.ranges s.base) at (replicate k byte)) n

      synced : (torn : Torn) (s : State) → s.image ≡ crash_image torn (after_step Sync [] s)
      synced Old s = refl
      synced New s = refl
      synced (Fill byte) s = refl

      same_image : (torn : Torn) (s : State) (len : ℕ) → crash_image torn s ≡ crash_image torn (after_step (Say len) [] s)
      same_image Old s len = refl
      same_image New s len = refl
      same_image (Fill byte) s len = refl

      asked_image : (torn : Torn) (s : State) → crash_image torn s ≡ crash_image torn (after_step Ask [] s)
      asked_image Old s = refl
      asked_image New s = refl
      asked_image (Fill byte) s = refl

      left_step : (torn : Torn) (x : Step) (q bytes : List ℕ) (s : State) → write_len x ≤ length q → bytes ≡ drop (length q - write_len x) q → left_after torn x bytes s.image (crash_image torn s) ≡ crash_image torn (after_step x q s)
      left_step torn Idle q bytes s le is = refl
      left_step torn (Write at len) q bytes s le is = torn_step torn at len q bytes s (omega (arith, ap length is, length-drop (length q - len) q, le)) is
      left_step torn Sync q bytes s le is = synced torn s
      left_step torn (Say len) q bytes s le is = same_image torn s len
      left_step torn Ask q bytes s le is = asked_image torn s

  -- the first images, and one step on, as the code has them
  pub replay_from : (xs : List Step) (b : List ℕ) (torn : Torn) (image left : List ℕ) → fitting first xs b ≡ true → image ≡ first → left ≡ first → Replayed xs b 0 torn image left 0
  replay_from xs b torn image left f i l =
      let r = replay_start xs b torn f in
      record { image_is = i ∙ r.image_is; left_is = l ∙ r.left_is; from_is = r.from_is }

  pub replay_to : (xs : List Step) (b : List ℕ) (t : ℕ) (torn : Torn) (image left : List ℕ) (from : ℕ) (x : Step)
      → fitting first xs b ≡ true → Next xs b t x → Replayed xs b t torn image left from
      → (k : ℕ) (bytes image' left' : List ℕ) → k ≡ write_len x → bytes ≡ take (from + k - from) (drop from b)
      → image' ≡ image_after x bytes image → left' ≡ left_after torn x bytes image left → Replayed xs b (t + 1) torn image' left' (from + length bytes)
  replay_to xs b t torn image left from x f n r k bytes image' left' is are i l =
      let y = bytes_of xs b t torn image left from x f n r in
      let count : from + k - from ≡ write_len x = omega (arith, is) in
      let same : bytes ≡ take (write_len x) (drop from b) = are ∙ ap (λ (m : ℕ). take m (drop from b)) count in
      let len : length bytes ≡ write_len x = ap length same ∙ length-take-le (write_len x) (drop from b) (omega (arith, y.within, length-drop from b)) in
      let g = replay_next xs b t torn image left from x f n r in
      record {
        image_is = i ∙ ap (λ (m : List ℕ). image_after x m image) same ∙ g.image_is;
        left_is = l ∙ ap (λ (m : List ℕ). left_after torn x m image left) same ∙ g.left_is;
        from_is = ap (λ (m : ℕ). from + m) len ∙ g.from_is;
      }
