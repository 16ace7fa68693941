-- What is read of a log holds of its image.
use Rattle.std.proofs.Common.{◌≡◌, ◌⊎◌, inl, inr, ℕ, ◌+◌, ◌≤◌, ◌^◌, List, [], ◌∷◌, ◌++◌, length, take, drop, true, false, Some, Bool, Result, Ok, Err, IfOk, IsOkAnd, refl, sym, ◌∙◌, ap, subst, arith, append_assoc, length-append, take-append-drop}
use Rattle.std.specs.Option.{ForSome}
use Rattle.std.specs.declared.option.Option.{Option}
use Rattle.std.proofs.lemmas.List.{take_at, length-take, length-drop, take-append-le, take-take, append-nil}
use Rattle.r3_desk.specs.Crash.{NothingPending}
use Rattle.r3_gate.specs.Log.{front, size_of, frame, Fits, Fronts, IsLog, IsForeign, IsDamaged}
use Rattle.r3_gate.specs.Gate.{Seen, Left, Tracks, Opened}
use Rattle.r3_gate.specs.Payloads.{contents}
use Rattle.r3_gate.specs.Fault.{IsStopped}
use Rattle.r3_gate.specs.Unique.{log_unique}
use Rattle.r3_gate.specs.declared.gate.Gate.{Gate}
use Rattle.r3_gate.specs.declared.payloads.Payloads.{Payloads}
use Rattle.r3_gate.specs.declared.fault.GateFault.{GateFault}
use Rattle.r3_gate.specs.declared.fault.Limit.{Limit}
use Rattle.r3_gate.specs.declared.fault.GateFault.TheVariants.{NotStore, Damaged, Full, Disk, Memory}
use Rattle.r3_gate.proofs.Exclusive.{log_not_damaged, log_not_foreign, damaged_not_foreign, damage_unique}
use Rattle.r3_gate.proofs.Bytes.{length-frame, length-front, size_of-append}

fronts_more : (i : List ℕ) (n : ℕ) (ps : List (List ℕ)) → Fronts (take n i) ps → Fronts i ps
fronts_more i n ps f = record {
  gate = f.gate;
  rest = f.rest ++ drop n i;
  shut = f.shut;
  is = sym (take-append-drop n i) ∙ ap (λ (l : List ℕ). l ++ drop n i) f.is ∙ append_assoc (front ps) (f.gate ∷ f.rest) (drop n i);
}

damaged_more : (i : List ℕ) (k : ℕ) → IsDamaged (take (2 ^ 30) i) k → IsDamaged i k
damaged_more i k d = record {
  payloads = d.payloads;
  after = d.after ++ more;
  fits = d.fits;
  long = omega (arith, d.long, length-take (2 ^ 30) i);
  number = d.number;
  is = sym (take-append-drop (2 ^ 30) i) ∙ ap (λ (l : List ℕ). l ++ more) d.is ∙ append_assoc (front d.payloads) (165 ∷ d.after) more;
  not_whole = λ p g rest fits whole.
      let m = 5 + length p in
      let head = frame p ++ g ∷ [] in
      let head_len : length head ≡ m = omega (arith, length-append (frame p) (g ∷ []), length-frame p) in
      let long : m ≤ length d.after = omega (
        arith,
        ap length whole,
        length-append d.after more,
        length-append (frame p) (g ∷ rest),
        length-frame p,
        length-drop (2 ^ 30) i,
        length-take (2 ^ 30) i,
        ap length d.is,
        length-append (front d.payloads) (165 ∷ d.after),
        length-front d.payloads,
        fits.bytes,
        size_of-append d.payloads (p ∷ []),
      ) in
      let front_is : take m d.after ≡ head =
      sym (take-append-le m d.after more long) ∙ ap (λ (l : List ℕ). take m l) (whole ∙ sym (append_assoc (frame p) (g ∷ []) rest)) ∙ take_at head rest m head_len in
      d.not_whole p g (drop m d.after) fits
      (sym (take-append-drop m d.after) ∙ ap (λ (l : List ℕ). l ++ drop m d.after) front_is ∙ append_assoc (frame p) (g ∷ []) (drop m d.after));
}
  where
    more : List ℕ
    more = drop (2 ^ 30) i

pub read_damaged : (i bytes : List ℕ) (k : ℕ) → bytes ≡ take (2 ^ 30) i → IsDamaged bytes k → IsDamaged i k
read_damaged i bytes k is d = damaged_more i k (subst (λ (l : List ℕ). IsDamaged l k) is d)

-- a short file is read whole
pub read_short : (i bytes : List ℕ) → bytes ≡ take (2 ^ 30) i → length bytes ≤ 9 → length i ≤ 9
read_short i bytes is le = omega (arith, ap length is, length-take (2 ^ 30) i, le)

pub read_long : (i bytes : List ℕ) → bytes ≡ take (2 ^ 30) i → length bytes ≤ length i
read_long i bytes is = omega (arith, ap length is, length-take (2 ^ 30) i)

pub read_head : (i bytes : List ℕ) → bytes ≡ take (2 ^ 30) i → take 8 bytes ≡ take 8 i
read_head i bytes is = ap (λ (l : List ℕ). take 8 l) is ∙ take-take 8 (2 ^ 30) i (omega arith)

-- what is read of an image holds of the image
seen_at : (fresh : Bool) (i : List ℕ) (ps : List (List ℕ)) (bytes : List ℕ) → bytes ≡ take (2 ^ 30) i → (fresh ≡ true → (length bytes ≤ 9) × (ps ≡ [])) → (fresh ≡ false → Fronts bytes ps) → Seen fresh ps [] i
seen_at true i ps bytes is new old = read_short i bytes is (new refl).0
seen_at false i ps bytes is new old =
    let w = fronts_more i (2 ^ 30) ps (subst (λ (l : List ℕ). Fronts l ps) is (old refl)) in
    record { gate = w.gate; rest = w.rest; shut = w.shut; is = w.is }

left_at : (fresh : Bool) (i : List ℕ) (ps : List (List ℕ)) (bytes : List ℕ) → bytes ≡ take (2 ^ 30) i → (fresh ≡ true → (length bytes ≤ 9) × (ps ≡ [])) → (fresh ≡ false → Fronts bytes ps) → Left fresh ps i
left_at true i ps bytes is new old = read_short i bytes is (new refl).0
left_at false i ps bytes is new old = fronts_more i (2 ^ 30) ps (subst (λ (l : List ℕ). Fronts l ps) is (old refl))

log_at : (fresh : Bool) (i : List ℕ) (ps : List (List ℕ)) (bytes : List ℕ) → bytes ≡ take (2 ^ 30) i → Fits ps → (fresh ≡ true → (length bytes ≤ 9) × (ps ≡ [])) → (fresh ≡ false → Fronts bytes ps) → IsLog i ps
log_at true i ps bytes is fits new old = record { fits = fits; bytes = inl (read_short i bytes is (new refl).0, (new refl).1) }
log_at false i ps bytes is fits new old = record { fits = fits; bytes = inr (fronts_more i (2 ^ 30) ps (subst (λ (l : List ℕ). Fronts l ps) is (old refl))) }

pub opened_log : (i : List ℕ) (gate : Gate) (ps : List (List ℕ)) (bytes : List ℕ) → bytes ≡ take (2 ^ 30) i → Opened bytes gate ps → IsLog i ps
opened_log i gate ps bytes is o = log_at gate.fresh i ps bytes is o.fits o.fresh o.ready

pub read_foreign : (i bytes : List ℕ) → bytes ≡ take (2 ^ 30) i → IsForeign bytes → IsForeign i
read_foreign i bytes is f = (omega (arith, f.0, read_long i bytes is), λ head. f.1 (read_head i bytes is ∙ head))

module _ {D : Type 0} (told_size : D → Option ℕ) (told_image : D → Option (List ℕ)) (may_leave : D → List ℕ → Type 0) where
  -- nothing is pending after calls that write nothing
  pub still_quiet : (old new : D) → NothingPending (told_image old) (may_leave old) → told_image new ≡ told_image old → ((c : List ℕ) → may_leave new c → may_leave old c)
      → NothingPending (told_image new) (may_leave new)
  still_quiet old new quiet same fewer = λ c l. same ∙ quiet c (fewer c l)

  -- a gate that was opened over a file stands for what the file holds
  pub opens : (desk : D) (gate : Gate) (ps : List (List ℕ)) (bytes : List ℕ) → Opened bytes gate ps → NothingPending (told_image desk) (may_leave desk)
      → ((i : List ℕ) → told_image desk ≡ Some i → bytes ≡ take (2 ^ 30) i) → ((n : ℕ) → told_size desk ≡ Some n → length bytes ≤ n)
      → Tracks told_size told_image may_leave desk gate ps []
  opens desk gate ps bytes o quiet read within = record {
    published_end = o.published_end;
    end = o.end ∙ ap size_of (sym (append-nil ps));
    count = o.count ∙ ap length (sym (append-nil ps));
    fits = let F : List (List ℕ) → Type 0 = Fits in subst F (sym (append-nil ps)) o.fits;
    fresh = λ fresh. ((o.fresh fresh).1, refl);
    size = λ ready n is. let f = o.ready ready in omega (arith, within n is, o.end, ap length f.is, length-append (front ps) (f.gate ∷ f.rest), length-front ps);
    seen = λ i is. seen_at gate.fresh i ps bytes (read i is) o.fresh o.ready;
    left = λ c l. left_at gate.fresh c ps bytes (read c (quiet c l)) o.fresh o.ready;
    quiet = λ _. quiet;
  }

-- what each answer says of the image
abbrev pub Verdict : List ℕ → Result (Gate × Payloads) GateFault → Type 0
Verdict i (Ok r) = IsLog i (contents r.1.list)
Verdict i (Err NotStore) = IsForeign i
Verdict i (Err (Damaged k)) = IsDamaged i k
Verdict i (Err (Full l)) = ⊥
Verdict i (Err Disk) = Unit {0}
Verdict i (Err Memory) = Unit {0}

pub verdict_of : (i bytes : List ℕ) (result : Result (Gate × Payloads) GateFault) → bytes ≡ take (2 ^ 30) i → IfOk result (λ r. Opened bytes r.0 (contents r.1.list))
    → (result ≡ Err NotStore → IsForeign bytes) → ((k : ℕ) → result ≡ Err (Damaged k) → IsDamaged bytes k) → ((l : Limit) → result ≡ Err (Full l) → ⊥) → Verdict i result
verdict_of i bytes (Ok r) is opened foreign damaged full = opened_log i r.0 (contents r.1.list) bytes is opened
verdict_of i bytes (Err NotStore) is opened foreign damaged full = read_foreign i bytes is (foreign refl)
verdict_of i bytes (Err (Damaged k)) is opened foreign damaged full = read_damaged i bytes k is (damaged k refl)
verdict_of i bytes (Err (Full l)) is opened foreign damaged full = full l refl
verdict_of i bytes (Err Disk) is opened foreign damaged full = tt {0}
verdict_of i bytes (Err Memory) is opened foreign damaged full = tt {0}

pub told_verdict : (bytes buffer : List ℕ) (result : Result (Gate × Payloads) GateFault) (told : Option (List ℕ)) → bytes ≡ buffer → ForSome told (λ i. buffer ≡ take (2 ^ 30) i)
    → IfOk result (λ r. Opened bytes r.0 (contents r.1.list)) → (result ≡ Err NotStore → IsForeign bytes) → ((k : ℕ) → result ≡ Err (Damaged k) → IsDamaged bytes k)
    → ((l : Limit) → result ≡ Err (Full l) → ⊥) → (i : List ℕ) → told ≡ Some i → Verdict i result
told_verdict bytes buffer result told same read opened foreign damaged full i is = verdict_of i bytes result (same ∙ read i is) opened foreign damaged full

pub on_log : (i : List ℕ) (result : Result (Gate × Payloads) GateFault) (ps : List (List ℕ)) → Verdict i result → IsLog i ps → IsOkAnd result (λ r. contents r.1.list ≡ ps) ⊎ IsStopped result
on_log i (Ok r) ps v l = inl (log_unique i (contents r.1.list) ps v l)
on_log i (Err NotStore) ps v l = absurd (log_not_foreign i ps l v)
on_log i (Err (Damaged k)) ps v l = absurd (log_not_damaged i ps k l v)
on_log i (Err (Full l)) ps v _ = absurd v
on_log i (Err Disk) ps v l = inr (inl refl)
on_log i (Err Memory) ps v l = inr (inr refl)

pub on_foreign : (i : List ℕ) (result : Result (Gate × Payloads) GateFault) → Verdict i result → IsForeign i → (result ≡ Err NotStore) ⊎ IsStopped result
on_foreign i (Ok r) v f = absurd (log_not_foreign i (contents r.1.list) v f)
on_foreign i (Err NotStore) v f = inl refl
on_foreign i (Err (Damaged k)) v f = absurd (damaged_not_foreign i k v f)
on_foreign i (Err (Full l)) v f = absurd v
on_foreign i (Err Disk) v f = inr (inl refl)
on_foreign i (Err Memory) v f = inr (inr refl)

pub on_damaged : (i : List ℕ) (result : Result (Gate × Payloads) GateFault) (k : ℕ) → Verdict i result → IsDamaged i k → (result ≡ Err (Damaged k)) ⊎ IsStopped result
on_damaged i (Ok r) k v d = absurd (log_not_damaged i (contents r.1.list) k v d)
on_damaged i (Err NotStore) k v d = absurd (damaged_not_foreign i k d v)
on_damaged i (Err (Damaged j)) k v d = inl (ap (λ n. Err (Damaged n)) (damage_unique i j k v d))
on_damaged i (Err (Full l)) k v d = absurd v
on_damaged i (Err Disk) k v d = inr (inl refl)
on_damaged i (Err Memory) k v d = inr (inr refl)

pub foreign_only : (i : List ℕ) (result : Result (Gate × Payloads) GateFault) → Verdict i result → result ≡ Err NotStore → IsForeign i
foreign_only i result v is = subst (Verdict i) is v

pub damaged_only : (i : List ℕ) (result : Result (Gate × Payloads) GateFault) (k : ℕ) → Verdict i result → result ≡ Err (Damaged k) → IsDamaged i k
damaged_only i result k v is = subst (Verdict i) is v

pub log_only : (told : Option (List ℕ)) (result : Result (Gate × Payloads) GateFault) → ((i : List ℕ) → told ≡ Some i → Verdict i result) → IfOk result (λ r. ForSome told (λ i. IsLog i (contents r.1.list)))
log_only told (Ok r) v = v
log_only told (Err e) v = tt {0}

pub opens_result : {D : Type 0} (told_size : D → Option ℕ) (told_image : D → Option (List ℕ)) (may_leave : D → List ℕ → Type 0) (desk : D) (bytes : List ℕ) (result : Result (Gate × Payloads) GateFault)
    → IfOk result (λ r. Opened bytes r.0 (contents r.1.list)) → NothingPending (told_image desk) (may_leave desk)
    → ((i : List ℕ) → told_image desk ≡ Some i → bytes ≡ take (2 ^ 30) i) → ((n : ℕ) → told_size desk ≡ Some n → length bytes ≤ n)
    → IfOk result (λ r. Tracks told_size told_image may_leave desk r.0 (contents r.1.list) [])
opens_result told_size told_image may_leave desk bytes (Ok r) o quiet read within = opens told_size told_image may_leave desk r.0 (contents r.1.list) bytes o quiet read within
opens_result told_size told_image may_leave desk bytes (Err e) o quiet read within = tt {0}
