-- An image is a log, damaged or foreign, and damaged at one record.
use Rattle.std.proofs.Common.{◌≡◌, ◌⊎◌, inl, inr, ℕ, ◌+◌, ◌≤◌, List, [], ◌∷◌, ◌++◌, length, take, refl, sym, ◌∙◌, ap, subst, arith, append_assoc}
use Rattle.std.proofs.lemmas.List.{append_cancel_left, append-nil, take_at}
use Rattle.r3_gate.specs.Log.{magic, records, front, frame, Fits, Fronts, IsLog, IsForeign, IsDamaged}
use Rattle.r3_gate.specs.Unique.{Short, short_of, frame_cancel}
use Rattle.r3_gate.proofs.Steps.{fits_front}

-- a tail that ends in a commit byte begins with one
tail_head : (ps : List (List ℕ)) (g : ℕ) (rest : List ℕ) → (h : ℕ) × (t : List ℕ) × (records ps ++ g ∷ rest ≡ h ∷ t)
tail_head [] g rest = (g, rest, refl)
tail_head (p ∷ ps) g rest = (165, (frame p ++ records ps) ++ g ∷ rest, refl)

-- where a record isn't whole, other payloads that fit end no later, and behind an open commit byte
walk : (before ds ps : List (List ℕ)) (after : List ℕ) (g : ℕ) (rest : List ℕ) → Short ds → Short ps → Fits (before ++ ps)
    → ((p : List ℕ) (gate : ℕ) (r : List ℕ) → Fits ((before ++ ds) ++ p ∷ []) → after ≡ frame p ++ gate ∷ r → ⊥)
    → records ds ++ 165 ∷ after ≡ records ps ++ g ∷ rest → (g ≡ 165) × (length ps ≤ length ds)
walk before [] [] after g rest s t fits not_whole is = (let e : g ≡ 165 = cc in e, omega arith)
walk before (d ∷ ds) [] after g rest s t fits not_whole is = (let e : g ≡ 165 = cc in e, omega arith)
walk before [] (p ∷ ps) after g rest s t fits not_whole is =
    let tails : after ≡ (frame p ++ records ps) ++ g ∷ rest = cc in
    let h = tail_head ps g rest in
    let one : Fits ((before ++ p ∷ []) ++ ps) = subst Fits (sym (append_assoc before (p ∷ []) ps)) fits in
    absurd (not_whole p h.0 h.1 (subst (λ (l : List (List ℕ)). Fits (l ++ p ∷ [])) (sym (append-nil before)) (fits_front (before ++ p ∷ []) ps one))
    (tails ∙ append_assoc (frame p) (records ps) (g ∷ rest) ∙ ap (λ (l : List ℕ). frame p ++ l) h.2))
walk before (d ∷ ds) (p ∷ ps) after g rest s t fits not_whole is =
    let tails : (frame d ++ records ds) ++ 165 ∷ after ≡ (frame p ++ records ps) ++ g ∷ rest = cc in
    let parts = frame_cancel d p (records ds ++ 165 ∷ after) (records ps ++ g ∷ rest) s.0 t.0 (sym (append_assoc (frame d) (records ds) (165 ∷ after)) ∙ tails ∙ append_assoc (frame p) (records ps) (g ∷ rest)) in
    let more = walk (before ++ d ∷ []) ds ps after g rest s.1 t.1
    (subst Fits (sym (append_assoc before (d ∷ []) ps)) (subst (λ (l : List ℕ). Fits (before ++ l ∷ ps)) (sym parts.0) fits))
    (λ q gate r f w. not_whole q gate r (subst (λ (l : List (List ℕ)). Fits (l ++ q ∷ [])) (append_assoc before (d ∷ []) ds) f) w)
    parts.1 in
    (more.0, omega (arith, more.1))

-- the same of images
walk_image : (image : List ℕ) (k : ℕ) (ps : List (List ℕ)) (g : ℕ) (rest : List ℕ) → (d : IsDamaged image k) → Fits ps → image ≡ front ps ++ g ∷ rest → (g ≡ 165) × (length ps + 1 ≤ k)
walk_image image k ps g rest d fits is =
    let w = walk [] d.payloads ps d.after g rest (short_of d.payloads d.fits.each) (short_of ps fits.each) fits d.not_whole
    (append_cancel_left magic (records d.payloads ++ 165 ∷ d.after) (records ps ++ g ∷ rest)
    (sym (append_assoc magic (records d.payloads) (165 ∷ d.after)) ∙ sym d.is ∙ is ∙ append_assoc magic (records ps) (g ∷ rest))) in
    (w.0, omega (arith, w.1, d.number))

pub log_not_damaged : (image : List ℕ) (ps : List (List ℕ)) (k : ℕ) → IsLog image ps → IsDamaged image k → ⊥
log_not_damaged image ps k l d = cases l.bytes
  where
    cases : ((length image ≤ 9) × (ps ≡ [])) ⊎ Fronts image ps → ⊥
    cases (inl a) = omega (arith, a.0, d.long)
    cases (inr f) = f.shut (walk_image image k ps f.gate f.rest d l.fits f.is).0

pub damage_unique : (image : List ℕ) (j k : ℕ) → IsDamaged image j → IsDamaged image k → j ≡ k
damage_unique image j k d e =
    omega (arith, (walk_image image j e.payloads 165 e.after d e.fits e.is).1, (walk_image image k d.payloads 165 d.after e d.fits d.is).1, d.number, e.number)

begins : (image : List ℕ) (ps : List (List ℕ)) (rest : List ℕ) → image ≡ front ps ++ rest → take 8 image ≡ magic
begins image ps rest is = ap (λ (l : List ℕ). take 8 l) (is ∙ append_assoc magic (records ps) rest) ∙ take_at magic (records ps ++ rest) 8 refl

pub log_not_foreign : (image : List ℕ) (ps : List (List ℕ)) → IsLog image ps → IsForeign image → ⊥
log_not_foreign image ps l f = cases l.bytes
  where
    cases : ((length image ≤ 9) × (ps ≡ [])) ⊎ Fronts image ps → ⊥
    cases (inl a) = omega (arith, a.0, f.0)
    cases (inr b) = f.1 (begins image ps (b.gate ∷ b.rest) b.is)

pub damaged_not_foreign : (image : List ℕ) (k : ℕ) → IsDamaged image k → IsForeign image → ⊥
damaged_not_foreign image k d f = f.1 (begins image d.payloads (165 ∷ d.after) d.is)
