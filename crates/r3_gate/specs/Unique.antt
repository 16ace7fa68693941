-- An image is the log of at most one list of payloads.
use Rattle.std.specs.Prelude.{◌≡◌, ◌≢◌, ◌⊎◌, ℕ, ◌<◌, ◌≤◌, ◌^◌, List, [], ◌∷◌, ◌++◌, length, take, drop, All}
use Rattle.std.proofs.Common.{inl, inr, refl, sym, ◌∙◌, ap, arith, append_assoc, length-append, zero, suc}
use Rattle.std.proofs.lemmas.List.{take_at, drop_at, append_cancel_left}
use Rattle.std.proofs.lemmas.Nat.{from_be_bytes-to_be_bytes_4}
use Rattle.std.specs.Int.{to_be_bytes, from_be_bytes, w32}
use Rattle.r3_gate.specs.Log.{magic, records, front, frame, IsPayload, Fits, Fronts, IsLog}

-- two payloads with what stands behind them
pub frame_cancel : (p q x y : List ℕ) → length p < 2 ^ 32 → length q < 2 ^ 32 → frame p ++ x ≡ frame q ++ y → (p ≡ q) × (x ≡ y)
unfolding frame
frame_cancel p q x y small small' is =
    let a = to_be_bytes w32 (length p) in
    let b = to_be_bytes w32 (length q) in
    let whole : a ++ (p ++ x) ≡ b ++ (q ++ y) = sym (append_assoc a p x) ∙ is ∙ append_assoc b q y in
    let heads : a ≡ b = sym (take_at a (p ++ x) 4 refl) ∙ ap (λ (l : List ℕ). take 4 l) whole ∙ take_at b (q ++ y) 4 refl in
    let len : length p ≡ length q = sym (from_be_bytes-to_be_bytes_4 (length p) small) ∙ ap (λ (l : List ℕ). from_be_bytes w32 l) heads ∙ from_be_bytes-to_be_bytes_4 (length q) small' in
    let tails : p ++ x ≡ q ++ y = sym (drop_at a (p ++ x) 4 refl) ∙ ap (λ (l : List ℕ). drop 4 l) whole ∙ drop_at b (q ++ y) 4 refl in (
      sym (take_at p x (length p) refl) ∙ ap (λ (l : List ℕ). take (length p) l) tails ∙ take_at q y (length p) (sym len),
      sym (drop_at p x (length p) refl) ∙ ap (λ (l : List ℕ). drop (length p) l) tails ∙ drop_at q y (length p) (sym len),
    )

-- each payload is shorter than its four bytes can say
abbrev pub Short : List (List ℕ) → Type 0
Short [] = Unit {0}
Short (p ∷ ps) = (length p < 2 ^ 32) × Short ps

pub short_of : (ps : List (List ℕ)) → All IsPayload ps → Short ps
short_of [] all = tt
short_of (p ∷ ps) all = (omega (arith, (all zero [] (omega arith)).1), short_of ps (λ k d lt. all (suc k) d (omega (arith, lt))))

pub records_unique : (ps qs : List (List ℕ)) (g h : ℕ) (x y : List ℕ) → Short ps → Short qs → g ≢ 165 → h ≢ 165 → records ps ++ g ∷ x ≡ records qs ++ h ∷ y → ps ≡ qs
records_unique [] [] g h x y s t shut shut' is = refl
records_unique [] (q ∷ qs) g h x y s t shut shut' is = absurd (shut (let e : g ≡ 165 = cc in e))
records_unique (p ∷ ps) [] g h x y s t shut shut' is = absurd (shut' (let e : h ≡ 165 = cc in e))
records_unique (p ∷ ps) (q ∷ qs) g h x y s t shut shut' is =
    let tails : (frame p ++ records ps) ++ g ∷ x ≡ (frame q ++ records qs) ++ h ∷ y = cc in
    let parts = frame_cancel p q (records ps ++ g ∷ x) (records qs ++ h ∷ y) s.0 t.0 (sym (append_assoc (frame p) (records ps) (g ∷ x)) ∙ tails ∙ append_assoc (frame q) (records qs) (h ∷ y)) in
    let rest : ps ≡ qs = records_unique ps qs g h x y s.1 t.1 shut shut' parts.1 in
    ap (λ (l : List ℕ). l ∷ ps) parts.0 ∙ ap (λ (l : List (List ℕ)). q ∷ l) rest

pub fronts_unique : (image : List ℕ) (ps qs : List (List ℕ)) → Fits ps → Fits qs → Fronts image ps → Fronts image qs → ps ≡ qs
fronts_unique image ps qs fits fits' f f' =
    records_unique ps qs f.gate f'.gate f.rest f'.rest (short_of ps fits.each) (short_of qs fits'.each) f.shut f'.shut
    (append_cancel_left magic (records ps ++ f.gate ∷ f.rest) (records qs ++ f'.gate ∷ f'.rest)
    (sym (append_assoc magic (records ps) (f.gate ∷ f.rest)) ∙ sym f.is ∙ f'.is ∙ append_assoc magic (records qs) (f'.gate ∷ f'.rest)))

be_four : (n : ℕ) → length (to_be_bytes w32 n) ≡ 4
be_four n = refl

frame_long : (p : List ℕ) → 4 ≤ length (frame p)
unfolding frame
frame_long p = omega (arith, length-append (to_be_bytes w32 (length p)) p, be_four (length p))

-- a file of at most 9 bytes has no record
short_fronts : (image : List ℕ) (ps : List (List ℕ)) → length image ≤ 9 → Fronts image ps → ps ≡ []
short_fronts image [] le f = refl
short_fronts image (p ∷ ps) le f =
    absurd (omega (arith, le, ap length f.is, length-append (front (p ∷ ps)) (f.gate ∷ f.rest), length-append (frame p) (records ps), frame_long p))

-- the list of payloads that an accepted image stands for is determined
pub log_unique : (image : List ℕ) (ps qs : List (List ℕ)) → IsLog image ps → IsLog image qs → ps ≡ qs
log_unique image ps qs l m = cases l.bytes m.bytes
  where
    cases : ((length image ≤ 9) × (ps ≡ [])) ⊎ Fronts image ps → ((length image ≤ 9) × (qs ≡ [])) ⊎ Fronts image qs → ps ≡ qs
    cases (inl a) (inl b) = a.1 ∙ sym b.1
    cases (inl a) (inr f) = a.1 ∙ sym (short_fronts image qs a.0 f)
    cases (inr f) (inl b) = short_fronts image ps b.0 f ∙ sym b.1
    cases (inr f) (inr f') = fronts_unique image ps qs l.fits m.fits f f'
