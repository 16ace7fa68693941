-- The steps of reading a log.
use Rattle.std.proofs.Common.{◌≡◌, ◌≢◌, ℕ, ◌+◌, ◌-◌, ◌<◌, ◌≤◌, ◌^◌, List, [], ◌∷◌, ◌++◌, length, take, drop, get_or, refl, sym, ◌∙◌, ap, subst, arith, append_assoc, length-append, take-append-drop}
use Rattle.std.proofs.lemmas.List.{take_at, length-take-le, length-drop, drop_more, append-nil, get_or_push}
use Rattle.std.proofs.lemmas.List.Elements.{All-push}
use Rattle.r3_gate.specs.Log.{front, size_of, frame, IsPayload, Fits, Fronts, IsDamaged}
use Rattle.r3_gate.proofs.Bytes.{length-frame, length-front, front-append, size_of-append}

-- the gate behind the payloads read so far, and what stands behind it
pub parts_at : (bytes : List ℕ) (ps : List (List ℕ)) (gate : ℕ) → take gate bytes ≡ front ps → gate < length bytes → bytes ≡ front ps ++ get_or bytes gate 0 ∷ drop (gate + 1) bytes
parts_at bytes ps gate split some =
    sym (take-append-drop gate bytes) ∙ ap (λ (l : List ℕ). l ++ drop gate bytes) split ∙ ap (λ (l : List ℕ). front ps ++ l) (drop_more bytes gate 0 some)

pub gate_is : (bytes : List ℕ) (ps : List (List ℕ)) (gate : ℕ) → take gate bytes ≡ front ps → gate < length bytes → gate + 1 ≡ size_of ps
gate_is bytes ps gate split some = omega (arith, length-front ps, ap length split, length-take-le gate bytes (omega (arith, some)))

pub ends_closed : (bytes : List ℕ) (ps : List (List ℕ)) (gate : ℕ) → take gate bytes ≡ front ps → gate < length bytes → get_or bytes gate 0 ≢ 165 → Fronts bytes ps
ends_closed bytes ps gate split some shut = record { gate = get_or bytes gate 0; rest = drop (gate + 1) bytes; shut = shut; is = parts_at bytes ps gate split some }

pub damaged_at : (bytes : List ℕ) (ps : List (List ℕ)) (gate k : ℕ) → Fits ps → 9 < length bytes → take gate bytes ≡ front ps → gate < length bytes → get_or bytes gate 0 ≡ 165 → k ≡ length ps + 1
    → ((p : List ℕ) (g : ℕ) (rest : List ℕ) → Fits (ps ++ p ∷ []) → drop (gate + 1) bytes ≡ frame p ++ g ∷ rest → ⊥) → IsDamaged bytes k
damaged_at bytes ps gate k fits long split some is_open number not_whole = record {
  payloads = ps;
  after = drop (gate + 1) bytes;
  fits = fits;
  long = long;
  number = number;
  is = parts_at bytes ps gate split some ∙ ap (λ (b : ℕ). front ps ++ b ∷ drop (gate + 1) bytes) is_open;
  not_whole = not_whole;
}

-- the last payload of those that fit
pub last_fits : (ps : List (List ℕ)) (p : List ℕ) → Fits (ps ++ p ∷ []) → IsPayload p
last_fits ps p fits = subst IsPayload (get_or_push ps p [] (length ps) refl) (fits.each (length ps) [] (omega (arith, length-append ps (p ∷ []))))

pub record Step (bytes : List ℕ) (ps : List (List ℕ)) (gate : ℕ) : Type 0 where
  pub split : take gate bytes ≡ front ps
  pub fits : Fits ps
  pub some : gate < length bytes

pub reads_one : (bytes : List ℕ) (ps : List (List ℕ)) (gate n : ℕ) → take gate bytes ≡ front ps → Fits ps → gate < length bytes → get_or bytes gate 0 ≡ 165
    → length bytes ≤ 2 ^ 30 → length ps < 1000000 → 1 ≤ n → n ≤ 2 ^ 23 → 5 + n ≤ length (drop (gate + 1) bytes)
    → drop (gate + 1) bytes ≡ frame (take n (drop 4 (drop (gate + 1) bytes))) ++ drop (4 + n) (drop (gate + 1) bytes)
    → Step bytes (ps ++ take n (drop 4 (drop (gate + 1) bytes)) ∷ []) (gate + (5 + n))
reads_one bytes ps gate n split fits some is_open small few low high enough whole =
    let after = drop (gate + 1) bytes in
    let p = take n (drop 4 after) in
    let long : length after ≡ length bytes - (gate + 1) = length-drop (gate + 1) bytes in
    let len : length p ≡ n = length-take-le n (drop 4 after) (omega (arith, length-drop 4 after, enough)) in
    let g = gate_is bytes ps gate split some in
    let payload : IsPayload p = (omega (arith, len, low), omega (arith, len, high)) in
    let head = front ps ++ 165 ∷ frame p in
    let front_is : front (ps ++ p ∷ []) ≡ head = front-append ps (p ∷ []) ∙ ap (λ (l : List ℕ). front ps ++ 165 ∷ l) (append-nil (frame p)) in
    let bytes_are : bytes ≡ head ++ drop (4 + n) after =
    parts_at bytes ps gate split some
    ∙ ap (λ (b : ℕ). front ps ++ b ∷ after) is_open
    ∙ ap (λ (l : List ℕ). front ps ++ 165 ∷ l) whole
    ∙ sym (append_assoc (front ps) (165 ∷ frame p) (drop (4 + n) after)) in
    let head_len : length head ≡ gate + (5 + n) = omega (arith, length-append (front ps) (165 ∷ frame p), length-front ps, length-frame p, len, g) in
    record {
      split = ap (λ (l : List ℕ). take (gate + (5 + n)) l) bytes_are ∙ take_at head (drop (4 + n) after) (gate + (5 + n)) head_len ∙ sym front_is;
      fits = record {
        each = All-push IsPayload ps p fits.each payload;
        entries = omega (arith, few, length-append ps (p ∷ []));
        bytes = omega (arith, size_of-append ps (p ∷ []), g, len, enough, long, small);
      };
      some = omega (arith, enough, long);
    }
