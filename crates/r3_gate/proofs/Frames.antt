-- Reading a record's length and payload.
use Rattle.std.proofs.Common.{◌≡◌, ℕ, ◌+◌, ◌<◌, ◌≤◌, List, [], ◌∷◌, ◌++◌, length, take, drop, get_or, zero, suc, refl, sym, ◌∙◌, ap, arith, append_assoc, length-append, take-append-drop}
use Rattle.std.proofs.lemmas.List.{take_at, length-take-le, length-drop, drop-drop}
use Rattle.std.proofs.lemmas.Nat.{be_bytes_4, from_be_bytes-to_be_bytes_4}
use Rattle.std.specs.Int.{to_be_bytes, from_be_bytes, w32}
use Rattle.r3_gate.specs.Log.{frame, IsPayload}
use Rattle.r3_gate.proofs.Bytes.{length-frame}

abbrev pub quad : List ℕ → List ℕ
quad s = get_or s 0 0 ∷ get_or s 1 0 ∷ get_or s 2 0 ∷ get_or s 3 0 ∷ []

first_four : (s : List ℕ) → 4 ≤ length s → take 4 s ≡ quad s
first_four [] le = absurd (omega arith)
first_four (a ∷ []) le = absurd (omega arith)
first_four (a ∷ b ∷ []) le = absurd (omega arith)
first_four (a ∷ b ∷ c ∷ []) le = absurd (omega arith)
first_four (a ∷ b ∷ c ∷ d ∷ s) le = refl

quad_byte : (s : List ℕ) → ((i : ℕ) → get_or s i 0 < 256) → (i : ℕ) → get_or (quad s) i 0 < 256
quad_byte s small zero = small 0
quad_byte s small (suc zero) = small 1
quad_byte s small (suc (suc zero)) = small 2
quad_byte s small (suc (suc (suc zero))) = small 3
quad_byte s small (suc (suc (suc (suc i)))) = omega arith

-- bytes behind a gate, of which enough are there, begin with a record
pub frame_at : (s : List ℕ) (n : ℕ) → ((i : ℕ) → get_or s i 0 < 256) → n ≡ from_be_bytes w32 (quad s) → 5 + n ≤ length s
    → s ≡ frame (take n (drop 4 s)) ++ drop (4 + n) s
unfolding frame
frame_at s n small is le =
    let p = take n (drop 4 s) in
    let len : length p ≡ n = length-take-le n (drop 4 s) (omega (arith, length-drop 4 s)) in
    let four : take 4 s ≡ quad s = first_four s (omega arith) in
    let head : to_be_bytes w32 n ≡ quad s = be_bytes_4 (quad s) n refl (quad_byte s small) is in
    sym (
    ap (λ (k : ℕ). (to_be_bytes w32 k ++ p) ++ drop (4 + n) s) len
    ∙ ap (λ (l : List ℕ). (l ++ p) ++ drop (4 + n) s) (head ∙ sym four)
    ∙ append_assoc (take 4 s) p (drop (4 + n) s)
    ∙ ap (λ (l : List ℕ). take 4 s ++ (p ++ l)) (sym (drop-drop n 4 s))
    ∙ ap (λ (l : List ℕ). take 4 s ++ l) (take-append-drop n (drop 4 s))
    ∙ take-append-drop 4 s)

-- and a record tells its length
pub frame_tells : (s p : List ℕ) (gate : ℕ) (rest : List ℕ) → IsPayload p → s ≡ frame p ++ gate ∷ rest → (from_be_bytes w32 (quad s) ≡ length p) × (5 + length p ≤ length s)
unfolding frame
frame_tells s p gate rest payload is =
    let long : length s ≡ 5 + length p + length rest = omega (arith, ap length is, length-append (frame p) (gate ∷ rest), length-frame p) in
    let split : s ≡ to_be_bytes w32 (length p) ++ (p ++ gate ∷ rest) = is ∙ append_assoc (to_be_bytes w32 (length p)) p (gate ∷ rest) in
    let head : take 4 s ≡ to_be_bytes w32 (length p) = ap (λ (l : List ℕ). take 4 l) split ∙ take_at (to_be_bytes w32 (length p)) (p ++ gate ∷ rest) 4 refl in
    (ap (λ (l : List ℕ). from_be_bytes w32 l) (sym (first_four s (omega (arith, long))) ∙ head) ∙ from_be_bytes-to_be_bytes_4 (length p) (omega (arith, payload.1)), omega (arith, long))
