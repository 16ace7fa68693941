-- Reading an image piece by piece.
use Rattle.std.proofs.Common.{◌≡◌, ℕ, ◌+◌, ◌≤◌, ◌^◌, min, List, ◌++◌, length, take, drop, sym, ◌∙◌, ap, arith, take-append-drop}
use Rattle.std.proofs.lemmas.List.{take-take, take_all, drop-take, drop_all, append-nil, length-take}

take_on : (i : List ℕ) (at n : ℕ) → take at i ++ take n (drop at i) ≡ take (at + n) i
take_on i at n =
    ap (λ (l : List ℕ). l ++ take n (drop at i)) (sym (take-take at (at + n) i (omega arith)))
    ∙ ap (λ (l : List ℕ). take at (take (at + n) i) ++ l) (sym (drop-take at n i))
    ∙ take-append-drop at (take (at + n) i)

-- one more piece of the image
pub reads_on : (i old new : List ℕ) (at n : ℕ) → take at old ≡ take at i → take at new ≡ take at old → take n (drop at new) ≡ take n (drop at i) → take (at + n) new ≡ take (at + n) i
reads_on i old new at n was kept is =
    sym (take_on new at n) ∙ ap (λ (l : List ℕ). l ++ take n (drop at new)) (kept ∙ was) ∙ ap (λ (l : List ℕ). take at i ++ l) is ∙ take_on i at n

-- all of it, or the first 2^30 bytes
pub reads_all : (i bytes : List ℕ) (at : ℕ) → take at bytes ≡ take at i → at ≡ length bytes → length bytes ≡ min (length i) (2 ^ 30) → bytes ≡ take (2 ^ 30) i
reads_all i bytes at taken end long =
    sym (take_all at bytes (omega (arith, end))) ∙ taken
    ∙ sym (take-take at (2 ^ 30) i (omega (arith, end, long)))
    ∙ take_all at (take (2 ^ 30) i) (omega (arith, end, long, length-take (2 ^ 30) i))

-- a buffer that is written as a whole
pub written_back : (n : ℕ) (old new : List ℕ) → length new ≡ length old → length old ≤ n → take n (new ++ drop (length new) old) ≡ new
written_back n old new same le =
    ap (λ (l : List ℕ). take n (new ++ l)) (drop_all (length new) old (omega (arith, same)))
    ∙ ap (λ (l : List ℕ). take n l) (append-nil new) ∙ take_all n new (omega (arith, same, le))
