-- Lists of records.
use Rattle.std.proofs.Common.{◌≡◌, ℕ, ◌+◌, ◌≤◌, List, [], ◌∷◌, ◌++◌, length, refl, sym, ◌∙◌, ap, arith, append_assoc, length-append}
use Rattle.std.proofs.lemmas.List.{append-nil}
use Rattle.std.specs.Int.{to_be_bytes, w32}
use Rattle.r3_gate.specs.Log.{magic, frame, records, front, size_of, behind}

length-be : (n : ℕ) → length (to_be_bytes w32 n) ≡ 4
length-be n = refl

pub length-frame : (p : List ℕ) → length (frame p) ≡ 4 + length p
unfolding frame
length-frame p = omega (arith, length-append (to_be_bytes w32 (length p)) p, length-be (length p))

pub records-append : (ps qs : List (List ℕ)) → records (ps ++ qs) ≡ records ps ++ records qs
records-append [] qs = refl
records-append (p ∷ ps) qs = ap (λ (l : List ℕ). 165 ∷ frame p ++ l) (records-append ps qs) ∙ ap (λ (l : List ℕ). 165 ∷ l) (sym (append_assoc (frame p) (records ps) (records qs)))

pub size_of-append : (ps qs : List (List ℕ)) → size_of (ps ++ qs) + 9 ≡ size_of ps + size_of qs
size_of-append [] qs = omega arith
size_of-append (p ∷ ps) qs = omega (arith, size_of-append ps qs)

pub length-records : (ps : List (List ℕ)) → length (records ps) + 9 ≡ size_of ps
length-records [] = refl
length-records (p ∷ ps) = omega (arith, length-records ps, length-append (frame p) (records ps), length-frame p)

pub length-front : (ps : List (List ℕ)) → length (front ps) + 1 ≡ size_of ps
length-front ps = omega (arith, length-records ps, length-append magic (records ps))

pub size_above : (ps : List (List ℕ)) → 9 ≤ size_of ps
size_above [] = omega arith
size_above (p ∷ ps) = omega (arith, size_above ps)

pub front-append : (ps qs : List (List ℕ)) → front (ps ++ qs) ≡ front ps ++ records qs
front-append ps qs = ap (λ (l : List ℕ). magic ++ l) (records-append ps qs) ∙ sym (append_assoc magic (records ps) (records qs))

-- opening the first gate turns what is staged into records
pub opened : (ps : List (List ℕ)) (q : List ℕ) (qs : List (List ℕ)) (rest : List ℕ) → front ps ++ 165 ∷ behind (q ∷ qs) rest ≡ front (ps ++ q ∷ qs) ++ 0 ∷ rest
opened ps q qs rest =
    sym (ap (λ (l : List ℕ). l ++ 0 ∷ rest) (front-append ps (q ∷ qs))
    ∙ append_assoc (front ps) (165 ∷ frame q ++ records qs) (0 ∷ rest)
    ∙ ap (λ (l : List ℕ). front ps ++ 165 ∷ l) (append_assoc (frame q) (records qs) (0 ∷ rest)))

-- all before the last closed gate, where some are staged
abbrev pub stem : List (List ℕ) → ℕ → List ℕ → List (List ℕ) → List ℕ
stem ps gate q qs = front ps ++ gate ∷ (frame q ++ records qs)

pub staged_stem : (ps : List (List ℕ)) (gate : ℕ) (q : List ℕ) (qs : List (List ℕ)) (rest : List ℕ) → front ps ++ gate ∷ behind (q ∷ qs) rest ≡ stem ps gate q qs ++ 0 ∷ rest
staged_stem ps gate q qs rest =
    sym (append_assoc (front ps) (gate ∷ frame q ++ records qs) (0 ∷ rest) ∙ ap (λ (l : List ℕ). front ps ++ gate ∷ l) (append_assoc (frame q) (records qs) (0 ∷ rest)))

pub length-stem : (ps : List (List ℕ)) (gate : ℕ) (q : List ℕ) (qs : List (List ℕ)) → length (stem ps gate q qs) + 1 ≡ size_of (ps ++ q ∷ qs)
length-stem ps gate q qs =
    omega (arith, length-front ps, length-append (front ps) (gate ∷ frame q ++ records qs), length-append (frame q) (records qs), length-frame q, length-records qs, size_of-append ps (q ∷ qs))

-- one more staged record
pub behind_push : (ps : List (List ℕ)) (gate : ℕ) (q : List ℕ) (qs : List (List ℕ)) (p rest : List ℕ)
    → stem ps gate q qs ++ (165 ∷ frame p ++ 0 ∷ rest) ≡ front ps ++ gate ∷ behind (q ∷ qs ++ p ∷ []) rest
behind_push ps gate q qs p rest =
    append_assoc (front ps) (gate ∷ frame q ++ records qs) (165 ∷ frame p ++ 0 ∷ rest)
    ∙ ap (λ (l : List ℕ). front ps ++ gate ∷ l) (append_assoc (frame q) (records qs) (165 ∷ frame p ++ 0 ∷ rest)
    ∙ ap (λ (l : List ℕ). frame q ++ l) (sym (
    ap (λ (l : List ℕ). l ++ 0 ∷ rest) (records-append qs (p ∷ []))
    ∙ append_assoc (records qs) (165 ∷ frame p ++ []) (0 ∷ rest)
    ∙ ap (λ (l : List ℕ). records qs ++ (165 ∷ l ++ 0 ∷ rest)) (append-nil (frame p)))))
