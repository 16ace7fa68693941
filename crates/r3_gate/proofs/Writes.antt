-- What writes on a log leave.
use Rattle.std.proofs.Common.{◌≡◌, ◌⊎◌, inl, inr, ℕ, ◌+◌, ◌≤◌, List, [], ◌∷◌, ◌++◌, length, take, drop, get_or, sym, ◌∙◌, ap, arith, append_assoc, length-append, take-append-drop}
use Rattle.std.proofs.lemmas.Bool.{cases_eq}
use Rattle.std.proofs.lemmas.List.{take_at, drop_at, drop_more, take-take}
use Rattle.r3_desk.specs.Disk.{Torn, overwritten}
use Rattle.r3_gate.specs.Log.{frame, records, front, size_of, behind, Fronts, Staged}
use Rattle.r3_gate.proofs.Bytes.{length-front, length-stem, staged_stem, behind_push, opened}

-- a write behind the gate leaves the front
pub front_stays : (c d : List ℕ) (ps : List (List ℕ)) (at n : ℕ) → Fronts c ps → size_of ps ≤ at → Torn at n c d → Fronts d ps
front_stays c d ps at n f le torn =
    let k = size_of ps in
    let head = front ps ++ f.gate ∷ [] in
    let long : length head ≡ k = omega (arith, length-front ps, length-append (front ps) (f.gate ∷ [])) in
    let c_is : c ≡ head ++ f.rest = f.is ∙ sym (append_assoc (front ps) (f.gate ∷ []) f.rest) in
    let c_head : take k c ≡ head = ap (λ (l : List ℕ). take k l) c_is ∙ take_at head f.rest k long in
    let d_head : take k d ≡ head = sym (take-take k at d le) ∙ ap (λ (l : List ℕ). take k l) torn.before ∙ take-take k at c le ∙ c_head in
    record {
      gate = f.gate;
      rest = drop k d;
      shut = f.shut;
      is = sym (take-append-drop k d) ∙ ap (λ (l : List ℕ). l ++ drop k d) d_head ∙ append_assoc (front ps) (f.gate ∷ []) (drop k d);
    }

-- a header that is torn
pub header_torn : (c d : List ℕ) → length c ≤ 9 → Torn 0 9 c d → length d ≤ 9
header_torn c d le torn = omega (arith, le, torn.no_longer)

-- bytes written over the part from n on of two parts, of which the first has n
written_at : (head tail bytes : List ℕ) (at : ℕ) → length head ≡ at → overwritten (head ++ tail) at bytes ≡ head ++ (bytes ++ drop (at + length bytes) (head ++ tail))
written_at head tail bytes at long =
    ap (λ (l : List ℕ). l ++ bytes ++ drop (at + length bytes) (head ++ tail)) (take_at head tail at long)
    ∙ append_assoc head bytes (drop (at + length bytes) (head ++ tail))

-- the first staged record
pub stages_first : (i : List ℕ) (ps : List (List ℕ)) (p : List ℕ) → Staged i ps [] → Staged (overwritten i (size_of ps) (frame p ++ 0 ∷ [])) ps (p ∷ [])
stages_first i ps p s =
    let k = size_of ps in
    let head = front ps ++ s.gate ∷ [] in
    let block = frame p ++ 0 ∷ [] in
    let long : length head ≡ k = omega (arith, length-front ps, length-append (front ps) (s.gate ∷ [])) in
    let i_is : i ≡ head ++ s.rest = s.is ∙ sym (append_assoc (front ps) (s.gate ∷ []) s.rest) in
    let rest = drop (k + length block) (head ++ s.rest) in
    record {
      gate = s.gate;
      rest = rest;
      shut = s.shut;
      is = ap (λ (l : List ℕ). overwritten l k block) i_is ∙ written_at head s.rest block k long
          ∙ append_assoc (front ps) (s.gate ∷ []) (block ++ rest)
          ∙ ap (λ (l : List ℕ). front ps ++ s.gate ∷ l) (append_assoc (frame p) (0 ∷ []) rest);
    }

-- one more
pub stages_next : (i : List ℕ) (ps : List (List ℕ)) (q : List ℕ) (qs : List (List ℕ)) (p : List ℕ) (at : ℕ) → at + 1 ≡ size_of (ps ++ q ∷ qs)
    → Staged i ps (q ∷ qs) → Staged (overwritten i at (165 ∷ frame p ++ 0 ∷ [])) ps (q ∷ qs ++ p ∷ [])
stages_next i ps q qs p at is_at s =
    let head = front ps ++ s.gate ∷ (frame q ++ records qs) in
    let block = 165 ∷ frame p ++ 0 ∷ [] in
    let long : length head ≡ at = omega (arith, length-stem ps s.gate q qs, is_at) in
    let i_is : i ≡ head ++ 0 ∷ s.rest = s.is ∙ staged_stem ps s.gate q qs s.rest in
    let rest = drop (at + length block) (head ++ 0 ∷ s.rest) in
    record {
      gate = s.gate;
      rest = rest;
      shut = s.shut;
      is = ap (λ (l : List ℕ). overwritten l at block) i_is ∙ written_at head (0 ∷ s.rest) block at long
          ∙ ap (λ (l : List ℕ). head ++ 165 ∷ l) (append_assoc (frame p) (0 ∷ []) rest)
          ∙ behind_push ps s.gate q qs p rest;
    }

-- where the gate is written, whether it is torn or not
pub gate_parts : (i c : List ℕ) (ps : List (List ℕ)) (q : List ℕ) (qs : List (List ℕ)) (at : ℕ) → at + 1 ≡ size_of ps → (s : Staged i ps (q ∷ qs)) → Torn at 1 i c
    → c ≡ front ps ++ get_or c at 0 ∷ behind (q ∷ qs) s.rest
gate_parts i c ps q qs at is_at s torn =
    let long : length (front ps) ≡ at = omega (arith, length-front ps, is_at) in
    let tail = behind (q ∷ qs) s.rest in
    let i_front : take at i ≡ front ps = ap (λ (l : List ℕ). take at l) s.is ∙ take_at (front ps) (s.gate ∷ tail) at long in
    let head = front ps ++ s.gate ∷ [] in
    let i_is : i ≡ head ++ tail = s.is ∙ sym (append_assoc (front ps) (s.gate ∷ []) tail) in
    let i_back : drop (at + 1) i ≡ tail = ap (λ (l : List ℕ). drop (at + 1) l) i_is ∙ drop_at head tail (at + 1) (omega (arith, long, length-append (front ps) (s.gate ∷ []))) in
    let enough : at + 1 ≤ length c = omega (arith, torn.no_shorter, ap length s.is, length-append (front ps) (s.gate ∷ tail), long) in
    sym (take-append-drop at c)
    ∙ ap (λ (l : List ℕ). l ++ drop at c) (torn.before ∙ i_front)
    ∙ ap (λ (l : List ℕ). front ps ++ l) (drop_more c at 0 (omega (arith, enough)) ∙ ap (λ (l : List ℕ). get_or c at 0 ∷ l) (torn.after ∙ i_back))

-- a crash while the gate is opened: without the staged ones, or with all of them
pub gate_torn : (i c : List ℕ) (ps : List (List ℕ)) (q : List ℕ) (qs : List (List ℕ)) (at : ℕ) → at + 1 ≡ size_of ps → Staged i ps (q ∷ qs) → Torn at 1 i c
    → Fronts c ps ⊎ Fronts c (ps ++ q ∷ qs)
gate_torn i c ps q qs at is_at s torn =
    let whole = gate_parts i c ps q qs at is_at s torn in
    elim (cases_eq (get_or c at 0) 165) [
      | inl is_open ↦ inr (record {
        gate = 0;
        rest = s.rest;
        shut = omega arith;
        is = whole ∙ ap (λ (b : ℕ). front ps ++ b ∷ behind (q ∷ qs) s.rest) is_open ∙ opened ps q qs s.rest;
      })
      | inr shut ↦ inl (record { gate = get_or c at 0; rest = behind (q ∷ qs) s.rest; shut = shut; is = whole })
    ]

pub gate_written : (i : List ℕ) (ps : List (List ℕ)) (q : List ℕ) (qs : List (List ℕ)) (at : ℕ) → at + 1 ≡ size_of ps → Staged i ps (q ∷ qs)
    → Staged (overwritten i at (165 ∷ [])) (ps ++ q ∷ qs) []
gate_written i ps q qs at is_at s =
    let long : length (front ps) ≡ at = omega (arith, length-front ps, is_at) in
    let tail = behind (q ∷ qs) s.rest in
    let head = front ps ++ s.gate ∷ [] in
    let i_is : i ≡ head ++ tail = s.is ∙ sym (append_assoc (front ps) (s.gate ∷ []) tail) in
    let i_front : take at i ≡ front ps = ap (λ (l : List ℕ). take at l) s.is ∙ take_at (front ps) (s.gate ∷ tail) at long in
    let i_back : drop (at + 1) i ≡ tail = ap (λ (l : List ℕ). drop (at + 1) l) i_is ∙ drop_at head tail (at + 1) (omega (arith, long, length-append (front ps) (s.gate ∷ []))) in
    record {
      gate = 0;
      rest = s.rest;
      shut = omega arith;
      is = ap (λ (l : List ℕ). l ++ (165 ∷ []) ++ drop (at + 1) i) i_front
          ∙ ap (λ (l : List ℕ). front ps ++ (165 ∷ []) ++ l) i_back
          ∙ append_assoc (front ps) (165 ∷ []) tail
          ∙ opened ps q qs s.rest;
    }
