-- What one byte more makes of a piece.
use Rattle.std.proofs.Common.{◌≡◌, ℕ, ◌+◌, ◌^◌, ◌≤◌, Bool, true, false, cond, ◌==◌, List, [], ◌∷◌, ◌++◌, length, refl, sym, ap, subst, ◌∙◌, append_assoc, length-append, arith}
use Rattle.std.proofs.lemmas.List.{append-nil}
use Rattle.r3_script.specs.declared.piece.Piece.{Piece}
use Rattle.r3_script.specs.Lines.{Text, is_line, ended_lines, Passed}
use Rattle.r3_script.specs.Piece.{Cuts, Completes, Partial}
use Rattle.r3_script.proofs.Cutting.{partial_none, partial_more, kept, passed_cut, ended_here}

-- a byte that isn't a newline
pub cuts_more : (p q : Piece) (bytes : Text) (b : ℕ) (handed : List Text) → Cuts p bytes handed → q.bytes.items ≡ p.bytes.items ++ b ∷ [] → q.passed ≡ p.passed + 1 → (b == 10) ≡ false → Cuts q (bytes ++ b ∷ []) handed
cuts_more p q bytes b handed c e n t = record {
  past = c.past;
  split = ap (λ (x : Text). x ++ b ∷ []) c.split ∙ append_assoc c.past p.bytes.items (b ∷ []) ∙ ap (λ (x : Text). c.past ++ x) (sym e);
  count = omega (arith, length-append bytes (b ∷ []), c.count, n);
  passed = c.passed;
  partial = subst Partial (sym e) (partial_more p.bytes.items b t c.partial);
}

-- a newline, whose line is kept or not
cut : (p : Piece) (bytes : Text) (b : ℕ) (handed : List Text) → Cuts p bytes handed → b ≡ 10 → Passed (bytes ++ b ∷ []) (handed ++ kept p.bytes.items)
cut p bytes b handed c e =
    let P : Text → Type 0 = λ x. Passed (x ++ b ∷ []) (handed ++ kept p.bytes.items) in
    let Q : ℕ → Type 0 = λ x. Passed ((c.past ++ p.bytes.items) ++ x ∷ []) (handed ++ kept p.bytes.items) in
    subst P (sym c.split) (subst Q (sym e) (passed_cut c.past p.bytes.items handed c.passed c.partial))

kept_line : (t : Bool) (text : Text) → t ≡ true → cond t (text ∷ []) [] ≡ text ∷ []
kept_line t text e = ap (λ (v : Bool). cond v (text ∷ []) []) e

kept_blank : (t : Bool) (text : Text) → t ≡ false → cond t (text ∷ []) [] ≡ []
kept_blank t text e = ap (λ (v : Bool). cond v (text ∷ []) []) e

-- a newline behind a line
pub completes : (p q : Piece) (bytes : Text) (b : ℕ) (handed : List Text) → Cuts p bytes handed → q.bytes.items ≡ p.bytes.items → q.passed ≡ p.passed + 1 → b ≡ 10 → is_line p.bytes.items ≡ true → Completes q (bytes ++ b ∷ []) handed
completes p q bytes b handed c e n t l = record {
  count = omega (arith, length-append bytes (b ∷ []), c.count, n);
  line = ap is_line e ∙ l;
  passed =
      let P : List Text → Type 0 = λ x. Passed (bytes ++ b ∷ []) (handed ++ x) in
      subst P (kept_line (is_line p.bytes.items) p.bytes.items l ∙ ap (λ (x : Text). x ∷ []) (sym e)) (cut p bytes b handed c t);
}

-- a newline behind a blank piece
pub cuts_blank : (p q : Piece) (bytes : Text) (b : ℕ) (handed : List Text) → Cuts p bytes handed → q.bytes.items ≡ [] → q.passed ≡ p.passed + 1 → b ≡ 10 → is_line p.bytes.items ≡ false → Cuts q (bytes ++ b ∷ []) handed
cuts_blank p q bytes b handed c e n t l = record {
  past = bytes ++ b ∷ [];
  split = sym (append-nil (bytes ++ b ∷ [])) ∙ ap (λ (x : Text). (bytes ++ b ∷ []) ++ x) (sym e);
  count = omega (arith, length-append bytes (b ∷ []), c.count, n);
  passed =
      let P : List Text → Type 0 = λ x. Passed (bytes ++ b ∷ []) x in
      subst P (ap (λ (x : List Text). handed ++ x) (kept_blank (is_line p.bytes.items) p.bytes.items l) ∙ append-nil handed) (cut p bytes b handed c t);
  partial = subst Partial (sym e) partial_none;
}

-- at the limit
pub too_long : (p : Piece) (bytes : Text) (handed : List Text) → Cuts p bytes handed → 2 ^ 26 ≤ p.passed → p.passed ≤ 2 ^ 26 → (length bytes ≡ 2 ^ 26) × (handed ≡ ended_lines bytes)
too_long p bytes handed c le ge =
    (omega (arith, c.count, le, ge), ended_here c.past p.bytes.items handed c.passed c.partial ∙ ap ended_lines (sym c.split))
