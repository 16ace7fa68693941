use Rattle.std.proofs.Common.{◌≡◌, ◌⊎◌, ⊎_elim, inr, ◌≤◌, ◌<◌, ℕ, List, [], ◌∷◌, true, length, map, string_bytes, slice_index_or, sym, ap, ◌∙◌, arith}
use Rattle.std.specs.Prelude.{String}
use Rattle.std.specs.declared.alloc.Global.{Global}
use Rattle.std.proofs.lemmas.Slice.Eq.{bytes_eq-Decides}
use Rattle.r3_formed.specs.Answers.{program_texts, text_of}
use Rattle.r3_recover.proofs.opening.has_program.Goals as goal

-- the only text of a list of one
only-text : (xs : List (ℕ × String Global)) (d e : ℕ × String Global) (ts : List (ℕ × List ℕ)) → 1 ≤ length xs → length xs < 2 → (slice_index_or xs 0 d).0 ≡ 1
    → map text_of xs ≡ ts → ts ≡ (1, string_bytes (slice_index_or xs 0 e).1) ∷ []
only-text [] d e ts some few one is = absurd (omega (arith, some))
only-text (x ∷ []) d e ts some few one is = sym is ∙ ap (λ (n : ℕ). (n, string_bytes x.1) ∷ []) one
only-text (x ∷ y ∷ zs) d e ts some few one is = absurd (omega (arith, few))

head-text : List (ℕ × List ℕ) → List ℕ
head-text [] = []
head-text (x ∷ xs) = x.1

same-head : (a b : List ℕ) → ◌≡◌ {A = List (ℕ × List ℕ)} ((1, a) ∷ []) ((1, b) ∷ []) → a ≡ b
unfolding head-text
same-head a b is = ap head-text is

pub returns-then-number-eq1 : goal.returns-then-number-eq1
returns-then-number-eq1 c = λ h stands some.
    let first = c.as_str.result.now in
    let text = c.args.text.now in
    let ts : program_texts h ≡ (1, first) ∷ [] =
    only-text c.programs.result.now c.index-number-0.result c.index-first-0.result (program_texts h) c.in-len1.len_at_least c.in-len1.len_below c.if-number-eq1.true (c.programs.ensures h stands)
    ∙ ap (λ (t : List ℕ). (1, t) ∷ []) (sym c.as_str.ensures.value) in (
      λ yes. inr (ts ∙ ap (λ (t : List ℕ). (1, t) ∷ []) ((bytes_eq-Decides first text).0 (sym c.eq.ensures ∙ yes))),
      λ has. ⊎_elim (λ none. absurd (some none)) (λ is. c.eq.ensures ∙ (bytes_eq-Decides first text).1 (same-head first text (sym ts ∙ is))) has,
    )
