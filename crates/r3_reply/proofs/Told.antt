-- The text of a summary, written piece by piece, is its line.
use Rattle.std.proofs.Common.{◌≡◌, ℕ, ℤ, pos, negsuc, List, [], ◌∷◌, ◌++◌, refl, sym, ap, ◌∙◌}
use Rattle.std.proofs.lemmas.List.{append_assoc}
use Rattle.std.specs.Prelude.{codes, decimal}
use Rattle.std.specs.Fmt.{signed_decimal}
use Rattle.json.specs.Print.{escape_byte}
use Rattle.serde_json.specs.Find.{of_integer}
use Rattle.serde_json.specs.Written.{number_text}
use Rattle.r3_json.specs.Lines.{line_of}
use Rattle.r3_reply.specs.Summary.{summary_data}

shown : (z : ℤ) → number_text (of_integer z) ≡ signed_decimal z
shown (pos n) = refl
shown (negsuc n) = refl

-- the pieces, as they are written
abbrev pub pieces : ℕ → ℕ → ℤ → List ℕ
pieces entries success sum =
    codes "{\"entries\":" ++ (decimal entries ++ (codes ",\"success\":" ++ (decimal success ++ (codes ",\"sum\":" ++ (signed_decimal sum ++ codes "}\n")))))

pub written : (entries success : ℕ) (sum : ℤ) → pieces entries success sum ≡ line_of (summary_data entries success sum)
unfolding escape_byte
written entries success sum =
    let number : List ℕ = number_text (of_integer sum) in
    let last : List ℕ = 125 ∷ [] in
    let third : List ℕ = codes ",\"sum\":" ++ (number ++ last) in
    let second : List ℕ = codes ",\"success\":" ++ (decimal success ++ third) in
    let newline : List ℕ = 10 ∷ [] in
    sym (ap (λ (t : List ℕ). codes "{\"entries\":" ++ t) (append_assoc (decimal entries) second newline
    ∙ ap (λ (t : List ℕ). decimal entries ++ (codes ",\"success\":" ++ t)) (append_assoc (decimal success) third newline
    ∙ ap (λ (t : List ℕ). decimal success ++ (codes ",\"sum\":" ++ t)) (append_assoc number last newline
    ∙ ap (λ (t : List ℕ). t ++ codes "}\n") (shown sum)))))
