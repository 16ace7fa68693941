-- The bytes of a spelling have the tokens that were spelled.
use Rattle.std.proofs.Common.{◌≡◌, ℕ, ◌+◌, ◌-◌, ◌≤◌, ◌<◌, ◌^◌, List, [], ◌∷◌, ◌++◌, None, true, refl, sym, ap, ◌∙◌, subst, append_assoc, length, length-append, take, drop, arith}
use Rattle.std.specs.Prelude.{◌==◌, ◌&&◌, nat_le, pos, negsuc, slice_range}
use Rattle.std.specs.List.{list_all}
use Rattle.std.specs.Fmt.{decimal}
use Rattle.std.proofs.Math.Seq.{drop-append_seam, take-append_seam}
use Rattle.std.proofs.lemmas.Bool.{and_parts, leb-true}
use Rattle.std.proofs.lemmas.Fmt.{digits_decimal, decimal_nonempty}
use Rattle.fn_lex.specs.declared.span.TokenKind.{TokenKind}
use Rattle.fn_lex.specs.declared.span.TokenKind.TheVariants as kind
use Rattle.fn_lex.specs.declared.span.Token.{Token}
use Rattle.fn_lex.specs.Lexemes.{is_lexeme, is_within}
use Rattle.fn_lex.specs.Lexed.{Lexed, ended, passed, taken}
use Rattle.fn_grammar.specs.Letters.{letter, letters, spelled}
use Rattle.fn_tree.specs.declared.program.Item.{Item}
use Rattle.fn_grammar.specs.Derivation.{IsProgram}
use Rattle.fn_spell.specs.Pieces.{Piece, a_word, a_name, a_number, a_text, expr_begins, expr_ends, lexeme_kind, quoted, word_of, kind_of, letters_of, spaced}
use Rattle.fn_spell.specs.Spelling.{program_pieces}
use Rattle.fn_spell.specs.Limits.{is_textual, is_token, HasTokens, KeepsLimits, IsReadAs}
use Rattle.fn_spell.proofs.TokenLemmas.{denoted_quoted}
use Rattle.fn_spell.proofs.ItemLemmas.{spelled_program}
use Rattle.fn_spell.proofs.WordLemmas.{word_is, word_within, numerals, digits_of_some, number_within, closed_here}
use Rattle.fn_spell.proofs.SpaceLemmas.{stands, some_byte}

-- the tokens, from a place on
abbrev token : ℕ → TokenKind → List ℕ → Token
token at k w = record { kind = k; from = at; to = at + length w }

abbrev tokens_of : ℕ → List Piece → List Token
tokens_of at [] = []
tokens_of at (expr_begins ∷ xs) = tokens_of at xs
tokens_of at (expr_ends ∷ xs) = tokens_of at xs
tokens_of at (x ∷ xs) = token at (kind_of x) (word_of x) ∷ tokens_of (at + length (word_of x) + 1) xs

one_token : (k : TokenKind) (w v : List ℕ) (at : ℕ) (ts : List Token) → is_lexeme k w ≡ true → is_within k w ≡ true
    → Lexed (at + length w + 1) v ts None → Lexed at (w ++ 32 ∷ v) (token at k w ∷ ts) None
one_token k [] v at ts h i l = absurd (some_byte k h)
one_token k (b ∷ w) v at ts h i l =
    taken k (length (b ∷ w)) (stands k b w v h i)
    (subst (λ bs. Lexed (at + length (b ∷ w)) bs ts None) (sym (drop-append_seam (b ∷ w) (32 ∷ v))) (passed 1 refl l))

lexed : (xs : List Piece) (at : ℕ) → list_all is_token xs ≡ true → Lexed at (spaced xs) (tokens_of at xs) None
lexed [] at h = ended refl
lexed (expr_begins ∷ xs) at h = lexed xs at h
lexed (expr_ends ∷ xs) at h = lexed xs at h
lexed (a_word l ∷ xs) at h =
    one_token (lexeme_kind l) (spelled l) (spaced xs) at (tokens_of (at + length (spelled l) + 1) xs) (word_is l) (word_within l) (lexed xs (at + length (spelled l) + 1) h)
lexed (a_name w ∷ xs) at h =
    let p = and_parts (is_lexeme kind.Name w && is_within kind.Name w) (list_all is_token xs) h in
    let q = and_parts (is_lexeme kind.Name w) (is_within kind.Name w) p.0 in
    one_token kind.Name w (spaced xs) at (tokens_of (at + length w + 1) xs) q.0 q.1 (lexed xs (at + length w + 1) p.1)
lexed (a_number (negsuc n) ∷ xs) at h = absurd (cc)
lexed (a_number (pos n) ∷ xs) at h =
    let p = and_parts (nat_le n 9223372036854775807) (list_all is_token xs) h in
    let le : n ≤ 9223372036854775807 = leb-true n 9223372036854775807 p.0 in
    let lt : n < 2 ^ 64 = omega (arith, le) in
    let is = digits_of_some (decimal n) (decimal_nonempty n lt) (digits_decimal numerals n lt) in
    one_token kind.Number (decimal n) (spaced xs) at (tokens_of (at + length (decimal n) + 1) xs) is (number_within n (n == 0) refl lt p.0) (lexed xs (at + length (decimal n) + 1) p.1)
lexed (a_text w ∷ xs) at h =
    let p = and_parts (list_all is_textual w && nat_le (length w) 4091) (list_all is_token xs) h in
    let q = and_parts (list_all is_textual w) (nat_le (length w) 4091) p.0 in
    let within : is_within kind.Text (quoted w) ≡ true = ap (λ (u : List ℕ). nat_le (length u) 4091) (denoted_quoted w) ∙ q.1 in
    one_token kind.Text (quoted w) (spaced xs) at (tokens_of (at + length (quoted w) + 1) xs) (closed_here w q.0) within (lexed xs (at + length (quoted w) + 1) p.1)

-- and their letters are those that were spelled

slice : (front w v : List ℕ) → slice_range (front ++ (w ++ 32 ∷ v)) (length front) (length front + length w) ≡ w
slice front w v =
    let n : (length front + length w) - length front ≡ length w = omega arith in
    ap (λ n. take n (drop (length front) (front ++ (w ++ 32 ∷ v)))) n
    ∙ (ap (take (length w)) (drop-append_seam front (w ++ 32 ∷ v)) ∙ take-append_seam w (32 ∷ v))

longer : (front w v : List ℕ) → front ++ (w ++ 32 ∷ v) ≡ (front ++ (w ++ 32 ∷ [])) ++ v
longer front w v = ap (λ u. front ++ u) (sym (append_assoc w (32 ∷ []) v)) ∙ sym (append_assoc front (w ++ 32 ∷ []) v)

longer_at : (front w : List ℕ) → length front + length w + 1 ≡ length (front ++ (w ++ 32 ∷ []))
longer_at front w =
    let a = length-append front (w ++ 32 ∷ []) in
    let b = length-append w (32 ∷ []) in
    omega (arith, a, b)

one_letter : (k : TokenKind) (front w : List ℕ) (xs : List Piece)
    → letters ((front ++ (w ++ 32 ∷ [])) ++ spaced xs) (tokens_of (length (front ++ (w ++ 32 ∷ []))) xs) ≡ letters_of xs
    → letters (front ++ (w ++ 32 ∷ spaced xs)) (token (length front) k w ∷ tokens_of (length front + length w + 1) xs) ≡ letter k w ∷ letters_of xs
one_letter k front w xs e =
    ap (λ u. letter k u ∷ letters (front ++ (w ++ 32 ∷ spaced xs)) (tokens_of (length front + length w + 1) xs)) (slice front w (spaced xs))
    ∙ ap (λ l. letter k w ∷ l)
    (ap (λ t. letters t (tokens_of (length front + length w + 1) xs)) (longer front w (spaced xs))
    ∙ (ap (λ n. letters ((front ++ (w ++ 32 ∷ [])) ++ spaced xs) (tokens_of n xs)) (longer_at front w) ∙ e))

same_letters : (xs : List Piece) (front : List ℕ) → letters (front ++ spaced xs) (tokens_of (length front) xs) ≡ letters_of xs
same_letters [] front = refl
same_letters (expr_begins ∷ xs) front = same_letters xs front
same_letters (expr_ends ∷ xs) front = same_letters xs front
same_letters (a_word l ∷ xs) front = one_letter (lexeme_kind l) front (spelled l) xs (same_letters xs (front ++ (spelled l ++ 32 ∷ [])))
same_letters (a_name w ∷ xs) front = one_letter kind.Name front w xs (same_letters xs (front ++ (w ++ 32 ∷ [])))
same_letters (a_number z ∷ xs) front = one_letter kind.Number front (word_of (a_number z)) xs (same_letters xs (front ++ (word_of (a_number z) ++ 32 ∷ [])))
same_letters (a_text w ∷ xs) front = one_letter kind.Text front (quoted w) xs (same_letters xs (front ++ (quoted w ++ 32 ∷ [])))

-- the bytes of a spelling are read as the program that was spelled
pub spelling_is_read : (items : List Item) → HasTokens items → KeepsLimits items → IsReadAs (spaced (program_pieces items)) items
spelling_is_read items h l = record {
  tokens = tokens_of 0 (program_pieces items);
  lexed = lexed (program_pieces items) 0 h;
  program = subst (λ ls. IsProgram ls items) (sym (same_letters (program_pieces items) [])) (spelled_program items h l);
}
