-- What holds of each token of a text.
use Rattle.std.proofs.Common.{◌≡◌, ℕ, ◌+◌, ◌-◌, ◌<◌, ◌≤◌, List, [], ◌∷◌, length, drop, take, Option, Bool, true, false, refl, sym, ap, ◌∙◌, subst, arith}
use Rattle.std.specs.Prelude.{IsTrue, MatchBool, slice_range, ◌==◌, if◌then◌else◌, nat_lt}
use Rattle.std.specs.List.{AllByRecursion}
use Rattle.std.proofs.lemmas.List.{drop-drop, length-drop}
use Rattle.fn_lex.specs.declared.classes.Class.TheVariants as class
use Rattle.fn_lex.specs.declared.front.Piece.{Piece}
use Rattle.fn_lex.specs.declared.front.Piece.TheVariants.{End, Gap, Token as Taken, Bad}
use Rattle.fn_lex.specs.declared.span.TokenKind.{TokenKind}
use Rattle.fn_lex.specs.declared.span.Token.{Token}
use Rattle.fn_lex.specs.Bytes.{is_blank, byte_or}
use Rattle.fn_lex.specs.Lexemes.{is_lexeme, is_within}
use Rattle.fn_lex.specs.Lexed.{IsLongest, IsTokenHere, Stands, Lexed, ended, refused, passed, taken, IsSlice, AreInOrder}
use Rattle.fn_lex.specs.Pieces.{comment_of, run}
use Rattle.fn_lex.proofs.LexemeLemmas.{some_bytes}
use Rattle.fn_lex.proofs.TextLemmas.{run_fits}

from_match : (c : Bool) (A B E : Type 0) → (A → E) → (B → E) → MatchBool c A B → E
from_match true A B E yes_ no_ h = yes_ h
from_match false A B E yes_ no_ h = no_ h

gap_is : (t : Bool) (n m : ℕ) → Gap n ≡ (if t then Gap m else Bad m) → n ≡ m
gap_is true n m e = cc
gap_is false n m e = cc

no_comment : (t : Bool) (k : TokenKind) (n m : ℕ) → Taken k n ≡ (if t then Gap m else Bad m) → ⊥
no_comment true k n m e = cc
no_comment false k n m e = cc

gap_fits : (bytes : List ℕ) (n : ℕ) → Stands bytes (Gap n) → n ≤ length bytes
gap_fits [] n h = cc
gap_fits (b ∷ rest) n h =
    from_match (is_blank b) _ _ (n ≤ length (b ∷ rest)) (λ e. let one : n ≡ 1 = cc in omega arith)
    (λ g. from_match (b == 35) _ _ (n ≤ length (b ∷ rest)) (λ e.
    let size = gap_is (nat_lt (byte_or rest (run class.Comment rest)) 128) n (run class.Comment rest + 1) e in
    let fits = run_fits class.Comment rest in
    omega (arith, size, fits))
    (λ no. absurd no) g) h

pub token_at : (bytes : List ℕ) (k : TokenKind) (n : ℕ) → Stands bytes (Taken k n) → IsTokenHere bytes (Taken k n)
token_at [] k n h = cc
token_at (b ∷ rest) k n h =
    from_match (is_blank b) _ _ (IsTokenHere (b ∷ rest) (Taken k n)) (λ e. cc)
    (λ g. from_match (b == 35) _ _ (IsTokenHere (b ∷ rest) (Taken k n)) (λ e. absurd (no_comment (nat_lt (byte_or rest (run class.Comment rest)) 128) k n (run class.Comment rest + 1) e)) (λ t. t) g) h

slice_here : (text bytes : List ℕ) (at n : ℕ) (k : TokenKind) → bytes ≡ drop at text → at ≤ length text → IsLongest k n bytes → IsTrue (is_within k (take n bytes)) → IsSlice text (record { kind = k; from = at; to = at + n })
slice_here text bytes at n k e le l w = record {
  some = (let s : 0 < n = some_bytes k n bytes l.is in omega (arith, s));
  fits = omega (arith, l.fits, size);
  is = subst Is same l.is;
  within = subst Within same w;
  longest = λ j to low high h.
      let F : List ℕ → Type 0 = λ bytes. IsTrue (is_lexeme j (take (to - at) bytes)) in
      let fits : to - at ≤ length bytes = omega (arith, high, size) in
      let r = l.longest j (to - at) fits (subst F (sym e) h) in
      omega (arith, r, low);
} where
  size : length bytes ≡ length text - at
  size = ap length e ∙ length-drop at text

  count : n ≡ (at + n) - at
  count = omega arith

  same : take n bytes ≡ slice_range text at (at + n)
  same = ap (λ b. take n b) e ∙ ap (λ n. take n (drop at text)) count

  Is : List ℕ → Type 0
  Is w = IsTrue (is_lexeme k w)

  Within : List ℕ → Type 0
  Within w = IsTrue (is_within k w)

pub slices : {at : ℕ} {bytes : List ℕ} {ts : List Token} {bad : Option ℕ} → Lexed at bytes ts bad → (text : List ℕ) → bytes ≡ drop at text → at ≤ length text → AllByRecursion (IsSlice text) ts
slices (ended e) text is le = tt
slices (refused n e) text is le = tt
slices (passed {at} {bytes} n e l) text is le =
    let fits = gap_fits bytes n e in
    let size : length bytes ≡ length text - at = ap length is ∙ length-drop at text in
    slices l text (ap (λ b. drop n b) is ∙ drop-drop n at text) (omega (arith, fits, size))
slices (taken {at} {bytes} k n e l) text is le =
    let t = token_at bytes k n e in
    let fits : n ≤ length bytes = t.0.fits in
    let size : length bytes ≡ length text - at = ap length is ∙ length-drop at text in
    (slice_here text bytes at n k is le t.0 t.1, slices l text (ap (λ b. drop n b) is ∙ drop-drop n at text) (omega (arith, fits, size)))

pub in_order : {at : ℕ} {bytes : List ℕ} {ts : List Token} {bad : Option ℕ} → Lexed at bytes ts bad → (from : ℕ) → from ≤ at → AreInOrder from ts
in_order (ended e) from le = tt
in_order (refused n e) from le = tt
in_order (passed {at} n e l) from le = in_order l from (omega (arith, le))
in_order (taken {at} k n e l) from le = (le, in_order l (at + n) (omega arith))
