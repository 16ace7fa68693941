-- A lexeme before a space is the token that stands there.
use Rattle.std.proofs.Common.{◌≡◌, ℕ, suc, ◌+◌, ◌-◌, ◌≤◌, ◌<◌, List, [], ◌∷◌, ◌++◌, Bool, true, false, refl, sym, ap, ◌∙◌, subst, inl, inr, ◌⊎◌, length, length-append, take, arith}
use Rattle.std.specs.Prelude.{◌==◌, ◌&&◌, ◌||◌, not, nat_le, if◌then◌else◌, MatchBool}
use Rattle.std.specs.List.{list_all, list_any}
use Rattle.std.proofs.Math.Seq.{take-append_seam, take-append-add}
use Rattle.std.proofs.lemmas.Bool.{and_parts, or_cases, leb-true, leb-false, eqb-true}
use Rattle.fn_lex.specs.declared.front.Piece.TheVariants.{Gap, Token as Taken}
use Rattle.fn_lex.specs.declared.span.TokenKind.{TokenKind}
use Rattle.fn_lex.specs.declared.span.TokenKind.TheVariants as kind
use Rattle.fn_lex.specs.Bytes.{is_blank, is_lower, is_digit, is_name_byte, is_plain, is_escape}
use Rattle.fn_lex.specs.Lexemes.{is_name_run, is_digits, is_closed, is_single, is_pair, is_sign, is_lexeme, is_within}
use Rattle.fn_lex.specs.Lexed.{IsLongest, IsTokenHere, Stands}
use Rattle.fn_lex.specs.Pieces.{comment_of}
use Rattle.fn_lex.specs.Words.{is_reserved}
use Rattle.fn_lex.proofs.LexemeLemmas.{reserved_run, kind_class, lexeme_class}

-- no token goes on over a space

not_all : (p : ℕ → Bool) (w v : List ℕ) → p 32 ≡ false → list_all p (w ++ 32 ∷ v) ≡ true → ⊥
not_all p [] v e h = let t = (and_parts (p 32) (list_all p v) h).0 in let no : false ≡ true = sym e ∙ t in cc
not_all p (b ∷ w) v e h = not_all p w v e (and_parts (p b) (list_all p (w ++ 32 ∷ v)) h).1

no_run : (w v : List ℕ) → is_name_run (w ++ 32 ∷ v) ≡ true → ⊥
no_run [] v h = absurd (cc)
no_run (b ∷ w) v h = not_all is_name_byte w v refl (and_parts (is_lower b) (list_all is_name_byte (w ++ 32 ∷ v)) h).1

no_digits : (w v : List ℕ) → is_digits (w ++ 32 ∷ v) ≡ true → ⊥
no_digits [] v h = absurd (cc)
no_digits (b ∷ w) v h = not_all is_digit w v refl (and_parts (is_digit b) (list_all is_digit (w ++ 32 ∷ v)) h).1

no_pair : (b : ℕ) (c : Bool) → 32 == b ≡ c → is_pair b 32 ≡ true → ⊥
no_pair b true e h = let same : 32 ≡ b = eqb-true 32 b e in let no : is_pair 32 32 ≡ true = subst (λ b. is_pair b 32 ≡ true) (sym same) h in cc
no_pair b false e h = let no : false ≡ true = sym (ap (λ t. t && list_any (λ s. s == b) (43 ∷ 38 ∷ 124 ∷ [])) e) ∙ h in cc

no_sign : (b : ℕ) (w v : List ℕ) → is_sign (b ∷ w ++ 32 ∷ v) ≡ true → ⊥
no_sign b [] [] h = no_pair b (32 == b) refl h
no_sign b [] (c ∷ v) h = absurd (cc)
no_sign b (c ∷ []) v h = absurd (cc)
no_sign b (c ∷ d ∷ w) v h = absurd (cc)

closed_by : (quote slash plain : Bool) (w v : List ℕ) → (is_closed true w ≡ true → is_closed true (w ++ 32 ∷ v) ≡ true → ⊥) → (is_closed false w ≡ true → is_closed false (w ++ 32 ∷ v) ≡ true → ⊥)
    → (if quote then length w == 0 else if slash then is_closed true w else plain && is_closed false w) ≡ true
    → (if quote then length (w ++ 32 ∷ v) == 0 else if slash then is_closed true (w ++ 32 ∷ v) else plain && is_closed false (w ++ 32 ∷ v)) ≡ true → ⊥
closed_by true slash plain w v s n h g =
    let e = eqb-true (length (w ++ 32 ∷ v)) 0 g in
    let l = length-append w (32 ∷ v) in
    absurd (omega (arith, e, l))
closed_by false true plain w v s n h g = s h g
closed_by false false plain w v s n h g = n (and_parts plain (is_closed false w) h).1 (and_parts plain (is_closed false (w ++ 32 ∷ v)) g).1

no_closed : (e : Bool) (w v : List ℕ) → is_closed e w ≡ true → is_closed e (w ++ 32 ∷ v) ≡ true → ⊥
no_closed true [] v h g = absurd (cc)
no_closed false [] v h g = absurd (cc)
no_closed true (b ∷ w) v h g = no_closed false w v (and_parts (is_escape b) (is_closed false w) h).1 (and_parts (is_escape b) (is_closed false (w ++ 32 ∷ v)) g).1
no_closed false (b ∷ w) v h g = closed_by (b == 34) (b == 92) (is_plain b) w v (λ h g. no_closed true w v h g) (λ h g. no_closed false w v h g) h g

text_kind : (k : TokenKind) → kind_class k ≡ kind_class kind.Text → k ≡ kind.Text
text_kind kind.Name e = absurd (omega (arith, e))
text_kind kind.Word e = absurd (omega (arith, e))
text_kind kind.Number e = absurd (omega (arith, e))
text_kind kind.Text e = refl
text_kind kind.Sign e = absurd (omega (arith, e))

no_longer : (j k : TokenKind) (b : ℕ) (w v : List ℕ) → is_lexeme k (b ∷ w) ≡ true → is_lexeme j (b ∷ w ++ 32 ∷ v) ≡ true → ⊥
no_longer kind.Name k b w v h g = no_run (b ∷ w) v (and_parts (is_name_run (b ∷ w ++ 32 ∷ v)) (not (is_reserved (b ∷ w ++ 32 ∷ v))) g).0
no_longer kind.Word k b w v h g = no_run (b ∷ w) v (reserved_run (b ∷ w ++ 32 ∷ v) g)
no_longer kind.Number k b w v h g = no_digits (b ∷ w) v g
no_longer kind.Sign k b w v h g = no_sign b w v g
no_longer kind.Text k b w v h g =
    let same : k ≡ kind.Text = text_kind k (sym (lexeme_class k b w h) ∙ lexeme_class kind.Text b (w ++ 32 ∷ v) g) in
    let text : is_lexeme kind.Text (b ∷ w) ≡ true = subst (λ k. is_lexeme k (b ∷ w) ≡ true) same h in
    no_closed false w v (and_parts (b == 34) (is_closed false w) text).1 (and_parts (b == 34) (is_closed false (w ++ 32 ∷ v)) g).1

-- no token begins with a blank or a `#`

record IsStrange (b : ℕ) : Type 0 where
  lower : is_lower b ≡ false
  digit : is_digit b ≡ false
  quote : b == 34 ≡ false
  single : is_single b ≡ false
  equals : list_any (λ s. s == b) (61 ∷ 33 ∷ 60 ∷ 62 ∷ []) ≡ false
  twice : list_any (λ s. s == b) (43 ∷ 38 ∷ 124 ∷ []) ≡ false

never : (a b : Bool) → a ≡ false → (a && b) ≡ true → ⊥
never a b e h = let no : false ≡ true = sym e ∙ (and_parts a b h).0 in cc

never_last : (a b : Bool) → b ≡ false → (a && b) ≡ true → ⊥
never_last a b e h = let no : false ≡ true = sym e ∙ (and_parts a b h).1 in cc

never_run : (b : ℕ) (w : List ℕ) → IsStrange b → is_name_run (b ∷ w) ≡ true → ⊥
never_run b w s h = never (is_lower b) (list_all is_name_byte w) s.lower h

never_pair : (b c : ℕ) → IsStrange b → is_pair b c ≡ true → ⊥
never_pair b c s h = by (or_cases (c == 61 && list_any (λ s. s == b) (61 ∷ 33 ∷ 60 ∷ 62 ∷ [])) (c == b && list_any (λ s. s == b) (43 ∷ 38 ∷ 124 ∷ [])) h) where
  by : ((c == 61 && list_any (λ s. s == b) (61 ∷ 33 ∷ 60 ∷ 62 ∷ [])) ≡ true) ⊎ ((c == b && list_any (λ s. s == b) (43 ∷ 38 ∷ 124 ∷ [])) ≡ true) → ⊥
  by (inl h) = never_last (c == 61) (list_any (λ s. s == b) (61 ∷ 33 ∷ 60 ∷ 62 ∷ [])) s.equals h
  by (inr h) = never_last (c == b) (list_any (λ s. s == b) (43 ∷ 38 ∷ 124 ∷ [])) s.twice h

never_here : (k : TokenKind) (b : ℕ) (w : List ℕ) → IsStrange b → is_lexeme k (b ∷ w) ≡ true → ⊥
never_here kind.Name b w s h = never_run b w s (and_parts (is_name_run (b ∷ w)) (not (is_reserved (b ∷ w))) h).0
never_here kind.Word b w s h = never_run b w s (reserved_run (b ∷ w) h)
never_here kind.Number b w s h = never (is_digit b) (list_all is_digit w) s.digit h
never_here kind.Text b w s h = never (b == 34) (is_closed false w) s.quote h
never_here kind.Sign b [] s h = let no : false ≡ true = sym s.single ∙ h in cc
never_here kind.Sign b (c ∷ []) s h = never_pair b c s h
never_here kind.Sign b (c ∷ d ∷ w) s h = absurd (cc)

strange : IsStrange 32 × IsStrange 9 × IsStrange 13 × IsStrange 10 × IsStrange 35
strange = (
  record { lower = refl; digit = refl; quote = refl; single = refl; equals = refl; twice = refl },
  record { lower = refl; digit = refl; quote = refl; single = refl; equals = refl; twice = refl },
  record { lower = refl; digit = refl; quote = refl; single = refl; equals = refl; twice = refl },
  record { lower = refl; digit = refl; quote = refl; single = refl; equals = refl; twice = refl },
  record { lower = refl; digit = refl; quote = refl; single = refl; equals = refl; twice = refl },
)

is_strange : (b c : ℕ) → IsStrange c → b == c ≡ true → IsStrange b
is_strange b c s e = subst IsStrange (sym (eqb-true b c e)) s

no_blank : (k : TokenKind) (b : ℕ) (w : List ℕ) (c : Bool) → is_lexeme k (b ∷ w) ≡ true → is_blank b ≡ c → is_blank b ≡ false
no_blank k b w false h e = e
no_blank k b w true h e = absurd (never_here k b w (which (or_cases (b == 32 || b == 9) (b == 13 || b == 10) e)) h) where
  first_two : ((b == 32) ≡ true) ⊎ ((b == 9) ≡ true) → IsStrange b
  first_two (inl h) = is_strange b 32 strange.0 h
  first_two (inr h) = is_strange b 9 strange.1 h

  last_two : ((b == 13) ≡ true) ⊎ ((b == 10) ≡ true) → IsStrange b
  last_two (inl h) = is_strange b 13 strange.2 h
  last_two (inr h) = is_strange b 10 strange.3 h

  which : ((b == 32 || b == 9) ≡ true) ⊎ ((b == 13 || b == 10) ≡ true) → IsStrange b
  which (inl h) = first_two (or_cases (b == 32) (b == 9) h)
  which (inr h) = last_two (or_cases (b == 13) (b == 10) h)

no_comment : (k : TokenKind) (b : ℕ) (w : List ℕ) (c : Bool) → is_lexeme k (b ∷ w) ≡ true → b == 35 ≡ c → b == 35 ≡ false
no_comment k b w false h e = e
no_comment k b w true h e = absurd (never_here k b w (is_strange b 35 strange.4 e) h)

-- so a lexeme before a space is the token there

at_most : (m n : ℕ) (b : Bool) → nat_le m n ≡ b → (n < m → ⊥) → m ≤ n
at_most m n true e h = leb-true m n e
at_most m n false e h = absurd (h (leb-false m n e))

take_past : (w v : List ℕ) (m : ℕ) → length w < m → take m (w ++ 32 ∷ v) ≡ w ++ 32 ∷ take (m - suc (length w)) v
take_past w v m lt =
    let e : m ≡ length w + suc (m - suc (length w)) = omega (arith, lt) in
    ap (λ m. take m (w ++ 32 ∷ v)) e ∙ take-append-add w (32 ∷ v) (suc (m - suc (length w)))

longest : (k : TokenKind) (b : ℕ) (w v : List ℕ) → is_lexeme k (b ∷ w) ≡ true → IsLongest k (length (b ∷ w)) ((b ∷ w) ++ 32 ∷ v)
longest k b w v h =
    record {
      fits = (let e = length-append (b ∷ w) (32 ∷ v) in omega (arith, e));
      is = ap (is_lexeme k) (take-append_seam (b ∷ w) (32 ∷ v)) ∙ h;
      longest = λ j m le g. at_most m (length (b ∷ w)) (nat_le m (length (b ∷ w))) refl
          (λ lt. no_longer j k b w (take (m - suc (length (b ∷ w))) v) h (sym (ap (is_lexeme j) (take_past (b ∷ w) v m lt)) ∙ g));
    }

match_false : (c : Bool) (A B : Type 0) → c ≡ false → B → MatchBool c A B
match_false true A B e x = absurd (cc)
match_false false A B e x = x

pub stands : (k : TokenKind) (b : ℕ) (w v : List ℕ) → is_lexeme k (b ∷ w) ≡ true → is_within k (b ∷ w) ≡ true → Stands ((b ∷ w) ++ 32 ∷ v) (Taken k (length (b ∷ w)))
stands k b w v h i =
    let here : IsTokenHere (b ∷ w ++ 32 ∷ v) (Taken k (length (b ∷ w))) = (longest k b w v h, ap (is_within k) (take-append_seam (b ∷ w) (32 ∷ v)) ∙ i) in
    match_false (is_blank b) (Taken k (length (b ∷ w)) ≡ Gap 1)
    (MatchBool (b == 35) (Taken k (length (b ∷ w)) ≡ comment_of (w ++ 32 ∷ v)) (IsTokenHere (b ∷ w ++ 32 ∷ v) (Taken k (length (b ∷ w)))))
    (no_blank k b w (is_blank b) h refl)
    (match_false (b == 35) (Taken k (length (b ∷ w)) ≡ comment_of (w ++ 32 ∷ v)) (IsTokenHere (b ∷ w ++ 32 ∷ v) (Taken k (length (b ∷ w)))) (no_comment k b w (b == 35) h refl) here)

pub some_byte : (k : TokenKind) → is_lexeme k [] ≡ true → ⊥
some_byte kind.Name h = absurd (cc)
some_byte kind.Word h = absurd (cc)
some_byte kind.Number h = absurd (cc)
some_byte kind.Text h = absurd (cc)
some_byte kind.Sign h = absurd (cc)
