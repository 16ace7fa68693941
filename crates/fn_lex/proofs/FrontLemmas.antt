-- What the lexer finds at the front is what stands there.
use Rattle.std.proofs.Common.{◌≡◌, ℕ, zero, suc, ◌+◌, ◌<◌, ◌≤◌, List, [], ◌∷◌, length, take, Bool, true, false, refl, sym, ap, ◌∙◌, subst, arith, inl, inr, ◌⊎◌}
use Rattle.std.specs.Prelude.{◌==◌, ◌&&◌, ◌||◌, not, nat_le, nat_lt, if◌then◌else◌, IsTrue, MatchBool}
use Rattle.std.specs.List.{list_any, list_all}
use Rattle.std.proofs.lemmas.Bool.{and_parts, and_from, both_ways, eqb-true, leb-true, le-leb, or_left}
use Rattle.std.proofs.lemmas.List.{length-take-le}
use Rattle.fn_lex.specs.declared.classes.Class.TheVariants as class
use Rattle.fn_lex.specs.declared.front.Piece.{Piece}
use Rattle.fn_lex.specs.declared.front.Piece.TheVariants.{End, Gap, Token as Taken, Bad}
use Rattle.fn_lex.specs.declared.span.TokenKind.{TokenKind}
use Rattle.fn_lex.specs.declared.span.TokenKind.TheVariants.{Name, Word, Number, Text, Sign}
use Rattle.fn_lex.specs.Bytes.{is_blank, is_lower, is_digit, is_name_byte, byte_or}
use Rattle.fn_lex.specs.Words.{is_reserved}
use Rattle.fn_lex.specs.Lexemes.{is_name_run, is_closed, is_single, is_pair, is_sign, is_lexeme, is_within, is_number_within, denoted_from}
use Rattle.fn_lex.specs.Lexed.{IsLongest, IsTokenHere, Stands}
use Rattle.fn_lex.specs.Pieces.{belongs, run, comment_of, word_of, number_of, text_of, closing, sign_of, front_of, piece_of, HasByte}
use Rattle.fn_lex.proofs.LexemeLemmas.{reserved_run, class_of, kind_class, class_lower, class_digit, class_quote, class_other, front_class, some_bytes, one_kind}
use Rattle.fn_lex.proofs.TextLemmas.{run_fits, run_all, run_longest, closing_at, one_end, closes_or_not}

-- by cases of a test
pick : (P : Piece → Type 0) (c : Bool) (p q : Piece) → (c ≡ true → P p) → (c ≡ false → P q) → P (if c then p else q)
pick P true p q yes_ no_ = yes_ refl
pick P false p q yes_ no_ = no_ refl

choose : (P Q : Piece → Type 0) (c : Bool) (p q : Piece) → (c ≡ true → P p) → (c ≡ false → Q q) → MatchBool c (P (if c then p else q)) (Q (if c then p else q))
choose P Q true p q yes_ no_ = yes_ refl
choose P Q false p q yes_ no_ = no_ refl

-- names and words

lower_is_name : (b : ℕ) → is_lower b ≡ true → is_name_byte b ≡ true
lower_is_name b h = or_left (is_lower b || is_digit b) (b == 95) (or_left (is_lower b) (is_digit b) h)

-- a lexeme at a lower-case letter is a name or a word
run_of_lexeme : (k : TokenKind) (w : List ℕ) → kind_class k ≡ 0 → is_lexeme k w ≡ true → is_name_run w ≡ true
run_of_lexeme Name w e h = (and_parts (is_name_run w) (not (is_reserved w)) h).0
run_of_lexeme Word w e h = reserved_run w h
run_of_lexeme Number w e h = absurd (omega (arith, e))
run_of_lexeme Text w e h = absurd (omega (arith, e))
run_of_lexeme Sign w e h = absurd (omega (arith, e))

all_of_run : (w : List ℕ) → is_name_run w ≡ true → list_all is_name_byte w ≡ true
all_of_run [] h = refl
all_of_run (b ∷ w) h = let p = and_parts (is_lower b) (list_all is_name_byte w) h in and_from (is_name_byte b) (list_all is_name_byte w) (lower_is_name b p.0) p.1

name_longest : (b : ℕ) (rest : List ℕ) → is_lower b ≡ true → (j : TokenKind) (m : ℕ) → m ≤ length (b ∷ rest) → IsTrue (is_lexeme j (take m (b ∷ rest))) → m ≤ run class.Name (b ∷ rest)
name_longest b rest low j m le h = run_longest class.Name m (b ∷ rest) le (all_of_run (take m (b ∷ rest)) (run_of_lexeme j (take m (b ∷ rest)) (sym (front_class j m b rest h) ∙ class_lower b low) h))

name_size : (b : ℕ) (rest : List ℕ) → is_lower b ≡ true → run class.Name (b ∷ rest) ≡ suc (run class.Name rest)
name_size b rest low = ap (λ t. if t then suc (run class.Name rest) else 0) (lower_is_name b low)

name_run : (b : ℕ) (rest : List ℕ) → is_lower b ≡ true → is_name_run (take (run class.Name (b ∷ rest)) (b ∷ rest)) ≡ true
name_run b rest low =
    let F : ℕ → Type 0 = λ n. is_name_run (take n (b ∷ rest)) ≡ true in
    subst F (sym (name_size b rest low)) (and_from (is_lower b) _ low (run_all class.Name rest))

words_here : (b : ℕ) (rest : List ℕ) → is_lower b ≡ true → IsTokenHere (b ∷ rest) (word_of (b ∷ rest))
words_here b rest low =
    pick (IsTokenHere bytes) (is_reserved (take n bytes)) (Taken Word n) (if nat_le n 64 then Taken Name n else Bad 0)
    (λ r. (record { fits = run_fits class.Name bytes; is = r; longest = name_longest b rest low }, refl))
    (λ r. pick (IsTokenHere bytes) (nat_le n 64) (Taken Name n) (Bad 0)
    (λ le. (name r, ap (λ s. nat_le s 64) size ∙ le))
    (λ over. (refl, λ k m l w. too_long r over k m l w))) where
      bytes : List ℕ
      bytes = b ∷ rest

      n : ℕ
      n = run class.Name bytes

      size : length (take n bytes) ≡ n
      size = length-take-le n bytes (run_fits class.Name bytes)

      name : is_reserved (take n bytes) ≡ false → IsLongest Name n bytes
      name r = record { fits = run_fits class.Name bytes; is = and_from (is_name_run (take n bytes)) (not (is_reserved (take n bytes))) (name_run b rest low) (ap (λ t. not t) r); longest = name_longest b rest low }

      too_long : is_reserved (take n bytes) ≡ false → nat_le n 64 ≡ false → (k : TokenKind) (m : ℕ) → IsLongest k m bytes → IsTrue (is_within k (take m bytes)) → ⊥
      too_long r over k m l w =
          let a : n ≤ m = l.longest Name n (run_fits class.Name bytes) (name r).is in
          let c : m ≤ n = name_longest b rest low k m l.fits l.is in
          let e : m ≡ n = omega arith in
          let F : ℕ → Type 0 = λ m. IsTrue (is_lexeme k (take m bytes)) in
          let G : ℕ → Type 0 = λ m. IsTrue (is_within k (take m bytes)) in
          let is : IsTrue (is_lexeme k (take n bytes)) = subst F e l.is in
          let same : Name ≡ k = one_kind Name k (take n bytes) (name r).is is in
          let H : TokenKind → Type 0 = λ k. IsTrue (is_within k (take n bytes)) in
          let le : nat_le (length (take n bytes)) 64 ≡ true = subst H (sym same) (subst G e w) in
          both_ways (nat_le n 64) over (ap (λ s. nat_le s 64) (sym size) ∙ le)

-- numbers

digits_of_lexeme : (k : TokenKind) (w : List ℕ) → kind_class k ≡ 1 → is_lexeme k w ≡ true → list_all is_digit w ≡ true
digits_of_lexeme Name w e h = absurd (omega (arith, e))
digits_of_lexeme Word w e h = absurd (omega (arith, e))
digits_of_lexeme Number [] e h = refl
digits_of_lexeme Number (b ∷ w) e h = h
digits_of_lexeme Text w e h = absurd (omega (arith, e))
digits_of_lexeme Sign w e h = absurd (omega (arith, e))

number_longest : (b : ℕ) (rest : List ℕ) → is_digit b ≡ true → (j : TokenKind) (m : ℕ) → m ≤ length (b ∷ rest) → IsTrue (is_lexeme j (take m (b ∷ rest))) → m ≤ run class.Digit (b ∷ rest)
number_longest b rest d j m le h = run_longest class.Digit m (b ∷ rest) le (digits_of_lexeme j (take m (b ∷ rest)) (sym (front_class j m b rest h) ∙ class_digit b d) h)

number_size : (b : ℕ) (rest : List ℕ) → is_digit b ≡ true → run class.Digit (b ∷ rest) ≡ suc (run class.Digit rest)
number_size b rest d = ap (λ t. if t then suc (run class.Digit rest) else 0) d

number_whole : (b : ℕ) (rest : List ℕ) → is_digit b ≡ true → IsLongest Number (run class.Digit (b ∷ rest)) (b ∷ rest)
number_whole b rest d =
    let F : ℕ → Type 0 = λ n. is_lexeme Number (take n (b ∷ rest)) ≡ true in
    record { fits = run_fits class.Digit (b ∷ rest); is = subst F (sym (number_size b rest d)) (and_from (is_digit b) _ d (run_all class.Digit rest)); longest = number_longest b rest d }

-- two longest lexemes are one
pub same_size : (k j : TokenKind) (n m : ℕ) (bytes : List ℕ) → IsLongest k n bytes → IsLongest j m bytes → n ≡ m
same_size k j n m bytes p q =
    let a : m ≤ n = p.longest j m q.fits q.is in
    let c : n ≤ m = q.longest k n p.fits p.is in
    omega arith

pub same_kind : (k j : TokenKind) (n m : ℕ) (bytes : List ℕ) → IsLongest k n bytes → IsLongest j m bytes → k ≡ j
same_kind k j n m bytes p q =
    let F : ℕ → Type 0 = λ n. IsTrue (is_lexeme k (take n bytes)) in
    one_kind k j (take m bytes) (subst F (same_size k j n m bytes p q) p.is) q.is

-- where the longest lexeme passes its limits, none is within them
pub passes : (k : TokenKind) (n : ℕ) (bytes : List ℕ) → IsLongest k n bytes → is_within k (take n bytes) ≡ false → (j : TokenKind) (m : ℕ) → IsLongest j m bytes → IsTrue (is_within j (take m bytes)) → ⊥
passes k n bytes p out j m q w =
    let F : TokenKind → Type 0 = λ j. is_within j (take m bytes) ≡ true in
    let G : ℕ → Type 0 = λ m. is_within k (take m bytes) ≡ true in
    both_ways (is_within k (take n bytes)) out (subst G (sym (same_size k j n m bytes p q)) (subst F (sym (same_kind k j n m bytes p q)) w))

numbers_here : (b : ℕ) (rest : List ℕ) → is_digit b ≡ true → IsTokenHere (b ∷ rest) (number_of (b ∷ rest))
numbers_here b rest d =
    let n = run class.Digit (b ∷ rest) in
    pick (IsTokenHere (b ∷ rest)) (is_number_within (take n (b ∷ rest))) (Taken Number n) (Bad 0)
    (λ r. (number_whole b rest d, r))
    (λ r. (refl, passes Number n (b ∷ rest) (number_whole b rest d) r))

-- texts

text_of_lexeme : (k : TokenKind) (m : ℕ) (b : ℕ) (rest : List ℕ) → kind_class k ≡ 2 → m ≤ length (b ∷ rest) → is_lexeme k (take m (b ∷ rest)) ≡ true → (i : ℕ) × (m ≡ suc i) × (i ≤ length rest) × (is_closed false (take i rest) ≡ true) × (k ≡ Text)
text_of_lexeme Name m b rest e le h = absurd (omega (arith, e))
text_of_lexeme Word m b rest e le h = absurd (omega (arith, e))
text_of_lexeme Number m b rest e le h = absurd (omega (arith, e))
text_of_lexeme Text zero b rest e le h = cc
text_of_lexeme Text (suc i) b rest e le h = (i, refl, omega arith, (and_parts (b == 34) (is_closed false (take i rest)) h).1, refl)
text_of_lexeme Sign m b rest e le h = absurd (omega (arith, e))

text_longest : (b : ℕ) (rest : List ℕ) → (b == 34) ≡ true → (i : ℕ) → i ≤ length rest → is_closed false (take i rest) ≡ true → IsLongest Text (suc i) (b ∷ rest)
text_longest b rest q i le h = record { fits = omega arith; is = and_from (b == 34) (is_closed false (take i rest)) q h; longest = longest } where
  longest : (j : TokenKind) (m : ℕ) → m ≤ length (b ∷ rest) → IsTrue (is_lexeme j (take m (b ∷ rest))) → m ≤ suc i
  longest j m le2 g =
      let p = text_of_lexeme j m b rest (sym (front_class j m b rest g) ∙ class_quote b q) le2 g in
      let e : p.0 ≡ i = one_end false p.0 i rest p.2 le p.3 h in
      let e2 : m ≡ suc p.0 = p.1 in
      omega arith

texts_here : (b : ℕ) (rest : List ℕ) → (b == 34) ≡ true → IsTokenHere (b ∷ rest) (closing false 0 0 rest)
texts_here b rest q =
    elim (closes_or_not false 0 0 rest) [
      | inl r ↦ subst (IsTokenHere (b ∷ rest)) (sym r) (refl, bad r)
      | inr r ↦ subst (IsTokenHere (b ∷ rest)) (sym (whole r.0 r.1 r.2)) (sized r.0 r.1 r.2)
    ] where
      whole : (i : ℕ) → i ≤ length rest → is_closed false (take i rest) ≡ true → closing false 0 0 rest ≡ text_of (length (denoted_from false (take i rest))) (suc i)
      whole i le h =
          let a : 0 + length (denoted_from false (take i rest)) ≡ length (denoted_from false (take i rest)) = omega arith in
          let s : 0 + i + 1 ≡ suc i = omega arith in
          closing_at false 0 0 i rest le h ∙ (ap (λ a. text_of a (0 + i + 1)) a ∙ ap (λ s. text_of (length (denoted_from false (take i rest))) s) s)

      sized : (i : ℕ) → i ≤ length rest → is_closed false (take i rest) ≡ true → IsTokenHere (b ∷ rest) (text_of (length (denoted_from false (take i rest))) (suc i))
      sized i le h =
          pick (IsTokenHere (b ∷ rest)) (nat_le (length (denoted_from false (take i rest))) 4091) (Taken Text (suc i)) (Bad 0)
          (λ w. (text_longest b rest q i le h, w))
          (λ w. (refl, passes Text (suc i) (b ∷ rest) (text_longest b rest q i le h) w))

      bad : closing false 0 0 rest ≡ Bad 0 → (k : TokenKind) (m : ℕ) → IsLongest k m (b ∷ rest) → IsTrue (is_within k (take m (b ∷ rest))) → ⊥
      bad r k m l w =
          let p = text_of_lexeme k m b rest (sym (front_class k m b rest l.is) ∙ class_quote b q) l.fits l.is in
          let F : TokenKind → Type 0 = λ k. is_within k (take m (b ∷ rest)) ≡ true in
          let G : ℕ → Type 0 = λ m. is_within Text (take m (b ∷ rest)) ≡ true in
          let within : nat_le (length (denoted_from false (take p.0 rest))) 4091 ≡ true = subst G p.1 (subst F p.4 w) in
          let e : Taken Text (suc p.0) ≡ Bad 0 = sym (ap (λ t. if t then Taken Text (suc p.0) else Bad 0) within) ∙ (sym (whole p.0 p.2 p.3) ∙ r) in
          cc

-- signs

sign_of_lexeme : (k : TokenKind) (w : List ℕ) → kind_class k ≡ 3 → is_lexeme k w ≡ true → (k ≡ Sign) × (is_sign w ≡ true)
sign_of_lexeme Name w e h = absurd (omega (arith, e))
sign_of_lexeme Word w e h = absurd (omega (arith, e))
sign_of_lexeme Number w e h = absurd (omega (arith, e))
sign_of_lexeme Text w e h = absurd (omega (arith, e))
sign_of_lexeme Sign w e h = (refl, h)

-- a sign has one byte, or two
sign_size : (b : ℕ) (rest : List ℕ) (m : ℕ) → m ≤ length (b ∷ rest) → is_sign (take m (b ∷ rest)) ≡ true → ((m ≡ 1) × (is_single b ≡ true)) ⊎ ((m ≡ 2) × (is_pair b (byte_or rest 0) ≡ true))
sign_size b rest zero le h = cc
sign_size b rest (suc zero) le h = inl (refl, h)
sign_size b [] (suc (suc m)) le h = absurd (omega (arith, le))
sign_size b (c ∷ rest) (suc (suc zero)) le h = inr (refl, h)
sign_size b (c ∷ []) (suc (suc (suc m))) le h = absurd (omega (arith, le))
sign_size b (c ∷ d ∷ rest) (suc (suc (suc m))) le h = cc

-- no sign of two goes on behind the end
not_at_end : (b : ℕ) → is_pair b 10 ≡ true → ⊥
not_at_end b h = here (10 == b) refl where
  here : (t : Bool) → (10 == b) ≡ t → ⊥
  here true e =
      let is : 10 ≡ b = eqb-true 10 b e in
      let F : ℕ → Type 0 = λ b. is_pair b 10 ≡ true in
      let no : false ≡ true = subst F (sym is) h in
      cc
  here false e = let no : false ≡ true = sym (ap (λ t. t && list_any (λ s. s == b) (43 ∷ 38 ∷ 124 ∷ [])) e) ∙ h in cc

pair_whole : (b : ℕ) (rest : List ℕ) → class_of b ≡ 3 → is_pair b (byte_or rest 0) ≡ true → IsLongest Sign 2 (b ∷ rest)
pair_whole b [] cl h = absurd (not_at_end b h)
pair_whole b (c ∷ rest) cl h = record { fits = omega arith; is = h; longest = longest } where
  longest : (j : TokenKind) (m : ℕ) → m ≤ length (b ∷ c ∷ rest) → IsTrue (is_lexeme j (take m (b ∷ c ∷ rest))) → m ≤ 2
  longest j m le g =
      elim (sign_size b (c ∷ rest) m le (sign_of_lexeme j (take m (b ∷ c ∷ rest)) (sym (front_class j m b (c ∷ rest) g) ∙ cl) g).1) [
        | inl p ↦ (let e : m ≡ 1 = p.0 in omega arith)
        | inr p ↦ (let e : m ≡ 2 = p.0 in omega arith)
      ]

single_whole : (b : ℕ) (rest : List ℕ) → class_of b ≡ 3 → is_pair b (byte_or rest 0) ≡ false → is_single b ≡ true → IsLongest Sign 1 (b ∷ rest)
single_whole b rest cl not_two h = record { fits = omega arith; is = h; longest = longest } where
  longest : (j : TokenKind) (m : ℕ) → m ≤ length (b ∷ rest) → IsTrue (is_lexeme j (take m (b ∷ rest))) → m ≤ 1
  longest j m le g =
      elim (sign_size b rest m le (sign_of_lexeme j (take m (b ∷ rest)) (sym (front_class j m b rest g) ∙ cl) g).1) [
        | inl p ↦ (let e : m ≡ 1 = p.0 in omega arith)
        | inr p ↦ absurd (both_ways (is_pair b (byte_or rest 0)) not_two p.1)
      ]

signs_here : (b : ℕ) (rest : List ℕ) → class_of b ≡ 3 → IsTokenHere (b ∷ rest) (sign_of b rest)
signs_here b rest cl =
    pick (IsTokenHere (b ∷ rest)) (is_pair b (byte_or rest 0)) (Taken Sign 2) (if is_single b then Taken Sign 1 else Bad 0)
    (λ two. (pair_whole b rest cl two, refl))
    (λ not_two. pick (IsTokenHere (b ∷ rest)) (is_single b) (Taken Sign 1) (Bad 0)
    (λ one. (single_whole b rest cl not_two one, refl))
    (λ none. (
      refl,
      λ k m l w.
          elim (sign_size b rest m l.fits (sign_of_lexeme k (take m (b ∷ rest)) (sym (front_class k m b rest l.is) ∙ cl) l.is).1) [
            | inl p ↦ both_ways (is_single b) none p.1
            | inr p ↦ both_ways (is_pair b (byte_or rest 0)) not_two p.1
          ],
    )))

token_here : (b : ℕ) (rest : List ℕ) → IsTokenHere (b ∷ rest) (if is_lower b then word_of (b ∷ rest) else if is_digit b then number_of (b ∷ rest) else if b == 34 then closing false 0 0 rest else sign_of b rest)
token_here b rest =
    pick (IsTokenHere (b ∷ rest)) (is_lower b) (word_of (b ∷ rest)) _ (λ low. words_here b rest low)
    (λ low. pick (IsTokenHere (b ∷ rest)) (is_digit b) (number_of (b ∷ rest)) _ (λ d. numbers_here b rest d)
    (λ d. pick (IsTokenHere (b ∷ rest)) (b == 34) (closing false 0 0 rest) (sign_of b rest) (λ q. texts_here b rest q)
    (λ q. signs_here b rest (class_other b low d q))))

pub piece_stands : (bytes : List ℕ) → Stands bytes (piece_of bytes)
piece_stands [] = refl
piece_stands (b ∷ rest) =
    choose (λ p. p ≡ Gap 1) (λ p. MatchBool (b == 35) (p ≡ comment_of rest) (IsTokenHere (b ∷ rest) p)) (is_blank b) (Gap 1) _ (λ h. refl)
    (λ h. choose (λ p. p ≡ comment_of rest) (IsTokenHere (b ∷ rest)) (b == 35) (comment_of rest) _ (λ g. refl) (λ g. token_here b rest))

pub stands_at : (bytes : List ℕ) (p : Piece) → p ≡ piece_of bytes → Stands bytes p
stands_at bytes p e = subst (Stands bytes) (sym e) (piece_stands bytes)

-- one piece stands at the front

either : (c : Bool) (A B C D E : Type 0) → (A → B → E) → (C → D → E) → MatchBool c A C → MatchBool c B D → E
either true A B C D E yes_ no_ p q = yes_ p q
either false A B C D E yes_ no_ p q = no_ p q

one_token : (bytes : List ℕ) (p q : Piece) → IsTokenHere bytes p → IsTokenHere bytes q → p ≡ q
one_token bytes End q h g = absurd h
one_token bytes (Gap n) q h g = absurd h
one_token bytes (Taken k n) End h g = absurd g
one_token bytes (Taken k n) (Gap m) h g = absurd g
one_token bytes (Taken k n) (Taken j m) h g = cc (same_kind k j n m bytes h.0 g.0, same_size k j n m bytes h.0 g.0)
one_token bytes (Taken k n) (Bad m) h g = absurd (g.1 k n h.0 h.1)
one_token bytes (Bad n) End h g = absurd g
one_token bytes (Bad n) (Gap m) h g = absurd g
one_token bytes (Bad n) (Taken j m) h g = absurd (h.1 j m g.0 g.1)
one_token bytes (Bad n) (Bad m) h g = cc (h.0, g.0)

pub stands_once : (bytes : List ℕ) (p q : Piece) → Stands bytes p → Stands bytes q → p ≡ q
stands_once [] p q h g = h ∙ sym g
stands_once (b ∷ rest) p q h g =
    either (is_blank b) _ _ _ _ (p ≡ q) (λ a c. a ∙ sym c)
    (λ a c. either (b == 35) _ _ _ _ (p ≡ q) (λ d e. d ∙ sym e) (λ d e. one_token (b ∷ rest) p q d e) a c) h g

-- gaps and tokens have a byte

comment_size : (rest : List ℕ) → HasByte (comment_of rest)
comment_size rest = pick HasByte _ (Gap (run class.Comment rest + 1)) (Bad (run class.Comment rest + 1)) (λ h. omega arith) (λ h. tt)

token_size : (bytes : List ℕ) (p : Piece) → IsTokenHere bytes p → HasByte p
token_size bytes End h = tt
token_size bytes (Gap n) h = absurd h
token_size bytes (Taken k n) h = some_bytes k n bytes h.0.is
token_size bytes (Bad n) h = tt

pub has_byte : (bytes : List ℕ) → HasByte (piece_of bytes)
has_byte [] = tt
has_byte (b ∷ rest) =
    pick HasByte (is_blank b) (Gap 1) _ (λ h. omega arith)
    (λ h. pick HasByte (b == 35) (comment_of rest) _ (λ g. comment_size rest) (λ g. token_size (b ∷ rest) _ (token_here b rest)))
