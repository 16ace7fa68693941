-- Runs of one class, and what stands behind an opening quote.
use Rattle.std.proofs.Common.{◌≡◌, ℕ, zero, suc, ◌+◌, ◌<◌, ◌≤◌, List, [], ◌∷◌, length, take, Bool, true, false, refl, sym, ap, ◌∙◌, subst, arith, inl, inr, ◌⊎◌}
use Rattle.std.specs.Prelude.{◌==◌, ◌&&◌, ◌||◌, not, nat_le, nat_lt, if◌then◌else◌}
use Rattle.std.specs.List.{list_all}
use Rattle.std.proofs.lemmas.Bool.{and_parts, both_ways, eqb-true, eq-eqb}
use Rattle.fn_lex.specs.declared.classes.Class.{Class}
use Rattle.fn_lex.specs.declared.front.Piece.{Piece}
use Rattle.fn_lex.specs.declared.front.Piece.TheVariants.{Bad}
use Rattle.fn_lex.specs.Bytes.{is_plain, is_escape}
use Rattle.fn_lex.specs.Lexemes.{is_closed, denoted_from, escaped_byte}
use Rattle.fn_lex.specs.Pieces.{belongs, run, text_of, closing}

pub run_fits : (c : Class) (bytes : List ℕ) → run c bytes ≤ length bytes
run_fits c [] = omega arith
run_fits c (b ∷ bytes) = let h = run_fits c bytes in
    elim (belongs c b) as (λ t. (if t then suc (run c bytes) else 0) ≤ length (b ∷ bytes)) [ true ↦ omega arith | false ↦ omega arith ]

-- the bytes of the run are of the class
pub run_all : (c : Class) (bytes : List ℕ) → list_all (belongs c) (take (run c bytes) bytes) ≡ true
run_all c [] = refl
run_all c (b ∷ bytes) = here (belongs c b) refl (run_all c bytes) where
  here : (t : Bool) → belongs c b ≡ t → list_all (belongs c) (take (run c bytes) bytes) ≡ true → list_all (belongs c) (take (if t then suc (run c bytes) else 0) (b ∷ bytes)) ≡ true
  here true e r = ap (λ t. t && list_all (belongs c) (take (run c bytes) bytes)) e ∙ r
  here false e r = refl

-- and no longer front has that
pub run_longest : (c : Class) (m : ℕ) (bytes : List ℕ) → m ≤ length bytes → list_all (belongs c) (take m bytes) ≡ true → m ≤ run c bytes
run_longest c zero bytes le h = omega arith
run_longest c (suc m) [] le h = absurd (omega (arith, le))
run_longest c (suc m) (b ∷ bytes) le h =
    let p = and_parts (belongs c b) (list_all (belongs c) (take m bytes)) h in
    let le2 : m ≤ length bytes = omega arith in
    let r : m ≤ run c bytes = run_longest c m bytes le2 p.1 in
    let F : Bool → Type 0 = λ t. suc m ≤ (if t then suc (run c bytes) else 0) in
    let s : suc m ≤ suc (run c bytes) = omega arith in
    subst F (sym p.0) s

-- Behind an opening quote: the bytes up to the closing one.

empty_take : (m : ℕ) (bytes : List ℕ) → m ≤ length bytes → length (take m bytes) == 0 ≡ true → m ≡ 0
empty_take zero bytes le h = refl
empty_take (suc m) [] le h = absurd (omega (arith, le))
empty_take (suc m) (b ∷ bytes) le h = let e = eqb-true (length (b ∷ take m bytes)) 0 h in absurd (omega (arith, e))

pub closing_at : (e : Bool) (n i m : ℕ) (bytes : List ℕ) → m ≤ length bytes → is_closed e (take m bytes) ≡ true → closing e n i bytes ≡ text_of (n + length (denoted_from e (take m bytes))) (i + m + 1)
closing_at true n i zero bytes le h = cc
closing_at false n i zero bytes le h = cc
closing_at e n i (suc m) [] le h = absurd (omega (arith, le))
closing_at true n i (suc m) (b ∷ bytes) le h =
    let p = and_parts (is_escape b) (is_closed false (take m bytes)) h in
    let le2 : m ≤ length bytes = omega arith in
    let r = closing_at false (n + 1) (i + 1) m bytes le2 p.1 in
    let sizes : (n + 1) + length (denoted_from false (take m bytes)) ≡ n + length (escaped_byte b ∷ denoted_from false (take m bytes)) = omega arith in
    let ends : (i + 1) + m + 1 ≡ i + suc m + 1 = omega arith in
    ap (λ t. if t then closing false (n + 1) (i + 1) bytes else Bad 0) p.0 ∙ (r ∙ (ap (λ a. text_of a ((i + 1) + m + 1)) sizes ∙ ap (λ z. text_of (n + length (escaped_byte b ∷ denoted_from false (take m bytes))) z) ends))
closing_at false n i (suc m) (b ∷ bytes) le h =
    let le3 : m ≤ length bytes = omega arith in
    quote_or (b == 34) refl (λ g. closing_at true n (i + 1) m bytes le3 g) (λ g. closing_at false (n + 1) (i + 1) m bytes le3 g) where
      le2 : m ≤ length bytes
      le2 = omega arith

      plain_or : (s : Bool) → (b == 92) ≡ s → (is_closed true (take m bytes) ≡ true → closing true n (i + 1) bytes ≡ text_of (n + length (denoted_from true (take m bytes))) ((i + 1) + m + 1)) → (is_closed false (take m bytes) ≡ true → closing false (n + 1) (i + 1) bytes ≡ text_of ((n + 1) + length (denoted_from false (take m bytes))) ((i + 1) + m + 1)) → (if s then is_closed true (take m bytes) else (is_plain b && is_closed false (take m bytes))) ≡ true → (if s then closing true n (i + 1) bytes else if is_plain b then closing false (n + 1) (i + 1) bytes else Bad 0) ≡ text_of (n + length (if s then denoted_from true (take m bytes) else b ∷ denoted_from false (take m bytes))) (i + suc m + 1)
      plain_or true e behind ahead g =
          let r = behind g in
          let ends : (i + 1) + m + 1 ≡ i + suc m + 1 = omega arith in
          r ∙ ap (λ z. text_of (n + length (denoted_from true (take m bytes))) z) ends
      plain_or false e behind ahead g =
          let p = and_parts (is_plain b) (is_closed false (take m bytes)) g in
          let r = ahead p.1 in
          let sizes : (n + 1) + length (denoted_from false (take m bytes)) ≡ n + length (b ∷ denoted_from false (take m bytes)) = omega arith in
          let ends : (i + 1) + m + 1 ≡ i + suc m + 1 = omega arith in
          ap (λ t. if t then closing false (n + 1) (i + 1) bytes else Bad 0) p.0 ∙ (r ∙ (ap (λ a. text_of a ((i + 1) + m + 1)) sizes ∙ ap (λ z. text_of (n + length (b ∷ denoted_from false (take m bytes))) z) ends))

      quote_or : (q : Bool) → (b == 34) ≡ q → (is_closed true (take m bytes) ≡ true → closing true n (i + 1) bytes ≡ text_of (n + length (denoted_from true (take m bytes))) ((i + 1) + m + 1)) → (is_closed false (take m bytes) ≡ true → closing false (n + 1) (i + 1) bytes ≡ text_of ((n + 1) + length (denoted_from false (take m bytes))) ((i + 1) + m + 1)) → closing false n i (b ∷ bytes) ≡ text_of (n + length (denoted_from false (b ∷ take m bytes))) (i + suc m + 1)
      quote_or true e behind ahead =
          let F : Bool → Type 0 = λ q. (if q then length (take m bytes) == 0 else if b == 92 then is_closed true (take m bytes) else (is_plain b && is_closed false (take m bytes))) ≡ true in
          let z : m ≡ 0 = empty_take m bytes le2 (subst F e h) in
          let G : Bool → Type 0 = λ q. (if q then text_of n (i + 2) else if b == 92 then closing true n (i + 1) bytes else if is_plain b then closing false (n + 1) (i + 1) bytes else Bad 0) ≡ text_of (n + length (if q then [] else if b == 92 then denoted_from true (take m bytes) else b ∷ denoted_from false (take m bytes))) (i + suc m + 1) in
          let sizes : n ≡ n + 0 = omega arith in
          let ends : i + 2 ≡ i + suc m + 1 = omega arith in
          subst G (sym e) (ap (λ a. text_of a (i + 2)) sizes ∙ ap (λ s. text_of (n + 0) s) ends)
      quote_or false e behind ahead =
          let F : Bool → Type 0 = λ q. (if q then length (take m bytes) == 0 else if b == 92 then is_closed true (take m bytes) else (is_plain b && is_closed false (take m bytes))) ≡ true in
          let G : Bool → Type 0 = λ q. (if q then text_of n (i + 2) else if b == 92 then closing true n (i + 1) bytes else if is_plain b then closing false (n + 1) (i + 1) bytes else Bad 0) ≡ text_of (n + length (if q then [] else if b == 92 then denoted_from true (take m bytes) else b ∷ denoted_from false (take m bytes))) (i + suc m + 1) in
          subst G (sym e) (plain_or (b == 92) refl behind ahead (subst F e h))

-- a text is closed by its first quote that isn't escaped
pub one_end : (e : Bool) (m n : ℕ) (bytes : List ℕ) → m ≤ length bytes → n ≤ length bytes → is_closed e (take m bytes) ≡ true → is_closed e (take n bytes) ≡ true → m ≡ n
one_end true zero n bytes p q h g = cc
one_end false zero n bytes p q h g = cc
one_end true (suc m) zero bytes p q h g = cc
one_end false (suc m) zero bytes p q h g = cc
one_end e (suc m) (suc n) [] p q h g = absurd (omega (arith, p))
one_end true (suc m) (suc n) (b ∷ bytes) p q h g =
    let p2 : m ≤ length bytes = omega arith in
    let q2 : n ≤ length bytes = omega arith in
    ap (λ k. suc k) (one_end false m n bytes p2 q2 (and_parts (is_escape b) (is_closed false (take m bytes)) h).1 (and_parts (is_escape b) (is_closed false (take n bytes)) g).1)
one_end false (suc m) (suc n) (b ∷ bytes) p q h g =
    let p3 : m ≤ length bytes = omega arith in
    let q3 : n ≤ length bytes = omega arith in
    ap (λ k. suc k) (quote_or (b == 34) (λ a c. one_end true m n bytes p3 q3 a c) (λ a c. one_end false m n bytes p3 q3 a c) h g) where
      p2 : m ≤ length bytes
      p2 = omega arith

      q2 : n ≤ length bytes
      q2 = omega arith

      plain_or : (s : Bool) → (is_closed true (take m bytes) ≡ true → is_closed true (take n bytes) ≡ true → m ≡ n) → (is_closed false (take m bytes) ≡ true → is_closed false (take n bytes) ≡ true → m ≡ n) → (if s then is_closed true (take m bytes) else (is_plain b && is_closed false (take m bytes))) ≡ true → (if s then is_closed true (take n bytes) else (is_plain b && is_closed false (take n bytes))) ≡ true → m ≡ n
      plain_or true behind ahead a c = behind a c
      plain_or false behind ahead a c = ahead (and_parts (is_plain b) (is_closed false (take m bytes)) a).1 (and_parts (is_plain b) (is_closed false (take n bytes)) c).1

      quote_or : (s : Bool) → (is_closed true (take m bytes) ≡ true → is_closed true (take n bytes) ≡ true → m ≡ n) → (is_closed false (take m bytes) ≡ true → is_closed false (take n bytes) ≡ true → m ≡ n) → (if s then length (take m bytes) == 0 else if b == 92 then is_closed true (take m bytes) else (is_plain b && is_closed false (take m bytes))) ≡ true → (if s then length (take n bytes) == 0 else if b == 92 then is_closed true (take n bytes) else (is_plain b && is_closed false (take n bytes))) ≡ true → m ≡ n
      quote_or true behind ahead a c = empty_take m bytes p2 a ∙ sym (empty_take n bytes q2 c)
      quote_or false behind ahead a c = plain_or (b == 92) behind ahead a c

-- either there is a closing quote, or the bytes are refused
pub closes_or_not : (e : Bool) (n i : ℕ) (bytes : List ℕ) → (closing e n i bytes ≡ Bad 0) ⊎ ((m : ℕ) × (m ≤ length bytes) × (is_closed e (take m bytes) ≡ true))
closes_or_not true n i [] = inl refl
closes_or_not false n i [] = inl refl
closes_or_not true n i (b ∷ bytes) = here (is_escape b) refl (closes_or_not false (n + 1) (i + 1) bytes) where
  here : (t : Bool) → is_escape b ≡ t → (closing false (n + 1) (i + 1) bytes ≡ Bad 0) ⊎ ((m : ℕ) × (m ≤ length bytes) × (is_closed false (take m bytes) ≡ true)) → ((if t then closing false (n + 1) (i + 1) bytes else Bad 0) ≡ Bad 0) ⊎ ((m : ℕ) × (m ≤ length (b ∷ bytes)) × (is_closed true (take m (b ∷ bytes)) ≡ true))
  here true e (inl r) = inl r
  here true e (inr (m, le, h)) = inr (suc m, omega arith, ap (λ t. t && is_closed false (take m bytes)) e ∙ h)
  here false e r = inl refl
closes_or_not false n i (b ∷ bytes) = quote_or (b == 34) refl (closes_or_not true n (i + 1) bytes) (closes_or_not false (n + 1) (i + 1) bytes) where
  plain : (t : Bool) → is_plain b ≡ t → (b == 34) ≡ false → (b == 92) ≡ false → (closing false (n + 1) (i + 1) bytes ≡ Bad 0) ⊎ ((m : ℕ) × (m ≤ length bytes) × (is_closed false (take m bytes) ≡ true)) → ((if t then closing false (n + 1) (i + 1) bytes else Bad 0) ≡ Bad 0) ⊎ ((m : ℕ) × (m ≤ length (b ∷ bytes)) × (is_closed false (take m (b ∷ bytes)) ≡ true))
  plain true e q s (inl r) = inl r
  plain true e q s (inr (m, le, h)) = inr (suc m, omega arith, ap (λ t. if t then length (take m bytes) == 0 else if b == 92 then is_closed true (take m bytes) else (is_plain b && is_closed false (take m bytes))) q ∙ (ap (λ t. if t then is_closed true (take m bytes) else (is_plain b && is_closed false (take m bytes))) s ∙ (ap (λ t. t && is_closed false (take m bytes)) e ∙ h)))
  plain false e q s r = inl refl

  slash : (s : Bool) → (b == 92) ≡ s → (b == 34) ≡ false → ((closing true n (i + 1) bytes ≡ Bad 0) ⊎ ((m : ℕ) × (m ≤ length bytes) × (is_closed true (take m bytes) ≡ true))) → ((closing false (n + 1) (i + 1) bytes ≡ Bad 0) ⊎ ((m : ℕ) × (m ≤ length bytes) × (is_closed false (take m bytes) ≡ true))) → ((if s then closing true n (i + 1) bytes else if is_plain b then closing false (n + 1) (i + 1) bytes else Bad 0) ≡ Bad 0) ⊎ ((m : ℕ) × (m ≤ length (b ∷ bytes)) × (is_closed false (take m (b ∷ bytes)) ≡ true))
  slash true s q behind ahead =
      elim behind [
        | inl r ↦ inl r
        | inr r ↦ inr (suc r.0, (let le : r.0 ≤ length bytes = r.1 in omega arith), ap (λ t. if t then length (take r.0 bytes) == 0 else if b == 92 then is_closed true (take r.0 bytes) else (is_plain b && is_closed false (take r.0 bytes))) q ∙ (ap (λ t. if t then is_closed true (take r.0 bytes) else (is_plain b && is_closed false (take r.0 bytes))) s ∙ r.2))
      ]
  slash false s q behind ahead = plain (is_plain b) refl q s ahead

  quote_or : (q : Bool) → (b == 34) ≡ q → ((closing true n (i + 1) bytes ≡ Bad 0) ⊎ ((m : ℕ) × (m ≤ length bytes) × (is_closed true (take m bytes) ≡ true))) → ((closing false (n + 1) (i + 1) bytes ≡ Bad 0) ⊎ ((m : ℕ) × (m ≤ length bytes) × (is_closed false (take m bytes) ≡ true))) → ((if q then text_of n (i + 2) else if b == 92 then closing true n (i + 1) bytes else if is_plain b then closing false (n + 1) (i + 1) bytes else Bad 0) ≡ Bad 0) ⊎ ((m : ℕ) × (m ≤ length (b ∷ bytes)) × (is_closed false (take m (b ∷ bytes)) ≡ true))
  quote_or true q behind ahead = inr (1, omega arith, ap (λ t. if t then length (take 0 bytes) == 0 else if b == 92 then is_closed true (take 0 bytes) else (is_plain b && is_closed false (take 0 bytes))) q)
  quote_or false q behind ahead = slash (b == 92) refl q behind ahead
