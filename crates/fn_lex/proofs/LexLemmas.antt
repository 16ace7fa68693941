-- One piece more of a text, and: the tokens of a text are determined.
use Rattle.std.proofs.Common.{◌≡◌, ℕ, ◌+◌, List, [], ◌∷◌, ◌++◌, drop, Option, Some, None, refl, sym, ap, ◌∙◌, subst, append-nil, append_assoc}
use Rattle.fn_lex.specs.declared.front.Piece.{Piece}
use Rattle.fn_lex.specs.declared.front.Piece.TheVariants.{End, Gap, Token as Taken, Bad}
use Rattle.fn_lex.specs.declared.span.TokenKind.{TokenKind}
use Rattle.fn_lex.specs.declared.span.Token.{Token}
use Rattle.fn_lex.specs.Lexed.{Lexed, ended, refused, passed, taken, Stands}
use Rattle.fn_lex.proofs.FrontLemmas.{stands_once}

-- what the text has from here on is what the whole has, behind the tokens so far
abbrev pub GoesOn : List ℕ → List Token → ℕ → List ℕ → Type 0
GoesOn text front at rest = (ts : List Token) (bad : Option ℕ) → Lexed at rest ts bad → Lexed 0 text (front ++ ts) bad

whole_front : (text : List ℕ) (front : List Token) (bad : Option ℕ) → Lexed 0 text (front ++ []) bad → Lexed 0 text front bad
whole_front text front bad l = let F : List Token → Type 0 = λ ts. Lexed 0 text ts bad in subst F (append-nil front) l

pub goes_end : (text : List ℕ) (front : List Token) (at : ℕ) (rest : List ℕ) → GoesOn text front at rest → Stands rest End → Lexed 0 text front None
goes_end text front at rest g e = whole_front text front None (g [] None (ended e))

pub goes_bad : (text : List ℕ) (front : List Token) (at : ℕ) (rest : List ℕ) (n : ℕ) → GoesOn text front at rest → Stands rest (Bad n) → Lexed 0 text front (Some (at + n))
goes_bad text front at rest n g e = whole_front text front (Some (at + n)) (g [] (Some (at + n)) (refused n e))

pub goes_gap : (text : List ℕ) (front : List Token) (at : ℕ) (rest left : List ℕ) (n : ℕ) → GoesOn text front at rest → Stands rest (Gap n) → left ≡ drop n rest → GoesOn text front (at + n) left
goes_gap text front at rest left n g e is ts bad l = let F : List ℕ → Type 0 = λ left. Lexed (at + n) left ts bad in g ts bad (passed n e (subst F is l))

pub goes_token : (text : List ℕ) (front more : List Token) (at : ℕ) (rest left : List ℕ) (k : TokenKind) (n : ℕ) → GoesOn text front at rest → Stands rest (Taken k n) → left ≡ drop n rest → more ≡ front ++ record { kind = k; from = at; to = at + n } ∷ [] → GoesOn text more (at + n) left
goes_token text front more at rest left k n g e is all ts bad l =
    let F : List ℕ → Type 0 = λ left. Lexed (at + n) left ts bad in
    let t : Token = record { kind = k; from = at; to = at + n } in
    let G : List Token → Type 0 = λ ts. Lexed 0 text ts bad in
    let same : front ++ t ∷ ts ≡ more ++ ts = sym (ap (λ m. m ++ ts) all ∙ append_assoc front (t ∷ []) ts) in
    subst G same (g (t ∷ ts) bad (taken k n e (subst F is l)))

-- a text has one list of tokens, and one first bad place or none
pub one_reading : {at : ℕ} {bytes : List ℕ} {ts : List Token} {bad : Option ℕ} → Lexed at bytes ts bad → (us : List Token) (worse : Option ℕ) → Lexed at bytes us worse → (ts ≡ us) × (bad ≡ worse)
one_reading (ended e) us w (ended f) = (refl, refl)
one_reading (ended {at} {bytes} e) us w (refused m f) = let no : End ≡ Bad m = stands_once bytes End (Bad m) e f in cc
one_reading (ended {at} {bytes} e) us w (passed m f r) = let no : End ≡ Gap m = stands_once bytes End (Gap m) e f in cc
one_reading (ended {at} {bytes} e) us w (taken k m f r) = let no : End ≡ Taken k m = stands_once bytes End (Taken k m) e f in cc
one_reading (refused {at} {bytes} n e) us w (ended f) = let no : Bad n ≡ End = stands_once bytes (Bad n) End e f in cc
one_reading (refused {at} {bytes} n e) us w (refused m f) = let same : n ≡ m = cc (stands_once bytes (Bad n) (Bad m) e f) in (refl, ap (λ n. Some (at + n)) same)
one_reading (refused {at} {bytes} n e) us w (passed m f r) = let no : Bad n ≡ Gap m = stands_once bytes (Bad n) (Gap m) e f in cc
one_reading (refused {at} {bytes} n e) us w (taken k m f r) = let no : Bad n ≡ Taken k m = stands_once bytes (Bad n) (Taken k m) e f in cc
one_reading (passed {at} {bytes} n e l) us w (ended f) = let no : Gap n ≡ End = stands_once bytes (Gap n) End e f in cc
one_reading (passed {at} {bytes} n e l) us w (refused m f) = let no : Gap n ≡ Bad m = stands_once bytes (Gap n) (Bad m) e f in cc
one_reading (passed {at} {bytes} n e l) us w (passed m f r) = let same : m ≡ n = cc (stands_once bytes (Gap n) (Gap m) e f) in let F : ℕ → Type 0 = λ n. Lexed (at + n) (drop n bytes) us w in one_reading l us w (subst F same r)
one_reading (passed {at} {bytes} n e l) us w (taken k m f r) = let no : Gap n ≡ Taken k m = stands_once bytes (Gap n) (Taken k m) e f in cc
one_reading (taken {at} {bytes} k n e l) us w (ended f) = let no : Taken k n ≡ End = stands_once bytes (Taken k n) End e f in cc
one_reading (taken {at} {bytes} k n e l) us w (refused m f) = let no : Taken k n ≡ Bad m = stands_once bytes (Taken k n) (Bad m) e f in cc
one_reading (taken {at} {bytes} k n e l) us w (passed m f r) = let no : Taken k n ≡ Gap m = stands_once bytes (Taken k n) (Gap m) e f in cc
one_reading (taken {at} {bytes} k n e l) us w (taken {ts = vs} j m f r) =
    let both : Taken k n ≡ Taken j m = stands_once bytes (Taken k n) (Taken j m) e f in
    let same : m ≡ n = cc in
    let kind : k ≡ j = cc in
    let F : ℕ → Type 0 = λ n. Lexed (at + n) (drop n bytes) vs w in
    let p = one_reading l vs w (subst F same r) in
    (cc (p.0, same, kind, ap (λ n. at + n) same), p.1)
