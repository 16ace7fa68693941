-- The tokens of a text, and its first bad place.
use Rattle.std.specs.Prelude.{◌≡◌, ℕ, ◌+◌, ◌≤◌, ◌<◌, ◌==◌, List, [], ◌∷◌, drop, take, length, Option, Some, None, Bool, true, false, IsTrue, MatchBool, slice_range}
use Rattle.fn_lex.specs.declared.front.Piece.{Piece}
use Rattle.fn_lex.specs.declared.front.Piece.TheVariants.{End, Gap, Token as Taken, Bad}
use Rattle.fn_lex.specs.declared.span.TokenKind.{TokenKind}
use Rattle.fn_lex.specs.declared.span.Token.{Token}
use Rattle.fn_lex.specs.Bytes.{is_blank}
use Rattle.fn_lex.specs.Lexemes.{is_lexeme, is_within}
use Rattle.fn_lex.specs.Pieces.{comment_of}

-- the first n bytes are a lexeme of kind k, and no longer front is a lexeme of any kind
pub record IsLongest (k : TokenKind) (n : ℕ) (bytes : List ℕ) : Type 0 where
  pub fits : n ≤ length bytes
  pub is : IsTrue (is_lexeme k (take n bytes))
  pub longest : (j : TokenKind) (m : ℕ) → m ≤ length bytes → IsTrue (is_lexeme j (take m bytes)) → m ≤ n

-- the longest lexeme at the front is taken, if it keeps its limits
abbrev pub IsTokenHere : List ℕ → Piece → Type 0
IsTokenHere bytes End = ⊥
IsTokenHere bytes (Gap n) = ⊥
IsTokenHere bytes (Taken k n) = IsLongest k n bytes × IsTrue (is_within k (take n bytes))
IsTokenHere bytes (Bad n) = (n ≡ 0) × ((k : TokenKind) (m : ℕ) → IsLongest k m bytes → IsTrue (is_within k (take m bytes)) → ⊥)

-- A blank, a comment, a token or a bad place stands at the front. A comment begins with `#`.
abbrev pub Stands : List ℕ → Piece → Type 0
Stands [] p = p ≡ End
Stands (b ∷ rest) p = MatchBool (is_blank b) (p ≡ Gap 1) (MatchBool (b == 35) (p ≡ comment_of rest) (IsTokenHere (b ∷ rest) p))

-- From this place on the text has these tokens, up to its end or to the bad place.
pub data Lexed : ℕ → List ℕ → List Token → Option ℕ → Type 0 where
  ended : {at : ℕ} {bytes : List ℕ} → Stands bytes End → Lexed at bytes [] None
  refused : {at : ℕ} {bytes : List ℕ} (n : ℕ) → Stands bytes (Bad n) → Lexed at bytes [] (Some (at + n))
  passed : {at : ℕ} {bytes : List ℕ} {ts : List Token} {bad : Option ℕ} (n : ℕ) → Stands bytes (Gap n) → Lexed (at + n) (drop n bytes) ts bad → Lexed at bytes ts bad
  taken : {at : ℕ} {bytes : List ℕ} {ts : List Token} {bad : Option ℕ} (k : TokenKind) (n : ℕ) → Stands bytes (Taken k n) → Lexed (at + n) (drop n bytes) ts bad → Lexed at bytes (record { kind = k; from = at; to = at + n } ∷ ts) bad

-- The token is the slice of its span: the longest lexeme at its place, within its limits.
pub record IsSlice (text : List ℕ) (t : Token) : Type 0 where
  pub some : t.from < t.to
  pub fits : t.to ≤ length text
  pub is : IsTrue (is_lexeme t.kind (slice_range text t.from t.to))
  pub within : IsTrue (is_within t.kind (slice_range text t.from t.to))
  pub longest : (j : TokenKind) (to : ℕ) → t.from ≤ to → to ≤ length text → IsTrue (is_lexeme j (slice_range text t.from to)) → to ≤ t.to

-- each token begins where the one before it ends, or later
abbrev pub AreInOrder : ℕ → List Token → Type 0
AreInOrder at [] = Unit {0}
AreInOrder at (t ∷ ts) = (at ≤ t.from) × AreInOrder t.to ts
