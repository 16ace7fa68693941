-- Pieces and lines of bytes that are passed one by one.
use Rattle.std.proofs.Common.{◌≡◌, ℕ, Bool, true, false, cond, ◌==◌, List, [], ◌∷◌, ◌++◌, filter, refl, sym, ap, ◌∙◌, append_assoc}
use Rattle.std.proofs.lemmas.List.{append-nil}
use Rattle.r3_script.specs.Lines.{Text, with_first, pieces, but_last, is_line, lines_of, ended_lines, Passed}
use Rattle.r3_script.specs.Piece.{with_front, Partial}

with_first_some : (b : ℕ) (xs : List Text) → (p : Text) × (ps : List Text) × (with_first b xs ≡ p ∷ ps)
with_first_some b [] = (b ∷ [], [], refl)
with_first_some b (x ∷ xs) = (b ∷ x, xs, refl)

cond_some : (t : Bool) (b : ℕ) (xs : List Text) → (p : Text) × (ps : List Text) × (cond t ([] ∷ xs) (with_first b xs) ≡ p ∷ ps)
cond_some true b xs = ([], xs, refl)
cond_some false b xs = with_first_some b xs

-- there is a piece
pub pieces_some : (text : Text) → (p : Text) × (ps : List Text) × (pieces text ≡ p ∷ ps)
pieces_some [] = ([], [], refl)
pieces_some (b ∷ bs) = cond_some (b == 10) b (pieces bs)

front_none : (xs : List Text) (p : Text) (ps : List Text) → xs ≡ p ∷ ps → xs ≡ with_front [] xs
front_none [] p ps e = absurd (cc)
front_none (x ∷ xs) p ps e = refl

pub partial_none : Partial []
partial_none rest = let s = pieces_some rest in front_none (pieces rest) s.0 s.1 s.2

front_more : (text : Text) (b : ℕ) (xs : List Text) → with_front text (with_first b xs) ≡ with_front (text ++ b ∷ []) xs
front_more text b [] = refl
front_more text b (p ∷ ps) = ap (λ (x : Text). x ∷ ps) (sym (append_assoc text (b ∷ []) p))

pub partial_more : (text : Text) (b : ℕ) → (b == 10) ≡ false → Partial text → Partial (text ++ b ∷ [])
partial_more text b e h rest =
    ap pieces (append_assoc text (b ∷ []) rest)
    ∙ h (b ∷ rest)
    ∙ ap (λ (t : Bool). with_front text (cond t ([] ∷ pieces rest) (with_first b (pieces rest)))) e
    ∙ front_more text b (pieces rest)

-- the pieces of a text without a newline, a newline, and what follows
pieces_cut : (text rest : Text) → Partial text → pieces (text ++ 10 ∷ rest) ≡ text ∷ pieces rest
pieces_cut text rest h = h (10 ∷ rest) ∙ ap (λ (x : Text). x ∷ pieces rest) (append-nil text)

-- the piece, if it isn't blank
abbrev pub kept : Text → List Text
kept text = cond (is_line text) (text ∷ []) []

filter_first : (text : Text) (xs : List Text) → filter is_line (text ∷ xs) ≡ kept text ++ filter is_line xs
filter_first text xs = first (is_line text)
  where
    first : (t : Bool) → cond t (text ∷ filter is_line xs) (filter is_line xs) ≡ cond t (text ∷ []) [] ++ filter is_line xs
    first true = refl
    first false = refl

but_last_more : (text : Text) (xs : List Text) (p : Text) (ps : List Text) → xs ≡ p ∷ ps → but_last (text ∷ xs) ≡ text ∷ but_last xs
but_last_more text [] p ps e = absurd (cc)
but_last_more text (x ∷ xs) p ps e = refl

lines_cut : (text rest : Text) → Partial text → lines_of (text ++ 10 ∷ rest) ≡ kept text ++ lines_of rest
lines_cut text rest h = ap (λ (xs : List Text). filter is_line xs) (pieces_cut text rest h) ∙ filter_first text (pieces rest)

ended_cut : (text rest : Text) → Partial text → ended_lines (text ++ 10 ∷ rest) ≡ kept text ++ ended_lines rest
ended_cut text rest h =
    let s = pieces_some rest in
    ap (λ (xs : List Text). filter is_line (but_last xs)) (pieces_cut text rest h)
    ∙ ap (λ (xs : List Text). filter is_line xs) (but_last_more text (pieces rest) s.0 s.1 s.2)
    ∙ filter_first text (but_last (pieces rest))

-- a newline behind a piece: the piece, where it isn't blank, is one line more
pub passed_cut : (past text : Text) (handed : List Text) → Passed past handed → Partial text → Passed ((past ++ text) ++ 10 ∷ []) (handed ++ kept text)
passed_cut past text handed p h =
    let joined : (rest : Text) → ((past ++ text) ++ 10 ∷ []) ++ rest ≡ past ++ (text ++ 10 ∷ rest) = λ rest. append_assoc (past ++ text) (10 ∷ []) rest ∙ append_assoc past text (10 ∷ rest) in
    record {
      whole = λ rest. ap lines_of (joined rest) ∙ p.whole (text ++ 10 ∷ rest) ∙ ap (λ (xs : List Text). handed ++ xs) (lines_cut text rest h) ∙ sym (append_assoc handed (kept text) (lines_of rest));
      ended = λ rest. ap ended_lines (joined rest) ∙ p.ended (text ++ 10 ∷ rest) ∙ ap (λ (xs : List Text). handed ++ xs) (ended_cut text rest h) ∙ sym (append_assoc handed (kept text) (ended_lines rest));
    }

pieces_one : (text : Text) → Partial text → pieces text ≡ text ∷ []
pieces_one text h = ap pieces (sym (append-nil text)) ∙ h [] ∙ ap (λ (x : Text). x ∷ []) (append-nil text)

-- no line ends in the piece
pub ended_here : (past text : Text) (handed : List Text) → Passed past handed → Partial text → handed ≡ ended_lines (past ++ text)
ended_here past text handed p h = sym (p.ended text ∙ ap (λ (xs : List Text). handed ++ filter is_line (but_last xs)) (pieces_one text h) ∙ append-nil handed)

-- at the end the piece, where it isn't blank, is the last line
pub lines_here : (past text : Text) (handed : List Text) → Passed past handed → Partial text → handed ++ kept text ≡ lines_of (past ++ text)
lines_here past text handed p h = sym (p.whole text ∙ ap (λ (xs : List Text). handed ++ filter is_line xs) (pieces_one text h))

-- the lines of bytes that stop between two lines
pub passed_lines : (past : Text) (handed : List Text) → Passed past handed → handed ≡ lines_of past
passed_lines past handed p = sym (ap lines_of (sym (append-nil past)) ∙ p.whole [] ∙ append-nil handed)
