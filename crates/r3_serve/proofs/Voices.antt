-- What is said and owed by a call that says each reply, and by one that says none.
use Rattle.std.proofs.Common.{◌≡◌, ℕ, ◌+◌, ◌-◌, max, List, [], ◌∷◌, ◌++◌, length, refl, ap, ◌∙◌, arith, append-nil}
use Rattle.std.proofs.lemmas.List.Concat.{flat_map-append}
use Rattle.r3_model.specs.Language.{Text}
use Rattle.r3_model.specs.Event.{Reply}
use Rattle.r3_model.specs.Held.{Mark, Said, Asked, owed, due, said_by, asked_by}
use Rattle.r3_model.specs.Replies.{reply_text}
use Rattle.r3_serve.specs.Held.{asked_marks}
use Rattle.r3_serve.specs.Served.{Voice, Loud, Quiet, said_of, marks_of}
use Rattle.r3_serve.proofs.Owing.{AreWithin}

-- ---- the marks of calls alone

asked_marks-more : (marks more : List Mark) → asked_marks (marks ++ more) ≡ asked_marks marks ++ asked_marks more
asked_marks-more [] more = refl
asked_marks-more (Said bytes kept ∷ marks) more = asked_marks-more marks more
asked_marks-more (Asked kept ∷ marks) more = ap (λ (ms : List Mark). Asked kept ∷ ms) (asked_marks-more marks more)

asked_marks-asked : (marks : List Mark) → asked_by (asked_marks marks) ≡ asked_by marks
asked_marks-asked [] = refl
asked_marks-asked (Said bytes kept ∷ marks) = asked_marks-asked marks
asked_marks-asked (Asked kept ∷ marks) = ap (λ (k : ℕ). 1 + k) (asked_marks-asked marks)

asked_marks-said : (marks : List Mark) → said_by (asked_marks marks) ≡ 0
asked_marks-said [] = refl
asked_marks-said (Said bytes kept ∷ marks) = asked_marks-said marks
asked_marks-said (Asked kept ∷ marks) = asked_marks-said marks

asked_marks-within : (most : ℕ) (marks : List Mark) → AreWithin most marks → AreWithin most (asked_marks marks)
asked_marks-within most [] w = tt
asked_marks-within most (Said bytes kept ∷ marks) w = asked_marks-within most marks w.1
asked_marks-within most (Asked kept ∷ marks) w = (w.0, asked_marks-within most marks w.1)

asked_marks-owed : (marks : List Mark) (m : ℕ) → owed (asked_marks marks) 0 m ≡ owed marks 0 m
asked_marks-owed [] m = refl
asked_marks-owed (Said bytes kept ∷ marks) m =
    let e : 0 - bytes ≡ 0 = omega arith in
    let same : owed marks (0 - bytes) m ≡ owed marks 0 m = ap (λ (k : ℕ). owed marks k m) e in
    omega (arith, same, asked_marks-owed marks m)
asked_marks-owed (Asked kept ∷ marks) m = ap (λ (k : ℕ). max (due m kept) k) (asked_marks-owed marks (m - 1))

-- ---- either

pub marks-more : (v : Voice) (marks more : List Mark) → marks_of v (marks ++ more) ≡ marks_of v marks ++ marks_of v more
marks-more Loud marks more = refl
marks-more Quiet marks more = asked_marks-more marks more

pub marks-none : (v : Voice) → marks_of v [] ≡ []
marks-none Loud = refl
marks-none Quiet = refl

pub marks-asked : (v : Voice) (marks : List Mark) → asked_by (marks_of v marks) ≡ asked_by marks
marks-asked Loud marks = refl
marks-asked Quiet marks = asked_marks-asked marks

pub marks-within : (v : Voice) (most : ℕ) (marks : List Mark) → AreWithin most marks → AreWithin most (marks_of v marks)
marks-within Loud most marks w = w
marks-within Quiet most marks w = asked_marks-within most marks w

pub marks-owed : (v : Voice) (marks : List Mark) (m : ℕ) → owed (marks_of v marks) 0 m ≡ owed marks 0 m
marks-owed Loud marks m = refl
marks-owed Quiet marks m = asked_marks-owed marks m

pub marks-said : (v : Voice) (marks : List Mark) (replies : List Reply) → said_by marks ≡ length (said_of Loud replies) → said_by (marks_of v marks) ≡ length (said_of v replies)
marks-said Loud marks replies is = is
marks-said Quiet marks replies is = asked_marks-said marks

pub said-then : (replies : List Reply) (reply : Reply) → said_of Loud (replies ++ reply ∷ []) ≡ said_of Loud replies ++ reply_text reply
said-then replies reply =
    let none : reply_text reply ++ [] ≡ reply_text reply = append-nil (reply_text reply) in
    flat_map-append reply_text replies (reply ∷ []) ∙ ap (λ (t : Text). said_of Loud replies ++ t) none

pub said-none : (v : Voice) → said_of v [] ≡ []
said-none Loud = refl
said-none Quiet = refl
