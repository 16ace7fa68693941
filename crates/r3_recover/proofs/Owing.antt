-- What is owed to calls that were asked.
use Rattle.std.proofs.Common.{◌≡◌, ℕ, zero, suc, ◌+◌, ◌-◌, ◌≤◌, max, List, [], ◌∷◌, ◌++◌, length, refl, sym, ap, ◌∙◌, arith}
use Rattle.r3_entry.specs.declared.entry.Entry.{Entry}
use Rattle.r3_model.specs.Event.{Call}
use Rattle.r3_model.specs.Held.{Mark, Said, Asked, owed, due, asked_by}
use Rattle.r3_recover.specs.Kept.{settled_by, marks_on}
use Rattle.r3_recover.specs.Rounds.{AreWithin}

due-within : (n kept most : ℕ) → kept ≤ most → due n kept ≤ most
due-within zero kept most le = omega arith
due-within (suc n) kept most le = le

pub owed-within : (most : ℕ) (marks : List Mark) (n m : ℕ) → AreWithin most marks → owed marks n m ≤ most
owed-within most [] n m w = omega arith
owed-within most (Said bytes kept ∷ marks) n m w = omega (arith, due-within n kept most w.0, owed-within most marks (n - bytes) m w.1)
owed-within most (Asked kept ∷ marks) n m w = omega (arith, due-within m kept most w.0, owed-within most marks n (m - 1) w.1)

-- what comes after the calls that were asked isn't owed yet
owed-none : (marks : List Mark) → owed marks 0 0 ≡ 0
owed-none [] = refl
owed-none (Said bytes kept ∷ marks) =
    let e : 0 - bytes ≡ 0 = omega arith in
    ap (λ (k : ℕ). max 0 (owed marks k 0)) e ∙ ap (λ (k : ℕ). max 0 k) (owed-none marks)
owed-none (Asked kept ∷ marks) = ap (λ (k : ℕ). max 0 k) (owed-none marks)

pub owed-first : (marks more : List Mark) (m : ℕ) → m ≤ asked_by marks → owed (marks ++ more) 0 m ≡ owed marks 0 m
owed-first [] more m le =
    let e : m ≡ 0 = omega (arith, le) in
    ap (λ (k : ℕ). owed more 0 k) e ∙ owed-none more
owed-first (Said bytes kept ∷ marks) more m le =
    let e : 0 - bytes ≡ 0 = omega arith in
    ap (λ (k : ℕ). max 0 (owed (marks ++ more) k m)) e
    ∙ ap (λ (k : ℕ). max 0 k) (owed-first marks more m le)
    ∙ sym (ap (λ (k : ℕ). max 0 (owed marks k m)) e)
owed-first (Asked kept ∷ marks) more m le =
    ap (λ (k : ℕ). max (due m kept) k) (owed-first marks more (m - 1) (omega (arith, le)))

pub within-more : (most : ℕ) (marks more : List Mark) → AreWithin most marks → AreWithin most more → AreWithin most (marks ++ more)
within-more most [] more a b = b
within-more most (Said bytes kept ∷ marks) more a b = (a.0, within-more most marks more a.1 b)
within-more most (Asked kept ∷ marks) more a b = (a.0, within-more most marks more a.1 b)

pub within-higher : (most higher : ℕ) (marks : List Mark) → most ≤ higher → AreWithin most marks → AreWithin higher marks
within-higher most higher [] le w = tt
within-higher most higher (Said bytes kept ∷ marks) le w = (omega (arith, le, w.0), within-higher most higher marks le w.1)
within-higher most higher (Asked kept ∷ marks) le w = (omega (arith, le, w.0), within-higher most higher marks le w.1)

pub within-on : (h : List Entry) (calls : List Call) → AreWithin (length h) (marks_on h calls)
within-on h [] = tt
within-on h (c ∷ cs) = (omega arith, within-on h cs)

pub asked-more : (marks more : List Mark) → asked_by (marks ++ more) ≡ asked_by marks + asked_by more
asked-more [] more = omega arith
asked-more (Said bytes kept ∷ marks) more = asked-more marks more
asked-more (Asked kept ∷ marks) more = omega (arith, asked-more marks more)

pub asked-on : (h : List Entry) (calls : List Call) → asked_by (marks_on h calls) ≡ length calls
asked-on h [] = refl
asked-on h (c ∷ cs) = omega (arith, asked-on h cs)

pub settled-more : (settled : ℕ) (marks more : List Mark) → settled_by settled (marks ++ more) ≡ settled_by (settled_by settled marks) more
settled-more settled [] more = refl
settled-more settled (Said bytes kept ∷ marks) more = settled-more settled marks more
settled-more settled (Asked kept ∷ marks) more = settled-more kept marks more
