-- What is owed to two lists of marks, one behind the other.
use Rattle.std.proofs.Common.{◌≡◌, ℕ, zero, suc, ◌+◌, ◌-◌, ◌≤◌, max, List, [], ◌∷◌, ◌++◌, refl, ap, ◌∙◌, arith}
use Rattle.std.specs.Prelude.{⊤}
use Rattle.r3_model.specs.Held.{Mark, Said, Asked, owed, due, said_by, asked_by}

-- no mark is of more entries
abbrev pub AreWithin : ℕ → List Mark → Type 0
AreWithin most [] = ⊤
AreWithin most (Said bytes kept ∷ marks) = (kept ≤ most) × AreWithin most marks
AreWithin most (Asked kept ∷ marks) = (kept ≤ most) × AreWithin most marks

pub within-more : (most : ℕ) (marks more : List Mark) → AreWithin most marks → AreWithin most more → AreWithin most (marks ++ more)
within-more most [] more a b = b
within-more most (Said bytes kept ∷ marks) more a b = (a.0, within-more most marks more a.1 b)
within-more most (Asked kept ∷ marks) more a b = (a.0, within-more most marks more a.1 b)

pub within-first : (most : ℕ) (marks more : List Mark) → AreWithin most (marks ++ more) → AreWithin most marks
within-first most [] more w = tt
within-first most (Said bytes kept ∷ marks) more w = (w.0, within-first most marks more w.1)
within-first most (Asked kept ∷ marks) more w = (w.0, within-first most marks more w.1)

pub within-higher : (most higher : ℕ) (marks : List Mark) → most ≤ higher → AreWithin most marks → AreWithin higher marks
within-higher most higher [] le w = tt
within-higher most higher (Said bytes kept ∷ marks) le w = (omega (arith, le, w.0), within-higher most higher marks le w.1)
within-higher most higher (Asked kept ∷ marks) le w = (omega (arith, le, w.0), within-higher most higher marks le w.1)

-- ---- counts

pub said-more : (marks more : List Mark) → said_by (marks ++ more) ≡ said_by marks + said_by more
said-more [] more = omega arith
said-more (Said bytes kept ∷ marks) more = omega (arith, said-more marks more)
said-more (Asked kept ∷ marks) more = said-more marks more

pub asked-more : (marks more : List Mark) → asked_by (marks ++ more) ≡ asked_by marks + asked_by more
asked-more [] more = omega arith
asked-more (Said bytes kept ∷ marks) more = asked-more marks more
asked-more (Asked kept ∷ marks) more = omega (arith, asked-more marks more)

-- ---- what is owed

due-within : (n kept most : ℕ) → kept ≤ most → due n kept ≤ most
due-within zero kept most le = omega arith
due-within (suc n) kept most le = le

pub owed-within : (most : ℕ) (marks : List Mark) (n m : ℕ) → AreWithin most marks → owed marks n m ≤ most
owed-within most [] n m w = omega arith
owed-within most (Said bytes kept ∷ marks) n m w = omega (arith, due-within n kept most w.0, owed-within most marks (n - bytes) m w.1)
owed-within most (Asked kept ∷ marks) n m w = omega (arith, due-within m kept most w.0, owed-within most marks n (m - 1) w.1)

owed-none : (marks : List Mark) → owed marks 0 0 ≡ 0
owed-none [] = refl
owed-none (Said bytes kept ∷ marks) =
    let e : 0 - bytes ≡ 0 = omega arith in
    ap (λ (k : ℕ). max 0 (owed marks k 0)) e ∙ ap (λ (k : ℕ). max 0 k) (owed-none marks)
owed-none (Asked kept ∷ marks) = ap (λ (k : ℕ). max 0 k) (owed-none marks)

same-owed : (marks : List Mark) (n n' m m' : ℕ) → n ≡ n' → m ≡ m' → owed marks n m ≡ owed marks n' m'
same-owed marks n n' m m' p q = ap (λ (k : ℕ). owed marks k m) p ∙ ap (λ (k : ℕ). owed marks n' k) q

pub owed-more : (marks more : List Mark) (n m : ℕ) → owed (marks ++ more) n m ≡ max (owed marks n m) (owed more (n - said_by marks) (m - asked_by marks))
owed-more [] more n m =
    let e : owed more n m ≡ owed more (n - 0) (m - 0) = same-owed more n (n - 0) m (m - 0) (omega arith) (omega arith) in
    omega (arith, e)
owed-more (Said bytes kept ∷ marks) more n m =
    let e : owed more (n - bytes - said_by marks) (m - asked_by marks) ≡ owed more (n - (bytes + said_by marks)) (m - asked_by marks) =
    same-owed more (n - bytes - said_by marks) (n - (bytes + said_by marks)) (m - asked_by marks) (m - asked_by marks) (omega arith) refl in
    omega (arith, e, owed-more marks more (n - bytes) m)
owed-more (Asked kept ∷ marks) more n m =
    let e : owed more (n - said_by marks) (m - 1 - asked_by marks) ≡ owed more (n - said_by marks) (m - (1 + asked_by marks)) =
    same-owed more (n - said_by marks) (n - said_by marks) (m - 1 - asked_by marks) (m - (1 + asked_by marks)) refl (omega arith) in
    omega (arith, e, owed-more marks more n (m - 1))

-- what comes behind all that was said and asked isn't owed yet
pub owed-first : (marks more : List Mark) (n m : ℕ) → n ≤ said_by marks → m ≤ asked_by marks → owed (marks ++ more) n m ≡ owed marks n m
owed-first marks more n m said asked =
    let e : owed more (n - said_by marks) (m - asked_by marks) ≡ owed more 0 0 =
    same-owed more (n - said_by marks) 0 (m - asked_by marks) 0 (omega (arith, said)) (omega (arith, asked)) in
    omega (arith, e, owed-none more, owed-more marks more n m)

due-higher : (m higher kept : ℕ) → m ≤ higher → due m kept ≤ due higher kept
due-higher zero higher kept le = omega arith
due-higher (suc m) zero kept le = absurd (omega (arith, le))
due-higher (suc m) (suc higher) kept le = omega arith

-- with more calls more is owed
pub owed-higher : (marks : List Mark) (n m higher : ℕ) → m ≤ higher → owed marks n m ≤ owed marks n higher
owed-higher [] n m higher le = omega arith
owed-higher (Said bytes kept ∷ marks) n m higher le = omega (arith, owed-higher marks (n - bytes) m higher le)
owed-higher (Asked kept ∷ marks) n m higher le =
    omega (arith, due-higher m higher kept le, owed-higher marks n (m - 1) (higher - 1) (omega (arith, le)))
