-- What is owed by fewer marks, and by a reply of which no byte was said.
use Rattle.std.proofs.Common.{◌≡◌, ℕ, suc, zero, ◌-◌, ◌≤◌, List, [], ◌∷◌, ◌++◌, ap, arith}
use Rattle.std.specs.Prelude.{max}
use Rattle.std.proofs.Math.Nat.{le-max_left, le-max_right, max-le}
use Rattle.r3_model.specs.Held.{Mark, Said, Asked, said_by, due, owed}
use Rattle.r3_serve.specs.Held.{asked_marks}

pub owed-fewer : (marks more : List Mark) (n m : ℕ) → owed marks n m ≤ owed (marks ++ more) n m
owed-fewer [] more n m = omega arith
owed-fewer (Said bytes kept ∷ marks) more n m =
    let rest = owed-fewer marks more (n - bytes) m in
    let all : ℕ = owed (marks ++ more) (n - bytes) m in
    max-le (le-max_left (due n kept) all) (omega (arith, rest, le-max_right (due n kept) all))
owed-fewer (Asked kept ∷ marks) more n m =
    let rest = owed-fewer marks more n (m - 1) in
    let all : ℕ = owed (marks ++ more) n (m - 1) in
    max-le (le-max_left (due m kept) all) (omega (arith, rest, le-max_right (due m kept) all))

-- a reply behind all bytes that were said owes nothing
pub owed-unsaid : (marks : List Mark) (bytes kept n m : ℕ) → n ≤ said_by marks → owed (marks ++ Said bytes kept ∷ []) n m ≤ owed marks n m
owed-unsaid [] bytes kept zero m le = omega arith
owed-unsaid [] bytes kept (suc n) m le = absurd (omega (arith, le))
owed-unsaid (Said b k ∷ marks) bytes kept n m le =
    let rest = owed-unsaid marks bytes kept (n - b) m (omega (arith, le)) in
    let old : ℕ = owed marks (n - b) m in
    max-le (le-max_left (due n k) old) (omega (arith, rest, le-max_right (due n k) old))
owed-unsaid (Asked k ∷ marks) bytes kept n m le =
    let rest = owed-unsaid marks bytes kept n (m - 1) le in
    let old : ℕ = owed marks n (m - 1) in
    max-le (le-max_left (due m k) old) (omega (arith, rest, le-max_right (due m k) old))

pub held-less : (first a b most : ℕ) → a ≤ b → max first b ≤ most → max first a ≤ most
held-less first a b most le all = max-le (omega (arith, all, le-max_left first b)) (omega (arith, le, all, le-max_right first b))

pub said-more : (a b : List Mark) → said_by a ≤ said_by (a ++ b)
said-more [] b = omega arith
said-more (Said bytes kept ∷ a) b = omega (arith, said-more a b)
said-more (Asked kept ∷ a) b = said-more a b

due-lower : (n k kept : ℕ) → n ≤ k → due n kept ≤ due k kept
due-lower zero k kept le = omega arith
due-lower (suc n) zero kept le = absurd (omega (arith, le))
due-lower (suc n) (suc k) kept le = omega arith

-- fewer bytes and calls owe no more
pub owed-lower : (marks : List Mark) (n k m j : ℕ) → n ≤ k → m ≤ j → owed marks n m ≤ owed marks k j
owed-lower [] n k m j le less = omega arith
owed-lower (Said bytes kept ∷ marks) n k m j le less =
    let rest = owed-lower marks (n - bytes) (k - bytes) m j (omega (arith, le)) less in
    let all : ℕ = owed marks (k - bytes) j in
    max-le (omega (arith, due-lower n k kept le, le-max_left (due k kept) all)) (omega (arith, rest, le-max_right (due k kept) all))
owed-lower (Asked kept ∷ marks) n k m j le less =
    let rest = owed-lower marks n k (m - 1) (j - 1) le (omega (arith, less)) in
    let all : ℕ = owed marks k (j - 1) in
    max-le (omega (arith, due-lower m j kept less, le-max_left (due j kept) all)) (omega (arith, rest, le-max_right (due j kept) all))

-- where no reply is said, the marks of calls are all that is owed
pub owed-quiet : (marks : List Mark) (n m : ℕ) → owed marks 0 m ≤ owed (asked_marks marks) n m
owed-quiet [] n m = omega arith
owed-quiet (Said bytes kept ∷ marks) n m =
    let none : 0 - bytes ≡ 0 = omega arith in
    let same : owed marks (0 - bytes) m ≡ owed marks 0 m = ap (λ (k : ℕ). owed marks k m) none in
    max-le (omega arith) (omega (arith, same, owed-quiet marks n m))
owed-quiet (Asked kept ∷ marks) n m =
    let rest = owed-quiet marks n (m - 1) in
    let all : ℕ = owed (asked_marks marks) n (m - 1) in
    max-le (le-max_left (due m kept) all) (omega (arith, rest, le-max_right (due m kept) all))
