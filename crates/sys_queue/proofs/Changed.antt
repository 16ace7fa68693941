-- One queue of the list is changed.
use Rattle.std.proofs.Common.{◌≡◌, ℕ, zero, suc, ◌<◌, ◌≤◌, List, [], ◌∷◌, length, get_or, set, Option, Some, None, Bool, true, false, Result, Ok, Err, OnOk, refl, ap, sym, subst, ◌∙◌, arith}
use Rattle.std.specs.Prelude.{bytes_eq, if◌then◌else◌}
use Rattle.std.specs.Bool.{MatchBool}
use Rattle.std.proofs.lemmas.Slice.Eq.{bytes_eq-Decides}
use Rattle.r3_value.specs.declared.fault.Memory.{Memory}
use Rattle.sys_queue.specs.Lines.{Text, Line, line_of, declared_of}
use Rattle.sys_queue.specs.Moves.{Had, Changes}
use Rattle.sys_queue.specs.Found.{IsPast, StandsAt}

pub same_bytes : (a b : Text) → bytes_eq a b ≡ true → a ≡ b
same_bytes a b e = (bytes_eq-Decides a b).0 e

pub bytes_itself : (a : Text) → bytes_eq a a ≡ true
bytes_itself a = (bytes_eq-Decides a a).1 refl

pub not_both : (b : Bool) → b ≡ true → b ≡ false → ⊥
not_both true t f = absurd cc
not_both false t f = absurd cc

-- nothing is changed
pub no_queue : (R : Line → Line → Type 0) (ls : List Line) → Changes None R ls ls
no_queue R ls = record { declared = refl; each = λ name n e. record { line = n; stood = e; moved = refl } }

absent_moved : (q name : Text) (R : Line → Line → Type 0) (ls : List Line) (n : Line) (b : Bool) → bytes_eq name q ≡ b → line_of q ls ≡ None → line_of name ls ≡ Some n → MatchBool b (R n n) (n ≡ n)
absent_moved q name R ls n true t none e =
    let same : name ≡ q = same_bytes name q t in
    let here : line_of q ls ≡ Some n = rw (← same) e in
    absurd cc
absent_moved q name R ls n false t none e = refl

pub no_such : (q : Text) (R : Line → Line → Type 0) (ls : List Line) → line_of q ls ≡ None → Changes (Some q) R ls ls
no_such q R ls none = record {
  declared = refl;
  each = λ name n e. record { line = n; stood = e; moved = absent_moved q name R ls n (bytes_eq name q) refl none e };
}

-- ---- one is changed in its place

declared_set : (ls : List Line) (i : ℕ) (n d : Line) → i < length ls → n.name ≡ (get_or ls i d).name → n.bound ≡ (get_or ls i d).bound → declared_of (set ls i n) ≡ declared_of ls
declared_set [] i n d lt a b = absurd (omega arith)
declared_set (l ∷ ls) zero n d lt a b = rw (a, b) refl
declared_set (l ∷ ls) (suc i) n d lt a b = ap (λ (x : List (Text × ℕ)). (l.name, l.bound) ∷ x) (declared_set ls i n d (omega arith) a b)

other_by : (a b : Text) (c : Bool) → bytes_eq b a ≡ c → bytes_eq a b ≡ false → c ≡ false
other_by a b true t miss =
    let same : b ≡ a = same_bytes b a t in
    let itself : bytes_eq a b ≡ true = rw same (bytes_itself a) in
    absurd (not_both (bytes_eq a b) itself miss)
other_by a b false t miss = refl

other : (a b : Text) → bytes_eq a b ≡ false → bytes_eq b a ≡ false
other a b miss = other_by a b (bytes_eq b a) refl miss

first_here : (q name : Text) (R : Line → Line → Type 0) (l n m : Line) (ls : List Line) (b : Bool) → bytes_eq n.name name ≡ b → l.name ≡ q → n.name ≡ l.name → R l n
    → (if b then Some n else line_of name ls) ≡ Some m → Had name (Some q) R (l ∷ ls) m
first_here q name R l n m ls true t named same r e =
    let is_n : n ≡ m = cc in
    let is_name : n.name ≡ name = same_bytes n.name name t in
    let hit : bytes_eq l.name name ≡ true = rw (← same) t in
    let is_q : bytes_eq name q ≡ true = rw (← is_name, same, named) (bytes_itself q) in
    record { line = l; stood = rw hit refl; moved = rw (is_q, ← is_n) r }
first_here q name R l n m ls false t named same r e =
    let miss : bytes_eq l.name name ≡ false = rw (← same) t in
    record { line = m; stood = rw miss e; moved = rw (← named, other l.name name miss) refl }

later : (q name : Text) (R : Line → Line → Type 0) (l m : Line) (ls new : List Line) (b : Bool) → bytes_eq l.name name ≡ b → bytes_eq l.name q ≡ false → (line_of name new ≡ Some m → Had name (Some q) R ls m)
    → (if b then Some l else line_of name new) ≡ Some m → Had name (Some q) R (l ∷ ls) m
later q name R l m ls new true t past go e =
    let is_l : l ≡ m = cc in
    let is_name : l.name ≡ name = same_bytes l.name name t in
    let miss : bytes_eq name q ≡ false = rw (← is_name) past in
    record { line = l; stood = rw t refl; moved = rw miss (sym is_l) }
later q name R l m ls new false t past go e =
    let had = go e in
    record { line = had.line; stood = rw t had.stood; moved = had.moved }

each_set : (q name : Text) (R : Line → Line → Type 0) (ls : List Line) (i : ℕ) (n m d : Line) → i < length ls → (get_or ls i d).name ≡ q → IsPast q ls i → n.name ≡ (get_or ls i d).name → R (get_or ls i d) n
    → line_of name (set ls i n) ≡ Some m → Had name (Some q) R ls m
each_set q name R [] i n m d lt named past same r e = absurd (omega arith)
each_set q name R (l ∷ ls) zero n m d lt named past same r e = first_here q name R l n m ls (bytes_eq n.name name) refl named same r e
each_set q name R (l ∷ ls) (suc i) n m d lt named past same r e =
    later q name R l m ls (set ls i n) (bytes_eq l.name name) refl (past 0 d (omega arith))
    (λ at. each_set q name R ls i n m d (omega arith) named (λ j c lt_j. past (suc j) c (omega arith)) same r at) e

pub changed_at : (q : Text) (R : Line → Line → Type 0) (ls : List Line) (i : ℕ) (n d : Line) → StandsAt q ls i → n.name ≡ (get_or ls i d).name → n.bound ≡ (get_or ls i d).bound → R (get_or ls i d) n → Changes (Some q) R ls (set ls i n)
changed_at q R ls i n d at name bound r = record {
  declared = declared_set ls i n d at.within name bound;
  each = λ other m e. each_set q other R ls i n m d at.within (at.named d) at.past name r e;
}

-- ---- the search

pub none_named : (name : Text) (ls : List Line) → IsPast name ls (length ls) → line_of name ls ≡ None
none_named name [] past = refl
none_named name (l ∷ ls) past =
    let miss : bytes_eq l.name name ≡ false = past 0 l (omega arith) in
    rw miss (none_named name ls (λ j d lt. past (suc j) d (omega arith)))

-- the first queue of the name
pub line_at : (name : Text) (ls : List Line) (i : ℕ) (d : Line) → StandsAt name ls i → line_of name ls ≡ Some (get_or ls i d)
line_at name [] i d at = absurd (omega (arith, at.within))
line_at name (l ∷ ls) zero d at =
    let hit : bytes_eq l.name name ≡ true = rw (at.named d) (bytes_itself name) in
    rw hit refl
line_at name (l ∷ ls) (suc i) d at =
    let miss : bytes_eq l.name name ≡ false = at.past 0 d (omega arith) in
    rw miss (line_at name ls i d (record { within = omega (arith, at.within); named = at.named; past = λ j c lt. at.past (suc j) c (omega arith) }))

pub none_past : (name : Text) (ls : List Line) (i : ℕ) → length ls ≤ i → IsPast name ls i → line_of name ls ≡ None
none_past name ls i le past = none_named name ls (λ j d lt. past j d (omega arith))

-- ---- what a call on one queue makes of the list

pub on_ok : {A B : Type 0} (r : Result (Unit {0}) Memory) → (A → B) → OnOk r A → OnOk r B
on_ok (Ok u) f h = f h
on_ok (Err m) f h = h

pub changed_in : (q : Option Text) (name : Text) (R : Line → Line → Type 0) (ls : List Line) (i : ℕ) (n d : Line) → q ≡ Some name → StandsAt name ls i → d ≡ get_or ls i d → n.name ≡ d.name → n.bound ≡ d.bound → R d n → Changes q R ls (set ls i n)
changed_in q name R ls i n d is_q at is named bound r =
    rw is_q (changed_at name R ls i n d at (named ∙ ap (λ (x : Line). x.name) is) (bound ∙ ap (λ (x : Line). x.bound) is) (subst (λ (x : Line). R x n) is r))
