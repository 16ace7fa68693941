-- What is owed to the calls of a line.
use Rattle.std.proofs.Common.{◌≡◌, ℕ, zero, suc, ◌-◌, ◌≤◌, List, [], ◌∷◌, ◌++◌, length, refl, sym, subst, arith}
use Rattle.r3_entry.specs.declared.entry.Entry.{Entry}
use Rattle.r3_model.specs.Event.{Call}
use Rattle.r3_model.specs.Held.{Mark, Said, Asked, owed, due}
use Rattle.r3_recover.specs.Kept.{settled_by, marks_on}
use Rattle.r3_recover.specs.Rounds.{AreWithin}

due-within : (n kept most : ℕ) → kept ≤ most → due n kept ≤ most
due-within zero kept most le = omega arith
due-within (suc n) kept most le = le

pub owed-within : (most : ℕ) (marks : List Mark) (n m : ℕ) → AreWithin most marks → owed marks n m ≤ most
owed-within most [] n m w = omega arith
owed-within most (Said bytes kept ∷ marks) n m w = omega (arith, due-within n kept most w.0, owed-within most marks (n - bytes) m w.1)
owed-within most (Asked kept ∷ marks) n m w = omega (arith, due-within m kept most w.0, owed-within most marks n (m - 1) w.1)

within-more : (most : ℕ) (marks more : List Mark) → AreWithin most marks → AreWithin most more → AreWithin most (marks ++ more)
within-more most [] more a b = b
within-more most (Said bytes kept ∷ marks) more a b = (a.0, within-more most marks more a.1 b)
within-more most (Asked kept ∷ marks) more a b = (a.0, within-more most marks more a.1 b)

pub within-higher : (most higher : ℕ) (marks : List Mark) → most ≤ higher → AreWithin most marks → AreWithin higher marks
within-higher most higher [] le w = tt
within-higher most higher (Said bytes kept ∷ marks) le w = (omega (arith, le, w.0), within-higher most higher marks le w.1)
within-higher most higher (Asked kept ∷ marks) le w = (omega (arith, le, w.0), within-higher most higher marks le w.1)

pub within-on : (h : List Entry) (calls : List Call) → AreWithin (length h) (marks_on h calls)
within-on h [] = tt
within-on h (c ∷ cs) = (omega arith, within-on h cs)

settled-more : (settled : ℕ) (marks more : List Mark) → settled_by settled (marks ++ more) ≡ settled_by (settled_by settled marks) more
settled-more settled [] more = refl
settled-more settled (Said bytes kept ∷ marks) more = settled-more settled marks more
settled-more settled (Asked kept ∷ marks) more = settled-more kept marks more

-- the calls of one event settle all, or there are none
pub settled-on : (h : List Entry) (calls : List Call) → settled_by (length h) (marks_on h calls) ≡ length h
settled-on h [] = refl
settled-on h (c ∷ cs) = settled-on h cs

-- What is settled, and that all that is owed is, at some point of a run.
pub record AreSettled (first : ℕ) (marks : List Mark) (most : ℕ) : Type 0 where
  pub no_less : first ≤ settled_by first marks
  pub within : settled_by first marks ≤ most
  pub kept : AreWithin (settled_by first marks) marks

settles-on : (settled : ℕ) (h : List Entry) (calls : List Call) → settled ≤ length h → AreSettled settled (marks_on h calls) (length h)
settles-on settled h [] le = record { no_less = omega arith; within = le; kept = tt }
settles-on settled h (c ∷ cs) le =
    let e : settled_by (length h) (marks_on h cs) ≡ length h = settled-on h cs in
    record {
      no_less = omega (arith, le, e);
      within = omega (arith, e);
      kept = subst (λ (k : ℕ). AreWithin k (marks_on h (c ∷ cs))) (sym e) (within-on h (c ∷ cs));
    }

-- one more event
pub settles-next : (first : ℕ) (marks : List Mark) (h : List Entry) (calls : List Call) → AreSettled first marks (length h) → AreSettled first (marks ++ marks_on h calls) (length h)
settles-next first marks h calls s =
    let more : List Mark = marks_on h calls in
    let on = settles-on (settled_by first marks) h calls s.within in
    let e : settled_by first (marks ++ more) ≡ settled_by (settled_by first marks) more = settled-more first marks more in
    record {
      no_less = omega (arith, e, on.no_less, s.no_less);
      within = omega (arith, e, on.within);
      kept = subst (λ (k : ℕ). AreWithin k (marks ++ more)) (sym e)
          (within-more (settled_by (settled_by first marks) more) marks more
          (within-higher (settled_by first marks) (settled_by (settled_by first marks) more) marks on.no_less s.kept) on.kept);
    }

pub settles-higher : (first : ℕ) (marks : List Mark) (most higher : ℕ) → most ≤ higher → AreSettled first marks most → AreSettled first marks higher
settles-higher first marks most higher le s = record { no_less = s.no_less; within = omega (arith, le, s.within); kept = s.kept }
