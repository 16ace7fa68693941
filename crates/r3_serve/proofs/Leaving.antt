-- What a crash leaves of a run after another, and of a reply that is said after them.
use Rattle.std.proofs.Common.{◌≡◌, ⊎_elim, ℕ, ◌-◌, ◌≤◌, List, [], ◌∷◌, ◌++◌, length, Option, sym, ap, subst, arith, append-nil, length-append}
use Rattle.std.proofs.lemmas.List.{take-append-le, take_all}
use Rattle.r3_entry.specs.declared.entry.Entry.{Entry}
use Rattle.r3_entry.specs.Image.{IsHistoryOf}
use Rattle.r3_desk.specs.Asked as desk
use Rattle.r3_desk.specs.Crash.{Reach, LeavesOnly, GoesOn}
use Rattle.r3_desk.specs.Disk.{told_len}
use Rattle.r3_desk.specs.Moments.{leaves_then}
use Rattle.r3_model.specs.Held.{Mark, Said, owed, said_by, asked_by}
use Rattle.r3_recover.specs.Kept.{IsKept, LeavesKept}
use Rattle.r3_serve.specs.Held.{IsHeld, LeavesHeld}
use Rattle.r3_serve.specs.Served.{Voice, marks_of}
use Rattle.r3_serve.proofs.Owing.{AreWithin, within-more, owed-within, owed-more, owed-first, owed-higher}
use Rattle.r3_serve.proofs.Voices.{marks-owed}
use Rattle.r3_serve.proofs.Telling.{Between}

-- the marks stand for all bytes said and calls asked, on a history with all that was there first
pub record AreSure (h : List Entry) (first : ℕ) (marks : List Mark) (bytes calls : ℕ) : Type 0 where
  pub no_less : first ≤ length h
  pub within : AreWithin (length h) marks
  pub said : bytes ≤ said_by marks
  pub asked : calls ≤ asked_by marks

-- what was held is held of a longer history with more marks
held-first : (h xs : List Entry) (first : ℕ) (marks more : List Mark) (n m : ℕ) (c : List ℕ) → n ≤ said_by marks → m ≤ asked_by marks
    → IsHeld h first marks n m c → IsHeld (h ++ xs) first (marks ++ more) n m c
held-first h xs first marks more n m c said asked p = record {
  len = p.len;
  within = omega (arith, p.within, length-append h xs);
  held_kept = omega (arith, p.held_kept, owed-first marks more n m said asked);
  history_of = subst (λ (es : List Entry). IsHistoryOf es c) (sym (take-append-le p.len h xs p.within)) p.history_of;
}

-- what is kept of a run after it holds all that was owed before
pub held-kept : (h g : List Entry) (first : ℕ) (marks more : List Mark) (n m k : ℕ) (c : List ℕ) → first ≤ length h → AreWithin (length h) marks
    → n ≤ said_by marks → m - asked_by marks ≤ k → IsKept g (length h) more k c → IsHeld g first (marks ++ more) n m c
held-kept h g first marks more n m k c le within said asked q = record {
  len = q.len;
  within = q.within;
  held_kept =
      let none : n - said_by marks ≡ 0 = omega (arith, said) in
      let same : owed more (n - said_by marks) (m - asked_by marks) ≡ owed more 0 (m - asked_by marks) = ap (λ (j : ℕ). owed more j (m - asked_by marks)) none in
      omega (arith, owed-more marks more n m, owed-within (length h) marks n m within, same, owed-higher more 0 (m - asked_by marks) k asked, q.owed_kept, q.settled_kept, le);
  history_of = q.history_of;
}

-- the whole history holds all
pub held-all : (h : List Entry) (first : ℕ) (marks : List Mark) (n m : ℕ) (c : List ℕ) → first ≤ length h → AreWithin (length h) marks → IsHistoryOf h c → IsHeld h first marks n m c
held-all h first marks n m c le within is = record {
  len = length h;
  within = omega arith;
  held_kept = omega (arith, le, owed-within (length h) marks n m within);
  history_of = subst (λ (es : List Entry). IsHistoryOf es c) (sym (take_all (length h) h (omega arith))) is;
}

-- where no reply is said, its marks don't count
pub kept-voice : (v : Voice) (h : List Entry) (k : ℕ) (marks : List Mark) (j : ℕ) (c : List ℕ) → IsKept h k marks j c → IsKept h k (marks_of v marks) j c
kept-voice v h k marks j c p = record {
  len = p.len;
  within = p.within;
  settled_kept = p.settled_kept;
  owed_kept = omega (arith, marks-owed v marks j, p.owed_kept);
  history_of = p.history_of;
}

module _ {D : Type 0} (may_leave : D → List ℕ → Type 0) (moment : D → ℕ) (reach : D → Reach) (said : D → Option (List ℕ)) (asked : D → Option (List desk.Call)) where
  pub leaves-voice : (v : Voice) (old new : D) (h : List Entry) (k : ℕ) (marks : List Mark) → LeavesKept moment reach said asked old new h k marks → LeavesKept moment reach said asked old new h k (marks_of v marks)
  leaves-voice v old new h k marks leaves = record {
    elapses = leaves.elapses;
    each = λ c n m r.
        let x = leaves.each c n m r in
        (x.0, x.1, x.2, kept-voice v h k marks (m - told_len (asked old)) c x.3);
  }

  -- a run in which nothing is said comes behind
  pub held-then : (from mid new : D) (h xs : List Entry) (first bytes calls most : ℕ) (marks more : List Mark)
      → AreSure h first marks bytes calls → Between (said from) (said mid) bytes → Between (asked from) (asked mid) calls
      → said new ≡ said mid → Between (asked mid) (asked new) most
      → LeavesHeld moment reach said asked from mid h first marks → LeavesKept moment reach said asked mid new (h ++ xs) (length h) more
      → LeavesHeld moment reach said asked from new (h ++ xs) first (marks ++ more)
  held-then from mid new h xs first bytes calls most marks more sure says asks same on leaves kept =
      let still : told_len (said new) ≡ told_len (said mid) = ap (λ (o : Option (List ℕ)). told_len o) same in
      leaves_then moment reach may_leave said asked from mid new _ _ _ leaves kept
      (λ c n m p. (
        p.0,
        omega (arith, p.1, still),
        p.2,
        omega (arith, p.3, on.no_fewer),
        held-first h xs first marks more (n - told_len (said from)) (m - told_len (asked from)) c
            (omega (arith, p.1, says.few, sure.said)) (omega (arith, p.3, asks.few, sure.asked)) p.4,
      ))
      (λ c n m q. (
        omega (arith, q.0, says.no_fewer),
        omega (arith, q.0, still),
        omega (arith, q.1, asks.no_fewer),
        q.2,
        held-kept h (h ++ xs) first marks more (n - told_len (said from)) (m - told_len (asked from)) (m - told_len (asked mid)) c
            sure.no_less sure.within (omega (arith, q.0, says.few, sure.said)) (omega (arith, asks.few, sure.asked)) q.3,
      ))

  -- and then a reply is said, when all is settled
  pub held-said : (from mid new : D) (h : List Entry) (first bytes calls most text : ℕ) (marks : List Mark)
      → AreSure h first marks bytes calls → Between (said from) (said mid) bytes → Between (asked from) (asked mid) calls
      → Between (said mid) (said new) most → asked new ≡ asked mid
      → ((c : List ℕ) → may_leave mid c → IsHistoryOf h c) → ((c : List ℕ) → may_leave new c → may_leave mid c)
      → GoesOn moment reach may_leave said asked mid new
      → LeavesHeld moment reach said asked from mid h first marks
      → LeavesHeld moment reach said asked from new h first (marks ++ Said text (length h) ∷ [])
  held-said from mid new h first bytes calls most text marks sure says asks on same settled pending goes leaves =
      let mark : List Mark = Said text (length h) ∷ [] in
      let all : AreWithin (length h) (marks ++ mark) = within-more (length h) marks mark sure.within (omega arith, tt) in
      let still : told_len (asked new) ≡ told_len (asked mid) = ap (λ (o : Option (List desk.Call)). told_len o) same in
      let says_now : LeavesOnly moment reach mid new (λ c n m. IsHistoryOf h c × (told_len (said mid) ≤ n) × (n ≤ told_len (said new)) × (told_len (asked mid) ≤ m) × (m ≤ told_len (asked new))) =
      record {
        elapses = goes.elapses;
        each = λ c n m r. (
          ⊎_elim (λ was. settled c was) (λ is. settled c (pending c is)) (goes.image_of c n m r),
          goes.said_from c n m r,
          goes.said_to c n m r,
          goes.asked_from c n m r,
          goes.asked_to c n m r,
        );
      } in
      leaves_then moment reach may_leave said asked from mid new _ _ _ leaves says_now
      (λ c n m p. (
        p.0,
        omega (arith, p.1, on.no_fewer),
        p.2,
        omega (arith, p.3, still),
        subst (λ (g : List Entry). IsHeld g first (marks ++ mark) (n - told_len (said from)) (m - told_len (asked from)) c) (append-nil h)
            (held-first h [] first marks mark (n - told_len (said from)) (m - told_len (asked from)) c
            (omega (arith, p.1, says.few, sure.said)) (omega (arith, p.3, asks.few, sure.asked)) p.4),
      ))
      (λ c n m q. (
        omega (arith, q.1, says.no_fewer),
        q.2,
        omega (arith, q.3, asks.no_fewer),
        q.4,
        held-all h first (marks ++ mark) (n - told_len (said from)) (m - told_len (asked from)) c sure.no_less all q.0,
      ))
