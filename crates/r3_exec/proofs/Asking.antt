-- An external call, and what a crash leaves of it.
use Rattle.std.proofs.Common.{◌≡◌, ℕ, ◌≤◌, List, length, map, take, Option, Some, None, inl, ⊎_elim, arith, ap, ◌∙◌, subst, length-append}
use Rattle.std.proofs.lemmas.List.{take_all}
use Rattle.r3_entry.specs.declared.entry.Entry.{Entry}
use Rattle.r3_entry.specs.Image.{IsHistoryOf}
use Rattle.r3_desk.specs.Asked as desk
use Rattle.r3_desk.specs.Crash.{GoesOn, Reach}
use Rattle.r3_desk.specs.Disk.{told_len}
use Rattle.r3_desk.specs.Moments.{leaves_then}
use Rattle.r3_model.specs.Event.{Call}
use Rattle.r3_exec.specs.Does.{Leaves, told_after, told_of}

pub told_more : (o : Option (List desk.Call)) (calls : List Call) → told_len o ≤ told_len (told_after o calls)
told_more None calls = omega arith
told_more (Some k) calls = omega (arith, length-append k (map told_of calls))

module _ {D : Type 0} (may_leave : D → List ℕ → Type 0) (moment : D → ℕ) (reach : D → Reach) (said : D → Option (List ℕ)) (asked : D → Option (List desk.Call)) where
  -- one call, where a crash leaves all before it and after it
  pub by_ask : (old new : D) (h : List Entry) → GoesOn moment reach may_leave said asked old new → said new ≡ said old
      → ((c : List ℕ) → may_leave old c → IsHistoryOf h c) → ((c : List ℕ) → may_leave new c → may_leave old c)
      → Leaves moment reach said asked old new h (length h)
  by_ask old new h goes same before pending = record {
    elapses = goes.elapses;
    each = λ c n m r.
        let from = goes.said_from c n m r in
        let to : n ≤ told_len (said old) = subst (λ (s : Option (List ℕ)). n ≤ told_len s) same (goes.said_to c n m r) in
        let is : n ≡ told_len (said old) = omega (arith, from, to) in
        (is, (goes.asked_from c n m r, goes.asked_to c n m r, inl (⊎_elim (before c) (λ after. before c (pending c after)) (goes.image_of c n m r))));
  }

  -- all that stood before is settled at the moment between
  pub leaves_on : (first mid last : D) (h : List Entry) (k : ℕ) → said mid ≡ said first
      → told_len (asked first) ≤ told_len (asked mid) → told_len (asked mid) ≤ told_len (asked last)
      → Leaves moment reach said asked first mid h k → Leaves moment reach said asked mid last h (length h)
      → Leaves moment reach said asked first last h k
  leaves_on first mid last h k same more later one two =
      leaves_then moment reach may_leave said asked first mid last _ _ _ one two
      (λ c n m x. (x.0, (x.1.0, omega (arith, x.1.1, later), x.1.2)))
      (λ c n m y.
      let all : IsHistoryOf (take (length h) h) c → IsHistoryOf h c = λ t. subst (λ (l : List Entry). IsHistoryOf l c) (take_all (length h) h (omega arith)) t in
      (y.0 ∙ ap told_len same, (omega (arith, y.1.0, more), y.1.1, inl (⊎_elim (λ is. is) (λ t. all t.0) y.1.2))))
