-- What a crash leaves over two parts of a call.
use Rattle.std.proofs.Common.{◌≡◌, inl, inr, ⊎_elim, ℕ, ◌≤◌, List, [], length, Option, Some, refl, sym, ◌∙◌, subst, arith}
use Rattle.fn_tree.specs.declared.program.Item.{Item}
use Rattle.r3_entry.specs.declared.entry.Entry.{Entry}
use Rattle.r3_entry.specs.Image.{IsHistoryOf}
use Rattle.r3_desk.specs.Asked as desk
use Rattle.r3_desk.specs.Crash.{Reach, GoesOn, NothingPending}
use Rattle.r3_desk.specs.Disk.{told_len}
use Rattle.r3_desk.specs.Moments.{LeavesImage, started, elapses_then}
use Rattle.r3_model.specs.Language.{Text}
use Rattle.r3_model.specs.Held.{Mark}
use Rattle.r3_model.specs.Functions.{language_of}
use Rattle.r3_recover.specs.Opened.{WasRead}
use Rattle.r3_session.specs.Begun.{StopsOpening}
use Rattle.r3_serve.specs.Held.{LeavesHeld}
use Rattle.r3_top.specs.Answered.{LeavesPrefix, Untouched}
use Rattle.r3_top.specs.Functions.{IsAccepted}
use Rattle.r3_top.specs.Going.{Unbegun, OpensEarly}
use Rattle.r3_top.proofs.Saying.{says-none}

some-same : (a b : Text) → ◌≡◌ {A = Option Text} (Some a) (Some b) → a ≡ b
some-same a b is = cc

module _ {D : Type 0} (image : D → Option Text) (may_leave : D → Text → Type 0) (moment : D → ℕ) (reach : D → Reach) (said : D → Option Text) (asked : D → Option (List desk.Call)) where
  left-now : (d : D) (h : List Entry) (i : Text) → NothingPending (image d) (may_leave d) → image d ≡ Some i → IsHistoryOf h i
      → (c : Text) → may_leave d c → IsHistoryOf h c
  left-now d h i pending is history = λ c may.
      let same : ◌≡◌ {A = Option Text} (Some i) (Some c) = sym is ∙ pending c may in
      subst (λ (x : Text). IsHistoryOf h x) (some-same i c same) history

  -- before the first call of the desk
  leaves-first : (d : D) (h : List Entry) (i : Text)
      → ((t : ℕ) (c : Text) → t ≤ moment d → may_leave d c → reach d t c (told_len (said d)) (told_len (asked d)))
      → ((c : Text) (n m : ℕ) → reach d (moment d) c n m → may_leave d c × (n ≡ told_len (said d)) × (m ≡ told_len (asked d)))
      → NothingPending (image d) (may_leave d) → image d ≡ Some i → IsHistoryOf h i
      → LeavesPrefix moment reach said asked d d h (length h) []
  leaves-first d h i counts_now only_now pending is history =
      let first : LeavesImage moment reach may_leave said asked d d (IsHistoryOf h) = started moment reach may_leave said asked d (IsHistoryOf h) counts_now only_now (left-now d h i pending is history) in
      record {
        elapses = first.elapses;
        each = λ c n m r. let x = first.each c n m r in ((omega (arith, x.1), omega (arith, x.1), omega (arith, x.2), omega (arith, x.2)), inl x.0);
      }

  -- nothing was done
  pub unbegun-first : (d : D) (h : List Entry) (i : Text)
      → ((t : ℕ) (c : Text) → t ≤ moment d → may_leave d c → reach d t c (told_len (said d)) (told_len (asked d)))
      → ((c : Text) (n m : ℕ) → reach d (moment d) c n m → may_leave d c × (n ≡ told_len (said d)) × (m ≡ told_len (asked d)))
      → NothingPending (image d) (may_leave d) → image d ≡ Some i → IsHistoryOf h i
      → Unbegun image may_leave moment reach said asked d d h []
  unbegun-first d h i counts_now only_now pending is history = record {
    says = says-none image said asked d;
    settled = left-now d h i pending is history;
    leaves = leaves-first d h i counts_now only_now pending is history;
  }

  -- an opening that ended early
  pub opening : (from now : D) (text : Text) (h : List Entry) (items : List Item) → IsAccepted text items
      → StopsOpening image moment reach said asked (language_of items) from now text h → said now ≡ said from → asked now ≡ asked from
      → OpensEarly image may_leave moment reach said asked from now text h
  opening from now text h items accepted stops a b = (items, accepted, (stops, a, b))

  -- of an answered call
  pub leaves-held : (from now : D) (h : List Entry) (first : ℕ) (marks : List Mark)
      → LeavesHeld moment reach said asked from now h first marks → LeavesPrefix moment reach said asked from now h first marks
  leaves-held from now h first marks leaves = record {
    elapses = leaves.elapses;
    each = λ c n m r. let x = leaves.each c n m r in ((x.0, x.1, x.2, x.3), inr x.4);
  }

  -- one more call of the desk, before which all is settled
  pub leaves-more : (from mid now : D) (h : List Entry) (first : ℕ) (marks : List Mark) (line : Text)
      → LeavesPrefix moment reach said asked from mid h first marks
      → ((c : Text) → may_leave mid c → IsHistoryOf h c) → ((c : Text) → may_leave now c → may_leave mid c)
      → GoesOn moment reach may_leave said asked mid now
      → told_len (said from) ≤ told_len (said mid) → told_len (said mid) ≤ told_len (said now)
      → told_len (asked from) ≤ told_len (asked mid) → told_len (asked mid) ≤ told_len (asked now)
      → LeavesPrefix moment reach said asked from now h first marks
  leaves-more from mid now h first marks line leaves settled pending goes said-up said-more asked-up asked-more = record {
    elapses = elapses_then moment reach may_leave said asked from mid now leaves.elapses goes.elapses;
    each = λ c n m r. ⊎_elim
        (λ past. let x = leaves.each c n m past in ((x.0.0, omega (arith, x.0.1, said-more), x.0.2, omega (arith, x.0.3, asked-more)), x.1))
        (λ since. (
          (omega (arith, said-up, goes.said_from c n m since), goes.said_to c n m since, omega (arith, asked-up, goes.asked_from c n m since), goes.asked_to c n m since),
          inl (⊎_elim (λ before. settled c before) (λ after. settled c (pending c after)) (goes.image_of c n m since)),
        ))
        (goes.elapses.splits (moment from) c n m leaves.elapses.later r);
  }

module _ {D : Type 0} (image : D → Option Text) (may_leave : D → Text → Type 0) (moment : D → ℕ) (reach : D → Reach) (said : D → Option Text) (asked : D → Option (List desk.Call)) (syncs : D → Option ℕ) where
  -- an opening that has read at most
  pub untouched-read : (from now : D) → WasRead image may_leave moment reach said asked syncs from now → said now ≡ said from → asked now ≡ asked from
      → Untouched image may_leave moment reach said asked syncs from now
  untouched-read from now w same_said same_asked = record {
    stored = w.image;
    unsynced = w.same_syncs;
    settled = λ c may. sym w.image ∙ w.quiet c may;
    leaves = record {
      elapses = w.leaves.elapses;
      each = λ c n m r.
          let x = w.leaves.each c n m r in
          let below : n ≤ told_len (said from) = omega (arith, x.1) in
          let behind : m ≤ told_len (asked from) = omega (arith, x.2) in (
            (
              omega (arith, x.1),
              (let S : Option Text → Type 0 = λ s. n ≤ told_len s in subst S (sym same_said) below),
              omega (arith, x.2),
              (let S : Option (List desk.Call) → Type 0 = λ s. m ≤ told_len s in subst S (sym same_asked) behind),
            ),
            x.0,
          );
    };
  }

  pub untouched-first : (d : D)
      → ((t : ℕ) (c : Text) → t ≤ moment d → may_leave d c → reach d t c (told_len (said d)) (told_len (asked d)))
      → ((c : Text) (n m : ℕ) → reach d (moment d) c n m → may_leave d c × (n ≡ told_len (said d)) × (m ≡ told_len (asked d)))
      → NothingPending (image d) (may_leave d) → Untouched image may_leave moment reach said asked syncs d d
  untouched-first d counts_now only_now pending =
      let Here : Text → Type 0 = λ c. image d ≡ Some c in
      let first : LeavesImage moment reach may_leave said asked d d Here = started moment reach may_leave said asked d Here counts_now only_now pending in
      record {
        stored = refl;
        unsynced = refl;
        settled = pending;
        leaves = record {
          elapses = first.elapses;
          each = λ c n m r. let x = first.each c n m r in ((omega (arith, x.1), omega (arith, x.1), omega (arith, x.2), omega (arith, x.2)), x.0);
        };
      }

  -- one call of the desk that leaves the disk alone
  pub untouched-more : (from mid now : D) → Untouched image may_leave moment reach said asked syncs from mid
      → image now ≡ image mid → syncs now ≡ syncs mid → ((c : Text) → may_leave now c → may_leave mid c) → GoesOn moment reach may_leave said asked mid now
      → told_len (said from) ≤ told_len (said mid) → told_len (said mid) ≤ told_len (said now)
      → told_len (asked from) ≤ told_len (asked mid) → told_len (asked mid) ≤ told_len (asked now)
      → Untouched image may_leave moment reach said asked syncs from now
  untouched-more from mid now u same unsynced pending goes said-up said-more asked-up asked-more = record {
    stored = same ∙ u.stored;
    unsynced = unsynced ∙ u.unsynced;
    settled = λ c may. u.settled c (pending c may);
    leaves = record {
      elapses = elapses_then moment reach may_leave said asked from mid now u.leaves.elapses goes.elapses;
      each = λ c n m r. ⊎_elim
          (λ past. let x = u.leaves.each c n m past in ((x.0.0, omega (arith, x.0.1, said-more), x.0.2, omega (arith, x.0.3, asked-more)), x.1))
          (λ since. (
            (omega (arith, said-up, goes.said_from c n m since), goes.said_to c n m since, omega (arith, asked-up, goes.asked_from c n m since), goes.asked_to c n m since),
            ⊎_elim (λ before. u.settled c before) (λ after. u.settled c (pending c after)) (goes.image_of c n m since),
          ))
          (goes.elapses.splits (moment from) c n m u.leaves.elapses.later r);
    };
  }
