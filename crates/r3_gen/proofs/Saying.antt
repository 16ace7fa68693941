-- A summary that is said, whole or in part, when all lines were answered and no reply was said.
use Rattle.std.proofs.Common.{◌≡◌, ⊎_elim, ℕ, zero, suc, ◌-◌, ◌≤◌, max, List, [], ◌∷◌, ◌++◌, length, take, Option, Some, None, refl, sym, ap, ◌∙◌, subst, arith, append-nil, length-append}
use Rattle.std.proofs.lemmas.List.{take_all}
use Rattle.r3_entry.specs.declared.entry.Entry.{Entry}
use Rattle.r3_entry.specs.Image.{IsHistoryOf}
use Rattle.r3_desk.specs.Asked as desk
use Rattle.r3_desk.specs.Crash.{Reach, LeavesOnly, GoesOn}
use Rattle.r3_desk.specs.Disk.{told_len, told_push}
use Rattle.r3_desk.specs.Moments.{leaves_then}
use Rattle.r3_model.specs.Language.{Language, Text}
use Rattle.r3_model.specs.Held.{Mark, Said, Asked, owed, due}
use Rattle.r3_model.specs.Script.{Line}
use Rattle.r3_store.specs.declared.store.Store.{Store}
use Rattle.r3_store.specs.Holds.{Holds}
use Rattle.r3_exec.specs.Runs.{language}
use Rattle.r3_exec.specs.declared.exec.Exec.{Exec}
use Rattle.r3_serve.specs.Held.{IsHeld, LeavesHeld, asked_marks}
use Rattle.r3_serve.specs.Served.{Quiet, Calls, Served}
use Rattle.r3_gen.specs.Ran.{HasSaid, summary_text}

-- ---- bytes

push-none : (o : Option Text) (s : Text) → told_push (told_push o []) s ≡ told_push o s
push-none None s = refl
push-none (Some k) s = ap (λ (t : Text). Some (t ++ s)) (append-nil k)

push-more : (o : Option Text) (s : Text) → told_len o ≤ told_len (told_push o s)
push-more None s = omega arith
push-more (Some k) s = omega (arith, length-append k s)

push-nothing : (o : Option Text) → told_len (told_push o []) ≡ told_len o
push-nothing None = refl
push-nothing (Some k) = ap (λ (t : Text). length t) (append-nil k)

-- ---- what is owed

due-within : (n kept : ℕ) → due n kept ≤ kept
due-within zero kept = omega arith
due-within (suc n) kept = omega arith

owed-asked : (marks : List Mark) (bytes kept n m : ℕ) → owed (asked_marks marks ++ Said bytes kept ∷ []) n m ≡ max (owed (asked_marks marks) n m) (due n kept)
owed-asked [] bytes kept n m = omega arith
owed-asked (Said b k ∷ marks) bytes kept n m = owed-asked marks bytes kept n m
owed-asked (Asked k ∷ marks) bytes kept n m = omega (arith, owed-asked marks bytes kept n (m - 1))

-- no reply is owed
owed-quiet : (marks : List Mark) (n m : ℕ) → owed (asked_marks marks) n m ≡ owed (asked_marks marks) 0 m
owed-quiet [] n m = refl
owed-quiet (Said b k ∷ marks) n m = owed-quiet marks n m
owed-quiet (Asked k ∷ marks) n m = ap (λ (j : ℕ). max (due m k) j) (owed-quiet marks n (m - 1))

-- before the first byte the summary isn't owed
held-before : (h : List Entry) (first : ℕ) (marks : List Mark) (bytes kept n m : ℕ) (c : List ℕ) → n ≡ 0
    → IsHeld h first (asked_marks marks) n m c → IsHeld h first (asked_marks marks ++ Said bytes kept ∷ []) n m c
held-before h first marks bytes kept n m c none p = record {
  len = p.len;
  within = p.within;
  held_kept =
      let due_none : due n kept ≡ 0 = ap (λ (j : ℕ). due j kept) none in
      omega (arith, p.held_kept, owed-asked marks bytes kept n m, due_none);
  history_of = p.history_of;
}

-- and then the whole history holds all that is owed
held-after : (h : List Entry) (first : ℕ) (marks : List Mark) (bytes n m k j : ℕ) (c d : List ℕ) → m ≡ j → IsHistoryOf h c
    → IsHeld h first (asked_marks marks) k j d → IsHeld h first (asked_marks marks ++ Said bytes (length h) ∷ []) n m c
held-after h first marks bytes n m k j c d same is p = record {
  len = length h;
  within = omega arith;
  held_kept =
      let now : owed (asked_marks marks) 0 m ≡ owed (asked_marks marks) 0 j = ap (λ (i : ℕ). owed (asked_marks marks) 0 i) same in
      omega (arith, p.within, p.held_kept, owed-asked marks bytes (length h) n m, owed-quiet marks n m, owed-quiet marks k j, now, due-within n (length h));
  history_of = subst (λ (es : List Entry). IsHistoryOf es c) (sym (take_all (length h) h (omega arith))) is;
}

-- ---- the summary

module _ {D : Type 0} (told_size : D → Option ℕ) (told_image : D → Option (List ℕ)) (may_leave : D → List ℕ → Type 0) (moment : D → ℕ) (reach : D → Reach) (said : D → Option (List ℕ)) (asked : D → Option (List desk.Call)) where
  abbrev IsServed : D → D → Exec → Text → List Entry → List Line → Type 0
  IsServed from now exec text h lines = Served told_size told_image may_leave moment reach said asked from now exec Quiet text h lines

  -- a crash now is one at some moment since an earlier one
  abbrev pub CountsNow : Type 0
  CountsNow = (d : D) (t : ℕ) (c : List ℕ) → t ≤ moment d → may_leave d c → reach d t c (told_len (said d)) (told_len (asked d))

  abbrev pub CrashLaw : Type 0
  CrashLaw = (d : D) (store : Store) (h : List Entry) (k : ℕ) (image : List ℕ) → Holds told_size told_image may_leave d store h k → may_leave d image → IsHistoryOf (take k h) image

  abbrev pub ReadLaw : Type 0
  ReadLaw = (d : D) (store : Store) (h : List Entry) (k : ℕ) (image : List ℕ) → Holds told_size told_image may_leave d store h k → told_image d ≡ Some image → IsHistoryOf (take k h) image

  whole : (h : List Entry) (c : List ℕ) → IsHistoryOf (take (length h) h) c → IsHistoryOf h c
  whole h c is = subst (λ (es : List Entry). IsHistoryOf es c) (take_all (length h) h (omega arith)) is

  leaves-said : CountsNow → CrashLaw → (from mid new : D) (exec : Exec) (text : Text) (h : List Entry) (lines : List Line) (bytes : ℕ) (part : Text)
      → (s : IsServed from mid exec text h lines)
      → said new ≡ told_push (said mid) part → asked new ≡ asked mid → ((c : List ℕ) → may_leave new c → may_leave mid c)
      → GoesOn moment reach may_leave said asked mid new
      → LeavesHeld moment reach said asked from new s.after.history (length h) (asked_marks s.marks ++ Said bytes (length s.after.history) ∷ [])
  leaves-said counts crash from mid new exec text h lines bytes part s says same pending goes =
      let none : told_len (said mid) ≡ told_len (said from) = ap (λ (o : Option Text). told_len o) s.told ∙ push-nothing (said from) in
      let on : told_len (said mid) ≤ told_len (said new) = subst (λ (o : Option Text). told_len (said mid) ≤ told_len o) (sym says) (push-more (said mid) part) in
      let still : told_len (asked new) ≡ told_len (asked mid) = ap (λ (o : Option (List desk.Call)). told_len o) same in
      let says_now : LeavesOnly moment reach mid new (λ c n m. may_leave mid c × (told_len (said mid) ≤ n) × (n ≤ told_len (said new)) × (told_len (asked mid) ≤ m) × (m ≤ told_len (asked new))) =
      record {
        elapses = goes.elapses;
        each = λ c n m r. (
          ⊎_elim (λ was. was) (λ is. pending c is) (goes.image_of c n m r),
          goes.said_from c n m r,
          goes.said_to c n m r,
          goes.asked_from c n m r,
          goes.asked_to c n m r,
        );
      } in
      leaves_then moment reach may_leave said asked from mid new _ _ _ s.leaves says_now
      (λ c n m p. (
        p.0,
        omega (arith, p.1, on),
        p.2,
        omega (arith, p.3, still),
        held-before s.after.history (length h) s.marks bytes (length s.after.history) (n - told_len (said from)) (m - told_len (asked from)) c
            (omega (arith, p.0, p.1, none)) p.4,
      ))
      (λ c n m q.
      let now = s.leaves.each c (told_len (said mid)) (told_len (asked mid)) (counts mid (moment from) c s.leaves.elapses.later q.0) in (
        omega (arith, q.1, none),
        q.2,
        omega (arith, q.3, now.2),
        q.4,
        held-after s.after.history (length h) s.marks bytes (n - told_len (said from)) (m - told_len (asked from))
            (told_len (said mid) - told_len (said from)) (told_len (asked mid) - told_len (asked from)) c c
            (omega (arith, q.3, q.4, still))
            (whole s.after.history c (crash mid exec.store s.after.history (length s.after.history) c s.runs.holds q.0))
            now.4,
      ))

  pub has-said : CountsNow → CrashLaw → ReadLaw → (from mid new : D) (exec : Exec) (P : Language) (text : Text) (h : List Entry) (lines : List Line) (starts : ℕ) (part rest : Text)
      → language exec ≡ P
      → (s : IsServed from mid exec text h lines)
      → part ++ rest ≡ summary_text s.after.history starts
      → said new ≡ told_push (said mid) part → asked new ≡ asked mid → told_image new ≡ told_image mid
      → ((c : List ℕ) → may_leave new c → may_leave mid c) → GoesOn moment reach may_leave said asked mid new
      → HasSaid told_image moment reach said asked from new P text h lines starts part rest
  has-said counts crash reads from mid new exec P text h lines starts part rest is s of_summary says same image pending goes = record {
    calls = s.calls;
    marks = s.marks;
    after = s.after;
    replies = s.replies;
    machine = subst (λ (L : Language). Calls L text h lines s.after s.calls s.marks s.replies) is s.machine;
    of_summary = of_summary;
    told = says ∙ ap (λ (o : Option Text). told_push o part) s.told ∙ push-none (said from) part;
    asks = same ∙ s.asks;
    leaves = leaves-said counts crash from mid new exec text h lines (length (summary_text s.after.history starts)) part s says same pending goes;
    reads = λ c told. whole s.after.history c (reads mid exec.store s.after.history (length s.after.history) c s.runs.holds (sym image ∙ told));
  }
