-- Before the first dequeue or turn.
use Rattle.std.proofs.Common.{◌≡◌, inl, ℕ, ◌-◌, ◌≤◌, false, List, [], length, take, Option, Some, refl, arith}
use Rattle.r3_entry.specs.declared.entry.Entry.{Entry}
use Rattle.r3_entry.specs.Image.{IsHistoryOf}
use Rattle.r3_desk.specs.Asked as desk
use Rattle.r3_desk.specs.Crash.{Reach}
use Rattle.r3_desk.specs.Disk.{told_len}
use Rattle.r3_desk.specs.Moments.{started, LeavesImage}
use Rattle.r3_model.specs.Language.{Language}
use Rattle.r3_model.specs.Machine.{State}
use Rattle.r3_exec.proofs.Syncs.{no_more}
use Rattle.r3_recover.specs.Kept.{IsKept, LeavesKept}
use Rattle.r3_recover.specs.Drained.{EndsEarly}
use Rattle.r3_recover.specs.Rounds.{Queues}
use Rattle.r3_recover.proofs.Leaving.{told-none}
use Rattle.r3_recover.proofs.Phases.{queue_names, reaches-first, reaches-drains}

-- what is settled is kept
pub kept-now : (h : List Entry) (k j : ℕ) (c : List ℕ) → k ≤ length h → IsHistoryOf (take k h) c → IsKept h k [] j c
kept-now h k j c le is = record { len = k; within = le; settled_kept = omega arith; owed_kept = omega arith; history_of = is }

module _ {D : Type 0} (told_image : D → Option (List ℕ)) (may_leave : D → List ℕ → Type 0) (moment : D → ℕ) (reach : D → Reach) (said : D → Option (List ℕ)) (asked : D → Option (List desk.Call)) where
  pub quiet-kept : (d : D) (h : List Entry) (k : ℕ)
      → ((t : ℕ) (c : List ℕ) → t ≤ moment d → may_leave d c → reach d t c (told_len (said d)) (told_len (asked d)))
      → ((c : List ℕ) (n m : ℕ) → reach d (moment d) c n m → may_leave d c × (n ≡ told_len (said d)) × (m ≡ told_len (asked d)))
      → k ≤ length h
      → ((c : List ℕ) → may_leave d c → IsHistoryOf (take k h) c)
      → LeavesKept moment reach said asked d d h k []
  quiet-kept d h k counts_now only_now le here =
      let l : LeavesImage moment reach may_leave said asked d d (IsHistoryOf (take k h)) = started moment reach may_leave said asked d (IsHistoryOf (take k h)) counts_now only_now here in
      record {
        elapses = l.elapses;
        each = λ c n m r.
            let x = l.each c n m r in
            (x.1, omega (arith, x.2), omega (arith, x.2), kept-now h k (m - told_len (asked d)) c le x.0);
      }

  -- a drain that ended before its first dequeue or turn
  pub ends-first : (syncs : D → Option ℕ) (P : Language) (d : D) (st : State) (k turns : ℕ)
      → ((t : ℕ) (c : List ℕ) → t ≤ moment d → may_leave d c → reach d t c (told_len (said d)) (told_len (asked d)))
      → ((c : List ℕ) (n m : ℕ) → reach d (moment d) c n m → may_leave d c × (n ≡ told_len (said d)) × (m ≡ told_len (asked d)))
      → k ≤ length st.history
      → ((c : List ℕ) → may_leave d c → IsHistoryOf (take k st.history) c)
      → ((c : List ℕ) → told_image d ≡ Some c → IsHistoryOf (take k st.history) c)
      → EndsEarly told_image moment reach said asked syncs P d d st k turns
  ends-first syncs P d st k turns counts_now only_now le here read = record {
    done = 0;
    within = omega arith;
    calls = [];
    marks = [];
    after = st;
    machine = reaches-drains P 0 0 st st [] [] (Queues (queue_names P)) false (reaches-first P st);
    last = [];
    of_next = inl refl;
    told = told-none (asked d);
    few_syncs = no_more (syncs d) (syncs d) refl 2;
    leaves = quiet-kept d st.history k counts_now only_now le here;
    reads = λ image told. kept-now st.history k 0 image le (read image told);
  }
