-- What a crash leaves of runs of disk calls.
use Rattle.std.proofs.Common.{◌≡◌, ◌⊎◌, ℕ, ◌≤◌, List, take, Option, inl, inr, ⊎_elim, arith, refl, sym, subst}
use Rattle.r3_entry.specs.declared.entry.Entry.{Entry}
use Rattle.r3_entry.specs.Image.{IsHistoryOf}
use Rattle.r3_desk.specs.Asked as desk
use Rattle.r3_desk.specs.Crash.{Reach}
use Rattle.r3_desk.specs.Disk.{told_len}
use Rattle.r3_desk.specs.Moments.{started, LeavesImage}
use Rattle.r3_exec.specs.Does.{Leaves}

module _ {D : Type 0} (may_leave : D → List ℕ → Type 0) (moment : D → ℕ) (reach : D → Reach) (said : D → Option (List ℕ)) (asked : D → Option (List desk.Call)) where
  -- disk calls alone, which leave what was settled, or all
  pub by_images : (old new : D) (h : List Entry) (k : ℕ) → asked new ≡ asked old
      → LeavesImage moment reach may_leave said asked old new (λ c. IsHistoryOf (take k h) c ⊎ IsHistoryOf h c)
      → Leaves moment reach said asked old new h k
  by_images old new h k same leaves = record {
    elapses = leaves.elapses;
    each = λ c n m r.
        let x = leaves.each c n m r in
        let to : m ≤ told_len (asked new) = subst (λ (a : Option (List desk.Call)). m ≤ told_len a) (sym same) (omega (arith, x.2)) in
        (x.1, (omega (arith, x.2), to, ⊎_elim (λ was. inr (was, x.2)) (λ all. inl all) x.0));
  }

  -- disk calls alone, which leave what was settled
  pub by_images_settled : (old new : D) (h : List Entry) (k : ℕ) → asked new ≡ asked old
      → LeavesImage moment reach may_leave said asked old new (IsHistoryOf (take k h)) → Leaves moment reach said asked old new h k
  by_images_settled old new h k same leaves =
      by_images old new h k same (record { elapses = leaves.elapses; each = λ c n m r. let x = leaves.each c n m r in (inl x.0, x.1, x.2) })

  -- nothing was done
  pub quiet : (d : D) (h : List Entry) (k : ℕ)
      → ((t : ℕ) (c : List ℕ) → t ≤ moment d → may_leave d c → reach d t c (told_len (said d)) (told_len (asked d)))
      → ((c : List ℕ) (n m : ℕ) → reach d (moment d) c n m → may_leave d c × (n ≡ told_len (said d)) × (m ≡ told_len (asked d)))
      → ((c : List ℕ) → may_leave d c → IsHistoryOf (take k h) c)
      → Leaves moment reach said asked d d h k
  quiet d h k counts_now only_now here =
      by_images d d h k refl
      (started moment reach may_leave said asked d (λ c. IsHistoryOf (take k h) c ⊎ IsHistoryOf h c) counts_now only_now (λ c m. inl (here c m)))
