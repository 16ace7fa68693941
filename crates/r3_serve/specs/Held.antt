-- What a crash leaves of a call that says its replies.
use Rattle.std.specs.Prelude.{ℕ, ◌-◌, ◌≤◌, List, [], ◌∷◌, length, take, Option}
use Rattle.r3_entry.specs.declared.entry.Entry.{Entry}
use Rattle.r3_entry.specs.Image.{IsHistoryOf}
use Rattle.r3_desk.specs.Asked as desk
use Rattle.r3_desk.specs.Crash.{Reach, LeavesOnly}
use Rattle.r3_desk.specs.Disk.{told_len}
use Rattle.r3_model.specs.Held.{Mark, Said, Asked, held}

-- Of the history, a prefix with all that was there first, and all that is owed once so many bytes were said and so
-- many calls asked.
pub record IsHeld (h : List Entry) (first : ℕ) (marks : List Mark) (said asked : ℕ) (image : List ℕ) : Type 0 where
  pub len : ℕ
  pub within : len ≤ length h
  pub held_kept : held first marks said asked ≤ len
  pub history_of : IsHistoryOf (take len h) image

-- at any moment
abbrev pub LeavesHeld : {D : Type 0} → (D → ℕ) → (D → Reach) → (D → Option (List ℕ)) → (D → Option (List desk.Call)) → D → D → List Entry → ℕ → List Mark → Type 0
LeavesHeld moment reach said asked old new h first marks =
    LeavesOnly moment reach old new (λ image n m.
    (told_len (said old) ≤ n) × (n ≤ told_len (said new)) × (told_len (asked old) ≤ m) × (m ≤ told_len (asked new))
    × IsHeld h first marks (n - told_len (said old)) (m - told_len (asked old)) image)

-- the marks of calls alone
abbrev pub asked_marks : List Mark → List Mark
asked_marks [] = []
asked_marks (Said bytes kept ∷ marks) = asked_marks marks
asked_marks (Asked kept ∷ marks) = Asked kept ∷ asked_marks marks
