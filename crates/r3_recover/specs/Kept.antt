-- What a crash leaves of several events, of which each may ask a call.
use Rattle.std.specs.Prelude.{◌≡◌, ℕ, ◌-◌, ◌≤◌, List, [], ◌∷◌, length, map, take, Option}
use Rattle.r3_entry.specs.declared.entry.Entry.{Entry}
use Rattle.r3_entry.specs.Image.{IsHistoryOf}
use Rattle.r3_desk.specs.Asked as desk
use Rattle.r3_desk.specs.Crash.{Reach, LeavesOnly}
use Rattle.r3_desk.specs.Disk.{told_len}
use Rattle.r3_model.specs.Event.{Call}
use Rattle.r3_model.specs.Held.{Mark, Said, Asked, owed}

-- Of the history, a prefix with all that was settled at first and that is owed once so many calls were asked.
pub record IsKept (h : List Entry) (settled : ℕ) (marks : List Mark) (asked : ℕ) (image : List ℕ) : Type 0 where
  pub len : ℕ
  pub within : len ≤ length h
  pub settled_kept : settled ≤ len
  pub owed_kept : owed marks 0 asked ≤ len
  pub history_of : IsHistoryOf (take len h) image

-- at any moment, and nothing is said meanwhile
abbrev pub LeavesKept : {D : Type 0} → (D → ℕ) → (D → Reach) → (D → Option (List ℕ)) → (D → Option (List desk.Call)) → D → D → List Entry → ℕ → List Mark → Type 0
LeavesKept moment reach said asked old new h settled marks =
    LeavesOnly moment reach old new (λ image n m.
    (n ≡ told_len (said old)) × (told_len (asked old) ≤ m) × (m ≤ told_len (asked new))
    × IsKept h settled marks (m - told_len (asked old)) image)

-- the entries that are settled: those that stood when a call was asked last, and else as many as at first
abbrev pub settled_by : ℕ → List Mark → ℕ
settled_by settled [] = settled
settled_by settled (Said bytes kept ∷ marks) = settled_by settled marks
settled_by settled (Asked kept ∷ marks) = settled_by kept marks

-- the marks of calls that are asked on a history
abbrev pub marks_on : List Entry → List Call → List Mark
marks_on h calls = map (λ (c : Call). Asked (length h)) calls
