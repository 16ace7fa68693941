-- How far a call has come, by what was said, asked and stored since its start.
use Rattle.std.specs.Prelude.{◌≡◌, ◌⊎◌, ℕ, ◌-◌, ◌≤◌, List, ◌++◌, length, Option, Some}
use Rattle.std.specs.Option.{ForSome}
use Rattle.r3_entry.specs.declared.entry.Entry.{Entry}
use Rattle.r3_entry.specs.Image.{IsHistoryOf}
use Rattle.r3_desk.specs.Asked as desk
use Rattle.r3_desk.specs.Crash.{Reach, LeavesOnly, NothingPending}
use Rattle.r3_desk.specs.Disk.{told_len, told_push}
use Rattle.r3_model.specs.Language.{Language, Text}
use Rattle.r3_model.specs.Event.{Reply, Call}
use Rattle.r3_model.specs.Held.{Mark}
use Rattle.r3_model.specs.Machine.{State}
use Rattle.r3_model.specs.Script.{Line}
use Rattle.r3_exec.specs.Does.{told_after}
use Rattle.r3_serve.specs.Held.{IsHeld}
use Rattle.r3_serve.specs.Served.{Loud, said_of, Calls}

-- at any moment, the bytes said and the calls asked are some between those of then and now
abbrev pub AreBetween : {A B : Type 0} → Option (List A) → Option (List A) → Option (List B) → Option (List B) → ℕ → ℕ → Type 0
AreBetween said_then said_now asked_then asked_now n m =
    (told_len said_then ≤ n) × (n ≤ told_len said_now) × (told_len asked_then ≤ m) × (m ≤ told_len asked_now)

-- A crash at any moment leaves the history, or a prefix of it with all that was acknowledged by then.
abbrev pub LeavesPrefix : {D : Type 0} → (D → ℕ) → (D → Reach) → (D → Option Text) → (D → Option (List desk.Call)) → D → D → List Entry → ℕ → List Mark → Type 0
LeavesPrefix moment reach said asked from now h first marks =
    LeavesOnly moment reach from now (λ image n m. AreBetween (said from) (said now) (asked from) (asked now) n m
    × (IsHistoryOf h image ⊎ IsHeld h first marks (n - told_len (said from)) (m - told_len (asked from)) image))

-- These bytes were said, and nothing else has happened.
pub record Says {D : Type 0} (told_image : D → Option Text) (said : D → Option Text) (asked : D → Option (List desk.Call)) (from now : D) (bytes : Text) : Type 0 where
  pub told : said now ≡ told_push (said from) bytes
  pub asks : asked now ≡ asked from
  pub stored : told_image now ≡ told_image from

-- The disk was read at most: a crash, now and at any moment since, leaves the image that was there.
pub record Untouched {D : Type 0} (told_image : D → Option Text) (may_leave : D → Text → Type 0) (moment : D → ℕ) (reach : D → Reach) (said : D → Option Text) (asked : D → Option (List desk.Call)) (syncs : D → Option ℕ) (from now : D) : Type 0 where
  pub stored : told_image now ≡ told_image from
  pub unsynced : syncs now ≡ syncs from
  pub settled : NothingPending (told_image from) (may_leave now)
  pub leaves : LeavesOnly moment reach from now (λ image n m. AreBetween (said from) (said now) (asked from) (asked now) n m
      × (told_image from ≡ Some image))

-- The machine's call on this history with these lines was done: its replies were said, with this line behind them,
-- its calls were asked, and its history is stored. A crash now leaves all of it.
pub record Answered {D : Type 0} (told_image : D → Option Text) (may_leave : D → Text → Type 0) (moment : D → ℕ) (reach : D → Reach) (said : D → Option Text) (asked : D → Option (List desk.Call)) (from now : D) (P : Language) (text : Text) (h : List Entry) (lines : List Line) (line : Text) : Type 0 where
  pub calls : List Call
  pub marks : List Mark
  pub after : State
  pub replies : List Reply
  pub machine : Calls P text h lines after calls marks replies
  pub told : said now ≡ told_push (said from) (said_of Loud replies ++ line)
  pub asks : asked now ≡ told_after (asked from) calls
  pub stored : ForSome (told_image now) (IsHistoryOf after.history)
  pub settled : (image : Text) → may_leave now image → IsHistoryOf after.history image
  pub leaves : LeavesPrefix moment reach said asked from now after.history (length h) marks
