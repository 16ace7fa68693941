-- Calls that go no further than a refusal, and their last line.
use Rattle.std.specs.Prelude.{◌≡◌, ◌⊎◌, ℕ, List, [], ◌++◌, Option, Some}
use Rattle.r3_desk.specs.Asked as desk
use Rattle.r3_desk.specs.Crash.{Reach, GoesOn}
use Rattle.r3_model.specs.Language.{Text}
use Rattle.r3_top.specs.Statuses.{HasLine, status_of, last_line}
use Rattle.r3_top.specs.Refusals.{IsRefusal}
use Rattle.r3_top.specs.Answered.{Says, Untouched}
use Rattle.r3_top.specs.declared.halt.Halt.{Halt}
use Rattle.r3_top.specs.declared.halt.Halt.TheVariants as halts

-- This was said by one call of the desk: all of the line, or a first part where the output failed.
pub record SaysLast {D : Type 0} (told_image : D → Option Text) (may_leave : D → Text → Type 0) (moment : D → ℕ) (reach : D → Reach) (said : D → Option Text) (asked : D → Option (List desk.Call)) (from now : D) (halt : Halt) (answer : ℕ) : Type 0 where
  pub line : Text
  pub rest : Text
  pub cut : line ++ rest ≡ last_line halt
  pub spoken : last_line halt ≡ [] → ⊥
  pub says : Says told_image said asked from now line
  pub answers : ((answer ≡ status_of halt) × (rest ≡ [])) ⊎ (answer ≡ 5)
  pub pending : (image : Text) → may_leave now image → may_leave from image
  pub time : GoesOn moment reach may_leave said asked from now

-- nothing was said: there is no last line, or there was no memory for it
abbrev pub IsSilent : Halt → ℕ → Type 0
IsSilent halt answer = ((last_line halt ≡ []) × (answer ≡ status_of halt)) ⊎ (HasLine halt × (answer ≡ 3))

-- Nothing was done but that this call's last line was said.
abbrev pub EndsAtOnce : {D : Type 0} → (D → Option Text) → (D → Text → Type 0) → (D → ℕ) → (D → Reach) → (D → Option Text) → (D → Option (List desk.Call)) → D → D → Halt → ℕ → Type 0
EndsAtOnce told_image may_leave moment reach said asked from now halt answer =
    (IsSilent halt answer × (now ≡ from)) ⊎ SaysLast told_image may_leave moment reach said asked from now halt answer

-- Neither the disk nor the outside was called, by all that is told and counted of them.
pub record CallsNeither {D : Type 0} (told_size syncs : D → Option ℕ) (disk_faults ask_faults : D → ℕ) (from now : D) : Type 0 where
  pub same_size : told_size now ≡ told_size from
  pub no_sync : syncs now ≡ syncs from
  pub no_disk_fault : disk_faults now ≡ disk_faults from
  pub no_ask_fault : ask_faults now ≡ ask_faults from

-- A call that goes no further than the store: it was refused, with nothing asked and this line said; or it was stopped,
-- with nothing said and nothing asked.
abbrev pub StopsAtStore : {D : Type 0} → (D → Option Text) → (D → Option Text) → (D → Option (List desk.Call)) → D → D → Text → Option Halt → Text → Type 0
StopsAtStore told_image said asked from now text (Some halts.Memory) line = (said now ≡ said from) × (asked now ≡ asked from)
StopsAtStore told_image said asked from now text (Some halts.Disk) line = (said now ≡ said from) × (asked now ≡ asked from)
StopsAtStore told_image said asked from now text end line =
    IsRefusal text (told_image from) end × Says told_image said asked from now line

-- However it has ended, the disk was read at most.
abbrev pub EndsAtStore : {D : Type 0} → (D → Option Text) → (D → Text → Type 0) → (D → ℕ) → (D → Reach) → (D → Option Text) → (D → Option (List desk.Call)) → (D → Option ℕ) → D → D → Text → Option Halt → Text → Type 0
EndsAtStore told_image may_leave moment reach said asked syncs from now text end line =
    StopsAtStore told_image said asked from now text end line
    × Untouched told_image may_leave moment reach said asked syncs from now
