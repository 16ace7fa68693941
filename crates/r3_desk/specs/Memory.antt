-- The state of a disk, an output and an outside party in memory, from the calls that were recorded.
use Rattle.std.specs.Prelude.{◌≡◌, ◌⊎◌, ℕ, ◌+◌, ◌-◌, ◌≤◌, Bool, ◌&&◌, ◌==◌, nat_le, nat_lt, if◌then◌else◌, List, [], ◌∷◌, ◌++◌, length, take, drop, replicate}
use Rattle.r3_desk.specs.Crash.{Reach}
use Rattle.r3_desk.specs.Disk.{Torn, overwritten}
use Rattle.r3_desk.specs.declared.step.Step.{Step}
use Rattle.r3_desk.specs.declared.step.Step.TheVariants.{Idle, Write, Sync, Say, Ask}

-- the image at the last sync, the ranges written since, the newest first, the image as read, and two numbers
pub record State : Type 0 where
  pub base : List ℕ
  pub ranges : List (ℕ × ℕ)
  pub image : List ℕ
  pub said : ℕ
  pub asked : ℕ

-- the bytes written before a step; those of the newest write stand last
abbrev pub bytes_before : Step → List ℕ → List ℕ
bytes_before Idle bytes = bytes
bytes_before (Write at len) bytes = take (length bytes - len) bytes
bytes_before Sync bytes = bytes
bytes_before (Say len) bytes = bytes
bytes_before Ask bytes = bytes

abbrev pub after_step : Step → List ℕ → State → State
after_step Idle bytes s = s
after_step (Write at len) bytes s = record s { ranges = (at, len) ∷ s.ranges; image = overwritten s.image at (drop (length bytes - len) bytes) }
after_step Sync bytes s = record s { base = s.image; ranges = [] }
after_step (Say len) bytes s = record s { said = s.said + len }
after_step Ask bytes s = record s { asked = s.asked + 1 }

-- the state after these steps, the newest first, over the first image, with all bytes that they wrote
abbrev pub state : List ℕ → List Step → List ℕ → State
state first [] bytes = record { base = first; ranges = []; image = first; said = 0; asked = 0 }
state first (step ∷ older) bytes = after_step step bytes (state first older (bytes_before step bytes))

-- what a crash may leave over an image on the disk and ranges that aren't synced, the newest first
abbrev pub TornBy : List (ℕ × ℕ) → List ℕ → List ℕ → Type 0
TornBy [] base image = image ≡ base
TornBy (range ∷ ranges) base image = (before : List ℕ) × TornBy ranges base before × Torn range.0 range.1 before image

-- what a crash in this state may leave; what a read gives is one of them
abbrev pub MayLeave : State → List ℕ → Type 0
MayLeave s image = TornBy s.ranges s.base image ⊎ (image ≡ s.image)

abbrev pub LeavesAt : State → List ℕ → ℕ → ℕ → Type 0
LeavesAt s image said asked = MayLeave s image × (said ≡ s.said) × (asked ≡ s.asked)

-- how many bytes a step wrote to the disk
abbrev pub write_len : Step → ℕ
write_len Idle = 0
write_len (Write at len) = len
write_len Sync = 0
write_len (Say len) = 0
write_len Ask = 0

-- how many of the steps are syncs
abbrev pub sync_count : List Step → ℕ
sync_count [] = 0
sync_count (Idle ∷ steps) = sync_count steps
sync_count (Write at len ∷ steps) = sync_count steps
sync_count (Sync ∷ steps) = sync_count steps + 1
sync_count (Say len ∷ steps) = sync_count steps
sync_count (Ask ∷ steps) = sync_count steps

-- at some moment since t: after at least t of the steps
abbrev pub ReachIn : List ℕ → List Step → List ℕ → Reach
ReachIn first [] bytes t image said asked = (t ≤ 0) × LeavesAt (state first [] bytes) image said asked
ReachIn first (step ∷ older) bytes t image said asked =
    ((t ≤ length older + 1) × LeavesAt (state first (step ∷ older) bytes) image said asked)
    ⊎ ReachIn first older (bytes_before step bytes) t image said asked

-- the steps up to a moment, and the bytes that they wrote
abbrev pub past : List Step → List ℕ → ℕ → List Step × List ℕ
past [] bytes moment = ([], bytes)
past (step ∷ older) bytes moment = if nat_lt (length older) moment then (step ∷ older, bytes) else past older (bytes_before step bytes) moment

-- the state at a moment: after so many of the steps
abbrev pub state_when : List ℕ → List Step → List ℕ → ℕ → State
state_when first steps bytes moment = let p = past steps bytes moment in state first p.0 p.1

-- each write begins within the image or at its end, and these are just the bytes that the writes wrote
abbrev pub fitting : List ℕ → List Step → List ℕ → Bool
fitting first [] bytes = length bytes == 0
fitting first (Idle ∷ older) bytes = fitting first older bytes
fitting first (Write at len ∷ older) bytes =
    nat_le at (length (state first older (bytes_before (Write at len) bytes)).image) && nat_le len (length bytes) && fitting first older (bytes_before (Write at len) bytes)
fitting first (Sync ∷ older) bytes = fitting first older bytes
fitting first (Say len ∷ older) bytes = fitting first older bytes
fitting first (Ask ∷ older) bytes = fitting first older bytes
