-- The images that a fake in memory gives for a crash.
use Rattle.std.specs.Prelude.{ℕ, ◌≤◌, List, [], ◌∷◌, length, replicate, ⊤}
use Rattle.r3_desk.specs.Disk.{overwritten}
use Rattle.r3_desk.specs.Memory.{State}
use Rattle.r3_desk.specs.declared.step.Step.{Step}
use Rattle.r3_desk.specs.declared.step.Step.TheVariants.{Idle, Write, Sync, Say, Ask}
use Rattle.r3_desk.specs.declared.torn.Torn.{Torn}
use Rattle.r3_desk.specs.declared.torn.Torn.TheVariants.{Old, New, Fill}

-- the image with this byte throughout the ranges, of which the newest stands first
abbrev pub filled : ℕ → List (ℕ × ℕ) → List ℕ → List ℕ
filled byte [] image = image
filled byte (range ∷ older) image = overwritten (filled byte older image) range.0 (replicate range.1 byte)

-- what a crash leaves: nothing of what isn't synced, all of it, or its ranges filled with a byte
abbrev pub crash_image : Torn → State → List ℕ
crash_image Old s = s.base
crash_image New s = s.image
crash_image (Fill byte) s = filled byte s.ranges s.base

-- the image of a crash after one more write that isn't synced
abbrev pub torn_write : Torn → ℕ → List ℕ → List ℕ → List ℕ
torn_write Old at bytes left = left
torn_write New at bytes left = overwritten left at bytes
torn_write (Fill byte) at bytes left = overwritten left at (replicate (length bytes) byte)

-- a write at this offset, if it counts, begins within an image of this length or at its end
abbrev pub BeginsIn : Torn → ℕ → ℕ → Type 0
BeginsIn Old at len = ⊤
BeginsIn New at len = at ≤ len
BeginsIn (Fill byte) at len = at ≤ len

-- the image as read, and the image of a crash, after a step; these are the bytes that it wrote
abbrev pub image_after : Step → List ℕ → List ℕ → List ℕ
image_after Idle bytes image = image
image_after (Write at len) bytes image = overwritten image at bytes
image_after Sync bytes image = image
image_after (Say len) bytes image = image
image_after Ask bytes image = image

abbrev pub left_after : Torn → Step → List ℕ → List ℕ → List ℕ → List ℕ
left_after torn Idle bytes image left = left
left_after torn (Write at len) bytes image left = torn_write torn at bytes left
left_after torn Sync bytes image left = image
left_after torn (Say len) bytes image left = left
left_after torn Ask bytes image left = left

-- a step can follow images of these lengths
abbrev pub CanFollow : Torn → Step → ℕ → ℕ → Type 0
CanFollow torn Idle image left = ⊤
CanFollow torn (Write at len) image left = (at ≤ image) × BeginsIn torn at left
CanFollow torn Sync image left = ⊤
CanFollow torn (Say len) image left = ⊤
CanFollow torn Ask image left = ⊤
