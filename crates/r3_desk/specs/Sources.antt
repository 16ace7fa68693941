-- Reads of a source, and what a source in memory shows.
use Rattle.std.specs.Prelude.{◌≡◌, ℕ, ◌+◌, ◌-◌, ◌^◌, min, Bool, false, ◌&&◌, ◌||◌, ◌==◌, nat_lt, List, length, take, drop, Result, Ok, Err, MatchResult, Contains}
use Rattle.r3_desk.specs.Contents.{risen}
use Rattle.r3_desk.specs.Fails.{next_number}

-- a read of this result, for a buffer of this length, gives the end
abbrev pub ends : {E : Type 0} → Result ℕ E → ℕ → Bool
ends (Ok n) len = (n == 0) && nat_lt 0 len
ends (Err e) len = false

-- the bytes that are left, whether a read gave the end, the numbers of reads that fail, how many were made, the count of faults
pub record SourceContents : Type 0 where
  pub left : List ℕ
  pub ended : Bool
  pub fails : List ℕ
  pub made : ℕ
  pub faults : ℕ

-- before the first read
abbrev pub fresh_source : List ℕ → List ℕ → SourceContents
fresh_source bytes fails = record { left = bytes; ended = false; fails = fails; made = 0; faults = 0 }

-- a read into this buffer: it fails exactly where its number says so, and else gives as many bytes as it can
abbrev pub ReadCall : {E : Type 0} → SourceContents → SourceContents → List ℕ → Result ℕ E → Type 0
ReadCall old new into result = MatchResult result
    (λ n. (Contains old.fails (next_number old.made) → ⊥) × (n ≡ min (length into) (length old.left)) × (take n into ≡ take n old.left)
    × (new ≡ record old { left = drop n old.left; ended = old.ended || ends result (length into); made = next_number old.made }))
    (λ _. Contains old.fails (next_number old.made) × (new ≡ record old { made = next_number old.made; faults = risen old.faults }))
