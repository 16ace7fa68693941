-- What a shelf in memory shows, and how a call changes it.
use Rattle.std.specs.Prelude.{◌≡◌, ℕ, ◌+◌, ◌<◌, ◌≤◌, Bool, ◌==◌, List, [], ◌∷◌, length, Result, Ok, Err, Some, None, Contains, IsNone, string_bytes, if◌then◌else◌, ◌⊎◌}
use Rattle.std.specs.declared.option.Option.{Option}
use Rattle.std.specs.Cmp.Lexicographic.{pointwise}
use Rattle.r3_desk.specs.Contents.{risen}
use Rattle.r3_desk.specs.Fails.{next_number}
use Rattle.r3_desk.specs.declared.shelf.ShelfFault.{ShelfFault}
use Rattle.r3_desk.specs.declared.shelf.ShelfFault.TheVariants.{Fault, TooLong, Memory}

-- the text of the first of equal paths, each of which stands before its text
abbrev pub first_text : List (List ℕ × List ℕ) → List ℕ → Option (List ℕ)
first_text [] path = None
first_text (entry ∷ entries) path = if pointwise ◌==◌ entry.0 path then Some entry.1 else first_text entries path

-- the paths with their texts, the numbers of calls that fail, how many were made, the count of faults
pub record ShelfContents : Type 0 where
  pub texts : List (List ℕ × List ℕ)
  pub fails : List ℕ
  pub made : ℕ
  pub faults : ℕ

-- before the first call
abbrev pub fresh_shelf : List (List ℕ × List ℕ) → List ℕ → ShelfContents
fresh_shelf texts fails = record { texts = texts; fails = fails; made = 0; faults = 0 }

-- the next call for this path fails: its number says so, or there is no such path
abbrev pub Misses : ShelfContents → List ℕ → Type 0
Misses s path = Contains s.fails (next_number s.made) ⊎ (first_text s.texts path ≡ None)

-- after a call that doesn't fail
abbrev pub counted_text : ShelfContents → ShelfContents
counted_text s = record s { made = next_number s.made }

-- a call for a path, with a limit
abbrev pub TextCall : {V : Type 0} → (V → List ℕ) → ShelfContents → ShelfContents → List ℕ → ℕ → Result V ShelfFault → Type 0
TextCall items old new path limit (Ok v) = (Misses old path → ⊥) × (first_text old.texts path ≡ Some (items v)) × (length (items v) ≤ limit) × (new ≡ counted_text old)
TextCall items old new path limit (Err Fault) = Misses old path × (new ≡ record (counted_text old) { faults = risen old.faults })
TextCall items old new path limit (Err TooLong) = (Misses old path → ⊥) × ((text : List ℕ) × (first_text old.texts path ≡ Some text) × (limit < length text)) × (new ≡ counted_text old)
TextCall items old new path limit (Err Memory) = (Misses old path → ⊥) × (new ≡ counted_text old)
