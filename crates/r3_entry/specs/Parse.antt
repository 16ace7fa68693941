-- What a reader of a part of an entry answers.
use Rattle.std.specs.Prelude.{◌≡◌, ℕ, ◌≤◌, List, ◌++◌, Result, Ok, Err}
use Rattle.r3_bytes.specs.declared.fault.FieldFault.{FieldFault}
use Rattle.r3_bytes.specs.declared.fault.FieldFault.TheVariants as faults
use Rattle.r3_bytes.specs.Field.{BeginsNone}
use Rattle.r3_entry.specs.declared.entry.Entry.{Entry}
use Rattle.r3_entry.specs.declared.fields.Miss.{Miss}
use Rattle.r3_entry.specs.declared.fields.Miss.TheVariants as miss
use Rattle.r3_entry.specs.Bytes.{entry}
use Rattle.r3_entry.specs.Limits.{IsEntry}

abbrev pub miss_of : FieldFault → Miss
miss_of (faults.NoField at) = miss.Absent
miss_of faults.Memory = miss.Memory

-- none is there, or there was no memory
abbrev pub Misses : {X : Type 0} → (X → List ℕ) → (X → Type 0) → List ℕ → Miss → Type 0
Misses spell Is bytes miss.Absent = BeginsNone spell Is bytes
Misses spell Is bytes miss.Memory = Unit {0}

-- such a thing stood at the front of the bytes, and after is left, or none stands there
abbrev pub Parses : {X : Type 0} → (X → List ℕ) → (X → Type 0) → List ℕ → List ℕ → Result X Miss → Type 0
Parses spell Is bytes after (Ok x) = Is x × (bytes ≡ spell x ++ after)
Parses spell Is bytes after (Err m) = Misses spell Is bytes m

-- two things, one after the other
abbrev pub both : {X Y : Type 0} → (X → List ℕ) → (Y → List ℕ) → X × Y → List ℕ
both s t p = s p.0 ++ t p.1

abbrev pub Both : {X Y : Type 0} → (X → Type 0) → (Y → Type 0) → X × Y → Type 0
Both I J p = I p.0 × J p.1

pub record IsBetween (least most n : ℕ) : Type 0 where
  pub above : least ≤ n
  pub below : n ≤ most

-- no entry within its limits has these bytes
abbrev pub IsNoEntry : List ℕ → Type 0
IsNoEntry bytes = (e : Entry) → IsEntry e → bytes ≡ entry e → ⊥
