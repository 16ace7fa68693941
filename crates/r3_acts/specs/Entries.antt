-- Entries on any history of a length.
use Rattle.std.specs.Prelude.{◌≡◌, ℕ, List, length}
use Rattle.r3_entry.specs.declared.entry.Entry.{Entry}

-- the entry is the one that is made on each history of so many entries
abbrev pub IsMadeOn : ℕ → (List Entry → Entry) → Entry → Type 0
IsMadeOn count made e = (h : List Entry) → length h ≡ count → e ≡ made h
