-- What is read of a log, entry after entry.
use Rattle.std.specs.Prelude.{◌≡◌, ℕ, ◌+◌, ◌^◌, Bool, cond, List, [], ◌∷◌, ◌++◌, length, map, Vec}
use Rattle.std.specs.declared.alloc.Global.{Global}
use Rattle.r3_entry.specs.declared.entry.Entry.{Entry}
use Rattle.r3_entry.specs.declared.fault.EntryFault.{EntryFault}
use Rattle.r3_entry.specs.declared.fault.EntryFault.TheVariants as misses
use Rattle.r3_entry.specs.Bytes.{entry}
use Rattle.r3_entry.specs.Formed.{IsFormed}
use Rattle.r3_formed.specs.Past.{StandFor}
use Rattle.r3_formed.specs.Answers.{program_texts, text_of}
use Rattle.r3_formed.specs.declared.loading.Loaded.{Loaded}
use Rattle.r3_formed.specs.declared.fault.LoadFault.{LoadFault}
use Rattle.r3_formed.specs.declared.fault.LoadFault.TheVariants as faults

-- the payloads of a history's records
abbrev pub payloads : List Entry → List (List ℕ)
payloads h = map entry h

abbrev pub bytes_of : List (Vec ℕ Global) → List (List ℕ)
bytes_of ps = map (λ p. p.items) ps

-- the history h was read: its versions, and all entries, or only the program texts
pub record Loads (l : Loaded) (keep : Bool) (h : List Entry) : Type 0 where
  pub formed : IsFormed h
  pub versions : StandFor l.chains.versions h 0
  pub cap : l.chains.cap ≡ 2 ^ 28
  pub entries : l.entries.items ≡ cond keep h []
  pub texts : map text_of l.texts.items ≡ cond keep [] (program_texts h)

-- of the payloads, number k is the first that is no entry or may not stand behind those before it
pub record AreUnformed (all : List (List ℕ)) (k : ℕ) : Type 0 where
  pub before : List Entry
  pub payload : List ℕ
  pub rest : List (List ℕ)
  pub is : all ≡ payloads before ++ payload ∷ rest
  pub formed : IsFormed before
  pub number : k ≡ length before + 1
  pub unformed : (e : Entry) → payload ≡ entry e → IsFormed (before ++ e ∷ []) → ⊥

abbrev pub load_fault : EntryFault → ℕ → LoadFault
load_fault misses.NotEntry k = faults.NotFormed k
load_fault misses.Memory k = faults.Memory
