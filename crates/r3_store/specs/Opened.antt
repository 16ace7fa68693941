-- Why a file is no store, and a store that was just opened.
use Rattle.std.specs.Prelude.{◌≡◌, ◌⊎◌, ℕ, List, [], length, Bool, Option, Some, ⊤}
use Rattle.std.specs.Option.{ForSome}
use Rattle.r3_gate.specs.Log.{IsLog, IsForeign, IsDamaged}
use Rattle.r3_gate.specs.Gate.{Tracks}
use Rattle.r3_gate.specs.declared.gate.Gate.{Gate}
use Rattle.r3_entry.specs.declared.entry.Entry.{Entry}
use Rattle.r3_entry.specs.Image.{IsHistoryOf}
use Rattle.r3_store.specs.Holds.{Holds}
use Rattle.r3_formed.specs.Load.{Loads, AreUnformed, payloads}
use Rattle.r3_formed.specs.declared.loading.Loaded.{Loaded}
use Rattle.r3_store.specs.declared.store.Store.{Store}
use Rattle.r3_store.specs.declared.fault.OpenFault.{OpenFault}
use Rattle.r3_store.specs.declared.fault.OpenFault.TheVariants as faults
use Rattle.r3_formed.specs.declared.fault.LoadFault.{LoadFault}
use Rattle.r3_formed.specs.declared.fault.LoadFault.TheVariants as loads
use Rattle.r3_gate.specs.declared.fault.GateFault.{GateFault}
use Rattle.r3_gate.specs.declared.fault.GateFault.TheVariants as gates

-- the log is whole, and entry k is the first that isn't formed
pub record IsUnformed (image : List ℕ) (k : ℕ) : Type 0 where
  pub all : List (List ℕ)
  pub log : IsLog image all
  pub unformed : AreUnformed all k

-- the log of the history h was read: nothing is staged
pub record Reads {D : Type 0} (told_size : D → Option ℕ) (told_image : D → Option (List ℕ)) (may_leave : D → List ℕ → Type 0) (desk : D) (gate : Gate) (loaded : Loaded) (keep : Bool) (h : List Entry) : Type 0 where
  pub tracks : Tracks told_size told_image may_leave desk gate (payloads h) []
  pub loads : Loads loaded keep h
  pub told : (image : List ℕ) → told_image desk ≡ Some image → IsHistoryOf h image

-- the store was just opened on the history h
pub record Opens {D : Type 0} (told_size : D → Option ℕ) (told_image : D → Option (List ℕ)) (may_leave : D → List ℕ → Type 0) (desk : D) (store : Store) (h : List Entry) : Type 0 where
  pub holds : Holds told_size told_image may_leave desk store h (length h)
  pub told : (image : List ℕ) → told_image desk ≡ Some image → IsHistoryOf h image
  pub fresh : store.pins ≡ []

-- the disk has failed, or a growth was refused
abbrev pub IsStopped : OpenFault → Type 0
IsStopped f = (f ≡ faults.Disk) ⊎ (f ≡ faults.Memory)

-- what each fault says of the image, where it is told
abbrev pub IsCaused : Option (List ℕ) → OpenFault → Type 0
IsCaused image faults.NotStore = ForSome image IsForeign
IsCaused image (faults.Damaged k) = ForSome image (λ i. IsDamaged i k)
IsCaused image (faults.NotFormed k) = ForSome image (λ i. IsUnformed i k)
IsCaused image faults.Disk = ⊤
IsCaused image faults.Memory = ⊤

-- the fault of the log, as the store tells it
abbrev pub open_fault : GateFault → OpenFault
open_fault gates.NotStore = faults.NotStore
open_fault (gates.Damaged k) = faults.Damaged k
open_fault (gates.Full limit) = faults.Memory
open_fault gates.Disk = faults.Disk
open_fault gates.Memory = faults.Memory

-- the fault of reading the entries, as the store tells it
abbrev pub formed_fault : LoadFault → OpenFault
formed_fault (loads.NotFormed k) = faults.NotFormed k
formed_fault loads.Memory = faults.Memory
