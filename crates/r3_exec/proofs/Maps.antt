-- The map of a store as of an index that may be read.
use Rattle.std.proofs.Common.{◌≡◌, ℕ, List, ⊎_elim, arith}
use Rattle.r3_entry.specs.declared.entry.Entry.{Entry}
use Rattle.r3_entry.specs.History.{map_at}
use Rattle.r3_chain.specs.Versions.{as_of}
use Rattle.r3_store.specs.Holds.{Stands, IsReadable}
use Rattle.r3_store.specs.declared.store.Store.{Store}

pub map_is : (s : Store) (h : List Entry) (k : ℕ) → Stands s h → IsReadable s k → as_of k s.chains.versions ≡ map_at h k
map_is s h k stands readable =
    stands.versions.maps k (⊎_elim (λ pinned. (stands.pins k pinned).0) (λ now. omega (arith, stands.oldest, stands.count, now)) readable)
