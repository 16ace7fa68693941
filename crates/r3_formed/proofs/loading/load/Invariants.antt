use Rattle.std.proofs.Common.{◌≡◌, List, length, take}
use Rattle.r3_entry.specs.declared.entry.Entry.{Entry}
use Rattle.r3_formed.specs.Load.{Loads, payloads, bytes_of}
use Rattle.r3_formed.proofs.loading.load.Given as goal

abbrev pub invariant-payloads : goal.invariant-payloads
invariant-payloads l =
    (h : List Entry) × (l.count ≡ length h) × (l.count ≡ l.payload-index) × (payloads h ≡ take l.payload-index (bytes_of l.payloads)) × Loads l.loaded l.keep h
