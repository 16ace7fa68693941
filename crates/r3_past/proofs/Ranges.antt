-- The keys of a range with their versions, found one by one.
use Rattle.std.proofs.Common.{◌≡◌, ℕ, List, map, sym, subst}
use Rattle.std.specs.Prelude.{filter_map}
use Rattle.r3_entry.specs.declared.entry.Entry.{Entry}
use Rattle.r3_entry.specs.History.{Map, map_at, seen_in}
use Rattle.r3_model.specs.Language.{Text}
use Rattle.r3_laws.proofs.Ranges.{range-paired}
use Rattle.r3_past.specs.Maps.{versions_in}

pub keys-paired : (m : Map) (h : List Entry) (k : ℕ) → m ≡ map_at h k → (table lo hi : Text)
    → filter_map (seen_in table lo hi) m ≡ map (λ (x : Text). (x, (versions_in m).version table x)) ((versions_in m).keys table lo hi)
keys-paired m h k is table lo hi =
    subst (λ (m : Map). filter_map (seen_in table lo hi) m ≡ map (λ (x : Text). (x, (versions_in m).version table x)) ((versions_in m).keys table lo hi))
    (sym is) (sym (range-paired h k table lo hi))
