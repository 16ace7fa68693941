-- What chains answer under a key, in terms of the map as of an index.
use Rattle.std.specs.Prelude.{◌≡◌, ℕ, T, Option, Some, None, option_and_then, refl}
use Rattle.std.proofs.Common.{sym, ap, ◌∙◌}
use Rattle.std.specs.Option.{option_map}
use Rattle.std.specs.declared.cmp.Ordering.{Ordering}
use Rattle.std.specs.FinMap.{find}
use Rattle.std.specs.FinMap.Entries.{is_sorted}
use Rattle.r3_rows.specs.declared.rows.Key.{Key}
use Rattle.r3_rows.specs.declared.rows.Cell.{Cell}
use Rattle.r3_rows.specs.Keys.{key_cmp}
use Rattle.r3_rows.specs.KeyOrder.{key_cmp-total}
use Rattle.r3_rows.specs.contracts.rows.KeyOrd.TheImpl as derived
use Rattle.r3_chain.specs.Versions.{Versions, Version, version_at, present, as_of}
use Rattle.r3_chain.specs.VersionLaws.{of_found, find-as_of}
use Rattle.r3_snap.specs.DerivedOrder.{same_cmp}

-- the version of a key as of an index is what the map then holds
pub found_in : (es : Versions Key Cell) (k : ℕ) (key : Key) → T (is_sorted key_cmp es) → version_at derived.cmp-value.it k key es ≡ find key_cmp key (as_of k es)
found_in es k key sorted =
    ap (λ (R : Key → Key → Ordering). version_at R k key es) same_cmp
    ∙ of_found key_cmp key_cmp-total k (find key_cmp key es)
    ∙ sym (find-as_of key_cmp key_cmp-total k key es sorted)

-- its cell, where it isn't a deletion
pub cell_of : (v : Option (Version Cell)) → option_map (λ r. r.0) (present v) ≡ option_and_then (λ w. w.1) v
cell_of None = refl
cell_of (Some (j, None)) = refl
cell_of (Some (j, Some c)) = refl
