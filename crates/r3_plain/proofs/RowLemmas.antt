-- The writes of an entry, put one after the other.
use Rattle.std.proofs.Common.{◌≡◌, ℕ, List, [], ◌∷◌, Option, refl, ap, ◌∙◌}
use Rattle.std.specs.Prelude.{fold}
use Rattle.std.specs.BTreeMap.{insert_entry}
use Rattle.std.specs.Ordering.{match_ordering}
use Rattle.std.specs.declared.cmp.Ordering.{Ordering}
use Rattle.std.specs.declared.cmp.Ordering.TheVariants.{Less, Equal, Greater}
use Rattle.std.specs.FinMap.Entries.{put, by_order}
use Rattle.r3_rows.specs.declared.rows.Key.{Key}
use Rattle.r3_rows.specs.declared.rows.Cell.{Cell}
use Rattle.r3_rows.specs.Keys.{key_cmp}
use Rattle.r3_rows.specs.contracts.rows.KeyOrd.TheImpl as derived
use Rattle.r3_entry.specs.History.{Map, Write}
use Rattle.r3_plain.proofs.DerivedOrder.{same_cmp}

module _ {K X : Type 0} (cmp : K → K → Ordering) where
  pub insert_put : (k : K) (v : X) (es : List (K × X)) → insert_entry cmp es k v ≡ put cmp k v es
  insert_put k v [] = refl
  insert_put k v (e ∷ es) = elim (cmp k e.0) as (λ r. match_ordering r ((k, v) ∷ e ∷ es) ((e.0, v) ∷ es) (e ∷ insert_entry cmp es k v) ≡ by_order r ((k, v) ∷ e ∷ es) ((e.0, v) ∷ es) (e ∷ put cmp k v es)) [
    | Less ↦ refl
    | Equal ↦ refl
    | Greater ↦ ap (λ fs. e ∷ fs) (insert_put k v es)
  ]

-- by the order that is derived
pub inserted : (k : Key) (w : Write) (m : Map) → insert_entry derived.cmp-value.it m k w ≡ put key_cmp k w m
inserted k w m = ap (λ (R : Key → Key → Ordering). insert_entry R m k w) same_cmp ∙ insert_put key_cmp k w m

-- one write after the other
abbrev pub put_all : ℕ → Map → List (Key × Option Cell) → Map
put_all j m ws = fold (λ (m : Map) (w : Key × Option Cell). put key_cmp w.0 (j, w.1) m) m ws
