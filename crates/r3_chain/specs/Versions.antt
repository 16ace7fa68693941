-- What contracts see of version chains: each key's versions, and the keys that have room for one more.
use Rattle.std.specs.Prelude.{ℕ, ◌+◌, ◌<◌, ◌≤◌, Bool, cond, ◌&&◌, nat_le, List, [], ◌∷◌, length, fold, filter, map, Option, Some, None, unwrap_or, refl}
use Rattle.std.specs.List.{list_any, AllByRecursion}
use Rattle.std.specs.Ordering.{is_le, is_gt, eq_by_cmp}
use Rattle.std.specs.declared.cmp.Ordering.{Ordering}
use Rattle.std.specs.FinMap.{find}
use Rattle.std.specs.FinMap.Entries.{put}
use Rattle.std.specs.BTreeSet.{insert_key}
use Rattle.std.specs.Set.{remove_key}
use Rattle.std.specs.Coded.{Coded, code_by, coded×, coded_ℕ, coded_list, coded_option}

-- the index at which it was installed, and the value or None for a deletion
abbrev pub Version : Type 0 → Type 0
Version V = ℕ × Option V

-- the versions of each key, the newest first, in the order of the keys
abbrev pub Versions : Type 0 → Type 0 → Type 0
Versions K V = List (K × List (Version V))

pub record Chains (K V : Type 0) : Type 0 where
  pub versions : Versions K V
  -- the keys that have room for one version, in their order
  pub room : List K
  pub cap : ℕ

abbrev pub chains_code : {K V : Type 0} → Coded K → Coded V → Coded (Chains K V)
chains_code {K} {V} k v =
    code_by (Versions K V × (List K × ℕ))
    (coded× (coded_list (coded× k (coded_list (coded× coded_ℕ (coded_option v))))) (coded× (coded_list k) coded_ℕ))
    (λ c. (c.versions, (c.room, c.cap)))
    (λ p. record { versions = p.0; room = p.1.0; cap = p.1.1 })
    (λ _. refl)

module _ {V : Type 0} where
  -- the last version up to the index
  abbrev pub last_upto : ℕ → List (Version V) → Option (Version V)
  last_upto index [] = None
  last_upto index (v ∷ vs) = cond (nat_le v.0 index) (Some v) (last_upto index vs)

  -- the index of the first version past the snapshot
  abbrev pub first_past : ℕ → List (Version V) → Option ℕ
  first_past snap [] = None
  first_past snap (v ∷ vs) = cond (nat_le v.0 snap) (first_past snap vs) (Some (unwrap_or (first_past snap vs) v.0))

  -- the versions past the index and the last one up to it
  abbrev pub trimmed : ℕ → List (Version V) → List (Version V)
  trimmed oldest [] = []
  trimmed oldest (v ∷ vs) = cond (nat_le v.0 oldest) (v ∷ []) (v ∷ trimmed oldest vs)

  -- no index is below one behind it
  abbrev pub AreFalling : List (Version V) → Type 0
  AreFalling [] = Unit {0}
  AreFalling (v ∷ vs) = AllByRecursion (λ w. w.0 ≤ v.0) vs × AreFalling vs

  -- what a key stood at, with its index; None where it was absent or deleted
  abbrev pub present : Option (Version V) → Option (V × ℕ)
  present None = None
  present (Some (index, None)) = None
  present (Some (index, Some value)) = Some (value, index)

module _ {K : Type 0} (cmp : K → K → Ordering) where
  abbrev pub has_room : K → List K → Bool
  has_room key room = list_any (eq_by_cmp cmp key) room

  abbrev pub without : K → List K → List K
  without key room = remove_key (λ k. eq_by_cmp cmp key k) room

  -- the different keys of a list, in their order
  abbrev pub key_set : List K → List K
  key_set keys = fold (insert_key cmp) [] keys

module _ {K V : Type 0} where
  abbrev pub kept_count : Versions K V → ℕ
  kept_count [] = 0
  kept_count (e ∷ es) = length e.1 + kept_count es

  module _ (cmp : K → K → Ordering) where
    abbrev pub versions_of : K → Versions K V → List (Version V)
    versions_of key es = unwrap_or (find cmp key es) []

    abbrev pub version_at : ℕ → K → Versions K V → Option (Version V)
    version_at index key es = last_upto index (versions_of key es)

    -- one more version of a key
    abbrev pub installed : ℕ → K → Option V → Versions K V → Versions K V
    installed index key value es = put cmp key ((index, value) ∷ versions_of key es) es

    -- the index exceeds the key's last one
    abbrev pub IsNext : ℕ → K → Versions K V → Type 0
    IsNext index key es = AllByRecursion (λ v. v.0 < index) (versions_of key es)

  abbrev pub with_key : K → Option (Version V) → List (K × Version V) → List (K × Version V)
  with_key key None rest = rest
  with_key key (Some v) rest = (key, v) ∷ rest

  -- the last version up to the index of each key that has one, in the order of the keys
  abbrev pub as_of : ℕ → Versions K V → List (K × Version V)
  as_of index [] = []
  as_of index (e ∷ es) = with_key e.0 (last_upto index e.1) (as_of index es)

  abbrev pub trimmed_all : ℕ → Versions K V → Versions K V
  trimmed_all oldest es = map (λ e. (e.0, trimmed oldest e.1)) es

  -- of the keys that stand at a value, which index each has
  abbrev pub present_keys : List (K × Version V) → List (K × ℕ)
  present_keys [] = []
  present_keys ((key, (index, None)) ∷ es) = present_keys es
  present_keys ((key, (index, Some value)) ∷ es) = (key, index) ∷ present_keys es

  -- the keys from lo and below hi that stand at a value as of the index, with their versions
  abbrev pub range_at : (K → K → Ordering) → K → K → ℕ → Versions K V → List (K × ℕ)
  range_at cmp lo hi index es = present_keys (filter (λ e. is_le (cmp lo e.0) && is_gt (cmp hi e.0)) (as_of index es))
