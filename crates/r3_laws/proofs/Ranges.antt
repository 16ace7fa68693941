-- The versions that a range on a snapshot tells are those of its keys.
use Rattle.std.proofs.Common.{◌≡◌, ℕ, ◌&&◌, Bool, true, false, List, [], ◌∷◌, map, Option, Some, None, refl, subst, ap}
use Rattle.std.specs.Prelude.{filter_map, if◌then◌else◌}
use Rattle.std.specs.Option.{option_map_or}
use Rattle.std.specs.List.{AllByRecursion, cons_option}
use Rattle.std.specs.Ordering.{is_eq}
use Rattle.std.specs.FinMap.{nat_cmp-IsAntisymmetric, slice_cmp-IsAntisymmetric}
use Rattle.std.specs.FinMap.Entries.{find}
use Rattle.r3_rows.specs.declared.rows.Key.{Key}
use Rattle.r3_rows.specs.declared.rows.Key.TheVariants as keys
use Rattle.r3_rows.specs.declared.rows.Cell.{Cell}
use Rattle.r3_rows.specs.Keys.{key_cmp, bytes_cmp}
use Rattle.r3_rows.specs.KeyOrder.{key_cmp-total}
use Rattle.r3_entry.specs.declared.entry.Entry.{Entry}
use Rattle.r3_entry.specs.History.{Write, Map, map_at, version_at, range_at, seen_in, is_between}
use Rattle.r3_model.specs.Language.{Text}
use Rattle.r3_laws.proofs.After.{tied}
use Rattle.r3_laws.proofs.Flows.{map_at-sorted, all-found}
use Rattle.r3_laws.proofs.TellsDequeue.{both}

pub paired : (f : Text → ℕ) (xs : List (Text × ℕ)) → AllByRecursion (λ (p : Text × ℕ). f p.0 ≡ p.1) xs → map (λ (k : Text). (k, f k)) (map (λ (p : Text × ℕ). p.0) xs) ≡ xs
paired f [] all = refl
paired f (x ∷ xs) all = let rest = paired f xs all.1 in λ i. (x.0, all.0 i) ∷ rest i

module _ (h : List Entry) (s : ℕ) (table lo hi : Text) where
  abbrev IsRight : Text × ℕ → Type 0
  IsRight p = version_at h s (keys.User table p.0) ≡ p.1

  abbrev IsFound : Key × Write → Type 0
  IsFound p = find key_cmp p.0 (map_at h s) ≡ Some p.1

  one-right : (b : Bool) (p : Text × ℕ) (ps : List (Text × ℕ)) → (b ≡ true → IsRight p) → AllByRecursion IsRight ps
      → AllByRecursion IsRight (cons_option (if b then Some p else None) ps)
  one-right true p ps is all = (is refl, all)
  one-right false p ps is all = all

  found-right : (t key : Text) (j : ℕ) (cell : Cell) → IsFound (keys.User t key, (j, Some cell)) → t ≡ table → IsRight (key, j)
  found-right t key j cell is same =
      let Of : Text → Type 0 = λ x. version_at h s (keys.User x key) ≡ j in
      subst Of same (ap (λ (o : Option Write). option_map_or (λ (w : Write). w.0) o 0) is)

  table-same : (t key : Text) → (is_eq (bytes_cmp t table) && is_between lo hi key) ≡ true → t ≡ table
  table-same t key is =
      slice_cmp-IsAntisymmetric nat_cmp-IsAntisymmetric t table (tied (bytes_cmp t table) (both (is_eq (bytes_cmp t table)) (is_between lo hi key) is).0)

  all-right : (ps : Map) → AllByRecursion IsFound ps → AllByRecursion IsRight (filter_map (seen_in table lo hi) ps)
  all-right [] all = tt
  all-right ((keys.User t key, (j, Some cell)) ∷ ps) all =
      one-right (is_eq (bytes_cmp t table) && is_between lo hi key) (key, j) (filter_map (seen_in table lo hi) ps) (λ is. found-right t key j cell all.0 (table-same t key is)) (all-right ps all.1)
  all-right ((keys.User t key, (j, None)) ∷ ps) all = all-right ps all.1
  all-right ((keys.Flow id, w) ∷ ps) all = all-right ps all.1
  all-right ((keys.Step id n, w) ∷ ps) all = all-right ps all.1

  pub range-paired : map (λ (k : Text). (k, version_at h s (keys.User table k))) (map (λ (p : Text × ℕ). p.0) (range_at h s table lo hi)) ≡ range_at h s table lo hi
  range-paired =
      paired (λ (k : Text). version_at h s (keys.User table k)) (range_at h s table lo hi)
      (all-right (map_at h s) (all-found key_cmp key_cmp-total (map_at h s) (map_at-sorted h s)))
