-- The JSON of a value is read as that value.
use Rattle.std.proofs.Common.{◌≡◌, ◌≤◌, pos, negsuc, false, Ok, refl, arith}
use Rattle.serde_json.specs.Written.{has_float, items_have_float}
use Rattle.r3_value.specs.Value.{Value, null, boolean, integer, text, list, Items, no_items, item, weight, weights, depth, depths, IsProper, AreProper, IsValue}
use Rattle.r3_json.specs.Values.{data_of, items_data, value_from, values_from, within_limits}

inside : (v : Value) → weight v ≤ 4096 → depth v ≤ 16 → within_limits v ≡ Ok v
inside v small shallow = grind (arith, small, shallow)

mutual
  reads : (v : Value) → IsProper v → weight v ≤ 4096 → depth v ≤ 16 → value_from (data_of v) ≡ Ok v
  reads null p s d = refl
  reads (boolean b) p s d = refl
  reads (integer (pos n)) p s d = grind (arith, p)
  reads (integer (negsuc n)) p s d = refl
  reads (text t) p s d = inside (text t) s d
  reads (list vs) p s d = rw (reads_items vs p (omega arith) (omega arith)) (inside (list vs) s d)

  reads_items : (vs : Items) → AreProper vs → weights vs ≤ 4096 → depths vs ≤ 16 → values_from (items_data vs) ≡ Ok vs
  reads_items no_items p s d = refl
  reads_items (item v vs) p s d = rw (reads v p.0 (omega arith) (omega arith), reads_items vs p.1 (omega arith) (omega arith)) refl

pub reads_back : (v : Value) → IsValue v → value_from (data_of v) ≡ Ok v
reads_back v is = reads v is.proper is.small is.shallow

mutual
  pub has_float-data_of : (v : Value) → has_float (data_of v) ≡ false
  has_float-data_of null = refl
  has_float-data_of (boolean b) = refl
  has_float-data_of (integer (pos n)) = refl
  has_float-data_of (integer (negsuc n)) = refl
  has_float-data_of (text t) = refl
  has_float-data_of (list vs) = items_have_float-items_data vs

  items_have_float-items_data : (vs : Items) → items_have_float (items_data vs) ≡ false
  items_have_float-items_data no_items = refl
  items_have_float-items_data (item v vs) = rw (has_float-data_of v, items_have_float-items_data vs) refl
