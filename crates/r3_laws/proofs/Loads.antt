-- A load's entry tells the load.
use Rattle.std.proofs.Common.{◌≡◌, ℕ, suc, ◌+◌, ◌≤◌, Bool, true, ◌&&◌, List, [], ◌∷◌, map, length, Option, Some, None, refl, sym, ap, ◌∙◌, arith}
use Rattle.std.specs.Prelude.{fold, filter_map, bytes_eq, nat_le, if◌then◌else◌}
use Rattle.std.specs.List.{list_all}
use Rattle.std.specs.FinMap.Entries.{put, is_sorted, by_order}
use Rattle.std.specs.declared.cmp.Ordering.{Ordering}
use Rattle.std.specs.declared.cmp.Ordering.TheVariants.{Less, Equal, Greater}
use Rattle.std.proofs.lemmas.List.{length-map}
use Rattle.std.proofs.lemmas.Slice.Eq.{bytes_eq-Decides}
use Rattle.r3_value.specs.declared.value.Val.{Val}
use Rattle.r3_rows.specs.declared.rows.Key.{Key}
use Rattle.r3_rows.specs.declared.rows.Key.TheVariants as keys
use Rattle.r3_rows.specs.declared.rows.Cell.{Cell}
use Rattle.r3_entry.specs.declared.entry.Act.TheVariants as acts
use Rattle.r3_entry.specs.declared.entry.Entry.{Entry}
use Rattle.r3_rows.specs.Keys.{key_cmp}
use Rattle.r3_laws.proofs.InOrder.{in_order-sorted, sorted-in_order}
use Rattle.r3_model.specs.Language.{Text}
use Rattle.r3_model.specs.Event.{Event, Run}
use Rattle.sys_flow.specs.declared.command.Command.TheVariants.{Load}
use Rattle.r3_model.specs.Acts.{Writes, row_write, in_order, load_entry}
use Rattle.r3_model.specs.Schedule.{event_of, row_written, load_of, or_nothing}

-- ---- the rows of a load

abbrev pub Rows : Type 0
Rows = List (Text × Val)

module _ (table : Text) where
  abbrev writes : Rows → Writes
  writes rows = map (row_write table) rows

  -- these writes are of rows of the table, of so many at most
  pub record AreRows (most : ℕ) (ws : Writes) : Type 0 where
    pub rows : Rows
    pub are : ws ≡ map (row_write table) rows
    pub some : 1 ≤ length rows
    pub few : length rows ≤ most

  by_place : (row r : Text × Val) (rs : Rows) → AreRows (length rs + 1) (put key_cmp (row_write table row).0 (row_write table row).1 (writes rs)) → (c : Ordering)
      → AreRows (suc (length rs) + 1) (by_order c (row_write table row ∷ writes (r ∷ rs)) (((row_write table r).0, (row_write table row).1) ∷ writes rs) (row_write table r ∷ put key_cmp (row_write table row).0 (row_write table row).1 (writes rs)))
  by_place row r rs later Less = record { rows = row ∷ r ∷ rs; are = refl; some = omega arith; few = omega arith }
  by_place row r rs later Equal = record { rows = (r.0, row.1) ∷ rs; are = refl; some = omega arith; few = omega arith }
  by_place row r rs later Greater = record { rows = r ∷ later.rows; are = ap (λ (x : Writes). row_write table r ∷ x) later.are; some = omega arith; few = omega (arith, later.few) }

  put-row : (row : Text × Val) (rows : Rows) → AreRows (length rows + 1) (put key_cmp (row_write table row).0 (row_write table row).1 (writes rows))
  put-row row [] = record { rows = row ∷ []; are = refl; some = omega arith; few = omega arith }
  put-row row (r ∷ rs) = by_place row r rs (put-row row rs) (key_cmp (keys.User table row.0) (keys.User table r.0))

  puts-rows : (old rows : Rows) → 1 ≤ length old + length rows → AreRows (length old + length rows) (fold (λ (m : Writes) (w : Key × Option Cell). put key_cmp w.0 w.1 m) (writes old) (writes rows))
  puts-rows old [] some = record { rows = old; are = refl; some = omega arith; few = omega arith }
  puts-rows old (row ∷ rows) some =
      let first : AreRows (length old + 1) (put key_cmp (row_write table row).0 (row_write table row).1 (writes old)) = put-row row old in
      let all : AreRows (length first.rows + length rows) (fold (λ (m : Writes) (w : Key × Option Cell). put key_cmp w.0 w.1 m) (writes first.rows) (writes rows)) = puts-rows first.rows rows (omega (arith, first.some)) in
      record {
        rows = all.rows;
        are = ap (λ (m : Writes). fold (λ (m : Writes) (w : Key × Option Cell). put key_cmp w.0 w.1 m) m (writes rows)) first.are ∙ all.are;
        some = all.some;
        few = omega (arith, all.few, first.few);
      }

  pub in_order-rows : (rows : Rows) → 1 ≤ length rows → AreRows (length rows) (in_order (map (row_write table) rows))
  in_order-rows rows some =
      let all : AreRows (0 + length rows) (in_order (map (row_write table) rows)) = puts-rows [] rows (omega arith) in
      record { rows = all.rows; are = all.are; some = all.some; few = omega (arith, all.few) }

  -- ---- and back

  read-rows : (rows : Rows) → filter_map row_written (writes rows) ≡ map (λ (r : Text × Val). (table, r)) rows
  read-rows [] = refl
  read-rows (r ∷ rs) = ap (λ (x : List (Text × (Text × Val))). (table, r) ∷ x) (read-rows rs)

  of_one : (rows : Rows) → list_all (λ (q : Text × (Text × Val)). bytes_eq q.0 table) (map (λ (r : Text × Val). (table, r)) rows) ≡ true
  of_one [] = refl
  of_one (r ∷ rs) = ap (λ (b : Bool). b && list_all (λ (q : Text × (Text × Val)). bytes_eq q.0 table) (map (λ (r : Text × Val). (table, r)) rs)) ((bytes_eq-Decides table table).1 refl) ∙ of_one rs

  bare : (rows : Rows) → map (λ (q : Text × (Text × Val)). q.1) (map (λ (r : Text × Val). (table, r)) rows) ≡ rows
  bare [] = refl
  bare (r ∷ rs) = ap (λ (x : Rows). r ∷ x) (bare rs)

  at_most : (m n : ℕ) → m ≤ n → nat_le m n ≡ true
  at_most m n le = grind arith

  taken : (a b c : Bool) (x y : Option Event) → a ≡ true → b ≡ true → c ≡ true → (if a && b && c then x else y) ≡ x
  taken a b c x y p q r = rw (p, q, r) refl

  pub load-told : (rows : Rows) → 1 ≤ length rows → length rows ≤ 1024 → load_of (writes rows) (filter_map row_written (writes rows)) ≡ Some (Run (Load table rows))
  load-told [] some few = absurd (omega arith)
  load-told (r ∷ rs) some few =
      let long : length (writes (r ∷ rs)) ≡ length (r ∷ rs) = length-map (r ∷ rs) (row_write table) in
      let pairs : List (Text × (Text × Val)) = map (λ (r : Text × Val). (table, r)) (r ∷ rs) in
      let even : length pairs ≡ length (r ∷ rs) = length-map (r ∷ rs) (λ (r : Text × Val). (table, r)) in
      ap (λ (x : List (Text × (Text × Val))). load_of (writes (r ∷ rs)) x) (read-rows (r ∷ rs))
      ∙ taken (list_all (λ (q : Text × (Text × Val)). bytes_eq q.0 table) (map (λ (r : Text × Val). (table, r)) rs)) (nat_le (length (writes (r ∷ rs))) (length pairs)) (nat_le (length (writes (r ∷ rs))) 1024) _ None
      (of_one rs) (at_most _ _ (omega (arith, long, even))) (at_most _ _ (omega (arith, long, few)))
      ∙ ap (λ (x : Rows). Some (Run (Load table x))) (bare (r ∷ rs))

-- the entry of a load is that of the rows which it tells
pub record ToldLoad (h : List Entry) (table : Text) (rows : Rows) : Type 0 where
  pub told : Rows
  pub event : event_of (load_entry h table rows) ≡ Run (Load table told)
  pub again : load_entry h table told ≡ load_entry h table rows

pub load-tells : (h : List Entry) (table : Text) (rows : Rows) → 1 ≤ length rows → length rows ≤ 1024 → ToldLoad h table rows
load-tells h table rows some few =
    let r : AreRows table (length rows) (in_order (map (row_write table) rows)) = in_order-rows table rows some in
    let least : length r.rows ≤ 1024 = omega (arith, r.few) in
    let sorted : is_sorted key_cmp (map (row_write table) r.rows) ≡ true = ap (λ (x : Writes). is_sorted key_cmp x) (sym r.are) ∙ sorted-in_order (map (row_write table) rows) in
    record {
      told = r.rows;
      event = ap (λ (x : Writes). or_nothing (load_of x (filter_map row_written x))) r.are ∙ ap or_nothing (load-told table r.rows r.some least);
      again = ap (λ (x : Writes). record { act = acts.Load; snap = length h; reads = []; writes = x }) (in_order-sorted (map (row_write table) r.rows) sorted ∙ sym r.are);
    }
