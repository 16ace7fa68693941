-- What stands in a formed history is within the limits.
use Rattle.std.proofs.Common.{◌≡◌, ℕ, ◌<◌, ◌≤◌, ◌^◌, ◌&&◌, Bool, true, false, List, [], ◌∷◌, map, length, Option, Some, None, refl, ap, arith}
use Rattle.std.specs.Prelude.{option_and_then, filter_map, if◌then◌else◌}
use Rattle.std.specs.Option.{option_map_or}
use Rattle.std.specs.Ordering.{is_eq}
use Rattle.std.specs.List.{AllByRecursion, cons_option}
use Rattle.std.specs.FinMap.{find}
use Rattle.r3_value.specs.declared.value.Val.{Val}
use Rattle.r3_rows.specs.declared.rows.Key.{Key}
use Rattle.r3_rows.specs.declared.rows.Key.TheVariants as keys
use Rattle.r3_rows.specs.declared.rows.Cell.{Cell}
use Rattle.r3_rows.specs.declared.rows.Cell.TheVariants as cells
use Rattle.r3_rows.specs.declared.rows.FlowRow.{FlowRow}
use Rattle.r3_rows.specs.declared.rows.StepRow.{StepRow}
use Rattle.r3_entry.specs.declared.entry.Entry.{Entry}
use Rattle.r3_entry.specs.Formed.{IsFormed}
use Rattle.r3_rows.specs.Keys.{key_cmp, bytes_cmp}
use Rattle.r3_entry.specs.History.{Write, Map, map_at, cell_at, version_at, range_at, seen_in, is_between}
use Rattle.r3_entry.specs.Limits.{IsEntry, IsWrite, IsId, IsFlow, IsStep, IsRowKey, IsVal, IfThere, IsSeen}
use Rattle.r3_entry.proofs.Append.{version_at_le}
use Rattle.r3_rows.specs.KeyOrder.{key_cmp-total}
use Rattle.r3_model.specs.Language.{Text}
use Rattle.r3_model.specs.Rows.{user_of, step_of, row_at, flow_at, step_at, view_at}
use Rattle.r3_model.specs.Lawful.{IsWithinLimits}
use Rattle.r3_laws.proofs.Cells.{AllWrites, map-holds, cell-holds}
use Rattle.r3_laws.proofs.FlowRows.{flow-cell}
use Rattle.r3_laws.proofs.Flows.{all-found, map_at-sorted}

writes-fit : (h : List Entry) → AllByRecursion IsEntry h → AllWrites IsWrite h
writes-fit [] all = tt
writes-fit (e ∷ es) all = (all.0.writes, writes-fit es all.1)

user-cell : (c : Option Cell) (v : Val) → option_and_then user_of c ≡ Some v → c ≡ Some (cells.Row v)
user-cell None v is = absurd (let z : None ≡ Some v = is in cc)
user-cell (Some (cells.Flow r)) v is = absurd (let z : None ≡ Some v = is in cc)
user-cell (Some (cells.Step r)) v is = absurd (let z : None ≡ Some v = is in cc)
user-cell (Some (cells.Row w)) v is = let same : w ≡ v = (let z : Some w ≡ Some v = is in cc) in ap (λ (x : Val). Some (cells.Row x)) same

step-cell : (c : Option Cell) (r : StepRow) → option_and_then step_of c ≡ Some r → c ≡ Some (cells.Step r)
step-cell None r is = absurd (let z : None ≡ Some r = is in cc)
step-cell (Some (cells.Row v)) r is = absurd (let z : None ≡ Some r = is in cc)
step-cell (Some (cells.Flow f)) r is = absurd (let z : None ≡ Some r = is in cc)
step-cell (Some (cells.Step s)) r is = let same : s ≡ r = (let z : Some s ≡ Some r = is in cc) in ap (λ (x : StepRow). Some (cells.Step x)) same

module _ (h : List Entry) (formed : IsFormed h) where
  all-fit : AllWrites IsWrite h
  all-fit = writes-fit h formed.limits

  pub flow-fits : (id : Text) (row : FlowRow) → flow_at h (length h) id ≡ Some row → IsId id × IsFlow row
  flow-fits id row there = let w : IsWrite (keys.Flow id, Some (cells.Flow row)) = cell-holds IsWrite h (length h) (keys.Flow id) (cells.Flow row) all-fit (flow-cell (cell_at h (length h) (keys.Flow id)) row there) in (w.0, w.1)

  pub step-fits : (id : Text) (n : ℕ) (r : StepRow) → step_at h (length h) id n ≡ Some r → (IsId id × (n < 1000)) × IsStep r
  step-fits id n r there = let w : IsWrite (keys.Step id n, Some (cells.Step r)) = cell-holds IsWrite h (length h) (keys.Step id n) (cells.Step r) all-fit (step-cell (cell_at h (length h) (keys.Step id n)) r there) in (w.0, w.1)

  module _ (k : ℕ) (le : k ≤ length h) where
    by_value : (table key : Text) (o : Option Val) → row_at h k table key ≡ o → IfThere IsVal o
    by_value table key None is = tt
    by_value table key (Some v) is = let w : IsWrite (keys.User table key, Some (cells.Row v)) = cell-holds IsWrite h k (keys.User table key) (cells.Row v) all-fit (user-cell (cell_at h k (keys.User table key)) v is) in w.1

    number-fits : (q : Key) → version_at h k q < 2 ^ 32
    number-fits q = omega (arith, version_at_le h q k le, formed.few, le)

    if-seen : (table lo hi t key : Text) (j : ℕ) (b : Bool) (rest : List (Text × ℕ)) → IsSeen (key, j) → AllByRecursion IsSeen rest → AllByRecursion IsSeen (cons_option (if b then Some (key, j) else None) rest)
    if-seen table lo hi t key j true rest one all = (one, all)
    if-seen table lo hi t key j false rest one all = all

    seen-fit : (table lo hi : Text) (ps : Map) → AllByRecursion (λ (p : Key × Write). find key_cmp p.0 (map_at h k) ≡ Some p.1) ps → AllByRecursion IsSeen (filter_map (seen_in table lo hi) ps)
    seen-fit table lo hi [] all = tt
    seen-fit table lo hi ((keys.Flow id, w) ∷ ps) all = seen-fit table lo hi ps all.1
    seen-fit table lo hi ((keys.Step id n, w) ∷ ps) all = seen-fit table lo hi ps all.1
    seen-fit table lo hi ((keys.User t key, (j, None)) ∷ ps) all = seen-fit table lo hi ps all.1
    seen-fit table lo hi ((keys.User t key, (j, Some c)) ∷ ps) all =
        let w : IsWrite (keys.User t key, Some c) = map-holds IsWrite h k all-fit (keys.User t key) (j, Some c) all.0 in
        let version : version_at h k (keys.User t key) ≡ j = ap (λ (o : Option Write). option_map_or (λ (x : Write). x.0) o 0) all.0 in
        if-seen table lo hi t key j (is_eq (bytes_cmp t table) && is_between lo hi key) (filter_map (seen_in table lo hi) ps) (w.0.1, omega (arith, version, number-fits (keys.User t key))) (seen-fit table lo hi ps all.1)

    keys-fit : (seen : List (Text × ℕ)) → AllByRecursion IsSeen seen → AllByRecursion IsRowKey (map (λ (p : Text × ℕ). p.0) seen)
    keys-fit [] all = tt
    keys-fit (p ∷ ps) all = (all.0.0, keys-fit ps all.1)

    -- what a transaction sees is within the limits
    pub view-sound : IsWithinLimits (view_at h k)
    view-sound = record {
      cells = λ table key. by_value table key (row_at h k table key) refl;
      versions = λ table key. number-fits (keys.User table key);
      keys = λ table lo hi. keys-fit (range_at h k table lo hi) (seen-fit table lo hi (map_at h k) (all-found key_cmp key_cmp-total (map_at h k) (map_at-sorted h k)));
    }
