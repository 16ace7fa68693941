-- The map of a history is sorted, so each workflow that it lists is the one of its ID.
use Rattle.std.proofs.Common.{◌≡◌, ℕ, true, cond, List, [], ◌∷◌, Option, Some, None, refl, ap, ◌∙◌}
use Rattle.std.specs.Prelude.{fold, filter_map, take, option_and_then}
use Rattle.std.specs.List.{AllByRecursion, enumerate_from, cons_option}
use Rattle.std.specs.Ordering.{is_eq, is_lt, ordering_reverse}
use Rattle.std.specs.Cmp.{IsTotalOrder, tied_itself}
use Rattle.std.specs.FinMap.Entries.{find, is_sorted, below_all}
use Rattle.std.specs.declared.cmp.Ordering.{Ordering}
use Rattle.std.specs.declared.cmp.Ordering.TheVariants.{Greater}
use Rattle.r3_rows.specs.declared.rows.Key.{Key}
use Rattle.r3_rows.specs.declared.rows.Key.TheVariants as keys
use Rattle.r3_rows.specs.declared.rows.Cell.{Cell}
use Rattle.r3_rows.specs.declared.rows.FlowRow.{FlowRow}
use Rattle.r3_entry.specs.declared.entry.Entry.{Entry}
use Rattle.r3_rows.specs.Keys.{key_cmp}
use Rattle.r3_entry.specs.History.{Write, Map, after_entry, map_at}
use Rattle.r3_rows.specs.KeyOrder.{key_cmp-total}
use Rattle.r3_model.specs.Language.{Text}
use Rattle.r3_model.specs.Rows.{Flow, flow_of, flow_seen, flow_at, flows_at}
use Rattle.r3_laws.proofs.InOrder.{parts, less, sorted-puts}

sorted-entries : (m : Map) (es : List (ℕ × Entry)) → is_sorted key_cmp m ≡ true → is_sorted key_cmp (fold after_entry m es) ≡ true
sorted-entries m [] sorted = sorted
sorted-entries m (e ∷ es) sorted = sorted-entries (after_entry m e) es (sorted-puts key_cmp key_cmp-total (λ (w : Key × Option Cell). (w.0, (e.0, w.1))) m e.1.writes sorted)

pub map_at-sorted : (h : List Entry) (k : ℕ) → is_sorted key_cmp (map_at h k) ≡ true
map_at-sorted h k = sorted-entries [] (enumerate_from 1 (take k h)) refl

-- ---- what stands in a sorted list is what is found there

module _ {K X : Type 0} (R : K → K → Ordering) (o : IsTotalOrder R) where
  abbrev AreFound : List (K × X) → List (K × X) → Type 0
  AreFound es ps = AllByRecursion (λ (p : K × X). find R p.0 es ≡ Some p.1) ps

  past_first : (e : K × X) (es ps : List (K × X)) → below_all R e.0 ps ≡ true → AreFound es ps → AreFound (e ∷ es) ps
  past_first e es [] below all = tt
  past_first e es (p ∷ ps) below all =
      let both = parts (is_lt (R e.0 p.0)) _ below in
      let above : R p.0 e.0 ≡ Greater = o.antisymm p.0 e.0 ∙ ap ordering_reverse (less (R e.0 p.0) both.0) in
      (ap (λ (r : Ordering). cond (is_eq r) (Some e.1) (find R p.0 es)) above ∙ all.0, past_first e es ps both.1 all.1)

  pub all-found : (es : List (K × X)) → is_sorted R es ≡ true → AreFound es es
  all-found [] sorted = tt
  all-found (e ∷ es) sorted =
      let both = parts (below_all R e.0 es) _ sorted in
      (ap (λ (r : Ordering). cond (is_eq r) (Some e.1) (find R e.0 es)) (tied_itself o e.0), past_first e es es both.0 (all-found es both.1))

-- ---- workflows

module _ (h : List Entry) (k : ℕ) where
  abbrev IsThere : Flow → Type 0
  IsThere f = flow_at h k f.id ≡ Some f.row

  one-there : (id : Text) (o : Option FlowRow) (fs : List Flow) → flow_at h k id ≡ o → AllByRecursion IsThere fs
      → AllByRecursion IsThere (cons_option (option_and_then (λ (r : FlowRow). Some (record { id = id; row = r })) o) fs)
  one-there id None fs is all = all
  one-there id (Some r) fs is all = (is, all)

  all-there : (ps : Map) → AllByRecursion (λ (p : Key × Write). find key_cmp p.0 (map_at h k) ≡ Some p.1) ps → AllByRecursion IsThere (filter_map flow_seen ps)
  all-there [] all = tt
  all-there ((keys.User table key, w) ∷ ps) all = all-there ps all.1
  all-there ((keys.Flow id, w) ∷ ps) all =
      one-there id (option_and_then flow_of w.1) (filter_map flow_seen ps) (ap (λ (o : Option Write). option_and_then flow_of (option_and_then (λ (w : Write). w.1) o)) all.0) (all-there ps all.1)
  all-there ((keys.Step id n, w) ∷ ps) all = all-there ps all.1

  pub flows_at-there : AllByRecursion IsThere (flows_at h k)
  flows_at-there = all-there (map_at h k) (all-found key_cmp key_cmp-total (map_at h k) (map_at-sorted h k))
