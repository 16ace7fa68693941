-- The workflows that have a row, and their rows one after the other.
use Rattle.std.proofs.Common.{◌≡◌, Bool, true, false, cond, ◌&&◌, List, [], ◌∷◌, ◌++◌, map, Some, None, refl, ap, ◌∙◌}
use Rattle.std.specs.Prelude.{filter_map}
use Rattle.std.specs.List.{AllByRecursion}
use Rattle.std.specs.Ordering.{is_eq, is_lt, ordering_reverse}
use Rattle.std.specs.declared.cmp.Ordering.{Ordering}
use Rattle.std.specs.declared.cmp.Ordering.TheVariants.{Less, Greater}
use Rattle.std.specs.FinMap.Entries.{find, is_sorted, below_all}
use Rattle.std.proofs.lemmas.Cmp.{nat_list_cmp_total}
use Rattle.r3_rows.specs.declared.rows.Key.{Key}
use Rattle.r3_rows.specs.declared.rows.Key.TheVariants as keys
use Rattle.r3_rows.specs.declared.rows.Cell.TheVariants as cells
use Rattle.r3_rows.specs.declared.rows.FlowRow.{FlowRow}
use Rattle.r3_rows.specs.Keys.{key_cmp, bytes_cmp}
use Rattle.r3_rows.specs.KeyOrder.{key_cmp-total}
use Rattle.r3_entry.specs.Formed.{IsOfKind}
use Rattle.r3_entry.specs.History.{Write, Map, map_at}
use Rattle.sys_queue.specs.Rows.{Rows}
use Rattle.r3_model.specs.Language.{Text}
use Rattle.r3_laws.specs.OfPending.{RowsGather, RowsListed, id_in}
use Rattle.r3_laws.proofs.Cells.{Holds, map-holds}
use Rattle.r3_laws.proofs.FlowRows.{kinds-follow}
use Rattle.r3_laws.proofs.Flows.{all-found, map_at-sorted}
use Rattle.r3_laws.proofs.InOrder.{parts, less, puts-sorted}
use Rattle.r3_laws.proofs.RowsNow.{rows_in}

-- ---- which workflows have a row

abbrev AreOfKind : Map → Type 0
AreOfKind ps = AllByRecursion (λ (p : Key × Write). IsOfKind (p.0, p.1.1)) ps

of-kind : (m ps : Map) → Holds IsOfKind m → AllByRecursion (λ (p : Key × Write). find key_cmp p.0 m ≡ Some p.1) ps → AreOfKind ps
of-kind m [] holds all = tt
of-kind m (p ∷ ps) holds all = (holds p.0 p.1 all.0, of-kind m ps holds all.1)

listed : (ps : Map) → AreOfKind ps → filter_map id_in ps ≡ map (λ (f : Text × FlowRow). f.0) (rows_in ps)
listed [] all = refl
listed ((keys.User table key, w) ∷ ps) all = listed ps all.1
listed ((keys.Step id n, w) ∷ ps) all = listed ps all.1
listed ((keys.Flow id, (j, Some (cells.Flow row))) ∷ ps) all = ap (λ (ids : List Text). id ∷ ids) (listed ps all.1)
listed ((keys.Flow id, (j, None)) ∷ ps) all = absurd all.0
listed ((keys.Flow id, (j, Some (cells.Row v))) ∷ ps) all = absurd all.0
listed ((keys.Flow id, (j, Some (cells.Step r))) ∷ ps) all = absurd all.0

pub rows-listed : RowsListed
rows-listed h k formed =
    listed (map_at h k) (of-kind (map_at h k) (map_at h k) (map-holds IsOfKind h k (kinds-follow [] h formed.entries)) (all-found key_cmp key_cmp-total (map_at h k) (map_at-sorted h k)))

-- ---- rows in order, one after the other

not_last : (before after : Rows) (id : Text) (row : FlowRow) → is_sorted bytes_cmp (before ++ (id, row) ∷ after) ≡ true → find bytes_cmp id before ≡ None
not_last [] after id row sorted = refl
not_last (e ∷ es) after id row sorted =
    let p = parts (below_all bytes_cmp e.0 (es ++ (id, row) ∷ after)) (is_sorted bytes_cmp (es ++ (id, row) ∷ after)) sorted in
    let above : bytes_cmp id e.0 ≡ Greater = nat_list_cmp_total.antisymm id e.0 ∙ ap ordering_reverse (below-last e.0 es p.0) in
    ap (λ (o : Ordering). cond (is_eq o) (Some e.1) (find bytes_cmp id es)) above ∙ not_last es after id row p.1 where
      below-last : (x : Text) (es : Rows) → below_all bytes_cmp x (es ++ (id, row) ∷ after) ≡ true → bytes_cmp x id ≡ Less
      below-last x [] below = less (bytes_cmp x id) (parts (is_lt (bytes_cmp x id)) (below_all bytes_cmp x after) below).0
      below-last x (f ∷ fs) below = below-last x fs (parts (is_lt (bytes_cmp x f.0)) (below_all bytes_cmp x (fs ++ (id, row) ∷ after)) below).1

-- without those after it
without : (before after : Rows) (id : Text) (row : FlowRow) → is_sorted bytes_cmp (before ++ (id, row) ∷ after) ≡ true → is_sorted bytes_cmp (before ++ (id, row) ∷ []) ≡ true
without [] after id row sorted = refl
without (e ∷ es) after id row sorted =
    let p = parts (below_all bytes_cmp e.0 (es ++ (id, row) ∷ after)) (is_sorted bytes_cmp (es ++ (id, row) ∷ after)) sorted in
    both (below_all bytes_cmp e.0 (es ++ (id, row) ∷ [])) (is_sorted bytes_cmp (es ++ (id, row) ∷ [])) (below-cut es p.0) (without es after id row p.1) where
      both : (a b : Bool) → a ≡ true → b ≡ true → (a && b) ≡ true
      both true b p q = q
      both false b p q = absurd cc

      below-cut : (fs : Rows) → below_all bytes_cmp e.0 (fs ++ (id, row) ∷ after) ≡ true → below_all bytes_cmp e.0 (fs ++ (id, row) ∷ []) ≡ true
      below-cut [] below = both (is_lt (bytes_cmp e.0 id)) true (parts (is_lt (bytes_cmp e.0 id)) (below_all bytes_cmp e.0 after) below).0 refl
      below-cut (f ∷ fs) below =
          let p = parts (is_lt (bytes_cmp e.0 f.0)) (below_all bytes_cmp e.0 (fs ++ (id, row) ∷ after)) below in
          both (is_lt (bytes_cmp e.0 f.0)) (below_all bytes_cmp e.0 (fs ++ (id, row) ∷ [])) p.0 (below-cut fs p.1)

pub rows-gather : RowsGather
rows-gather before after id row sorted = (not_last before after id row sorted, puts-sorted bytes_cmp nat_list_cmp_total before ((id, row) ∷ []) (without before after id row sorted))
