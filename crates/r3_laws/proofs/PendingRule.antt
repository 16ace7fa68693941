-- The running workflows by the rows are those of the machine.
use Rattle.std.proofs.Common.{◌≡◌, Bool, true, false, cond, List, [], ◌∷◌, map, refl, ap, ◌∙◌}
use Rattle.std.specs.Prelude.{filter, if◌then◌else◌, nat_le}
use Rattle.sys_queue.specs.Rows.{Rows, is_pending}
use Rattle.sys_pending.specs.Running as rule
use Rattle.r3_model.specs.Language.{Text}
use Rattle.r3_model.specs.Rows.{Flow, flows_at, placed, by_start}
use Rattle.r3_laws.specs.OfQueues.{rows_of}
use Rattle.r3_laws.specs.OfPending.{PendingTells}

placed-same : (f : Flow) (gs : List Flow) → rule.placed (f.id, f.row) (rows_of gs) ≡ rows_of (placed f gs)
placed-same f [] = refl
placed-same f (g ∷ gs) = by_le (nat_le f.row.started g.row.started) (placed-same f gs) where
  by_le : (b : Bool) → rule.placed (f.id, f.row) (rows_of gs) ≡ rows_of (placed f gs)
      → (if b then (f.id, f.row) ∷ (g.id, g.row) ∷ rows_of gs else (g.id, g.row) ∷ rule.placed (f.id, f.row) (rows_of gs)) ≡ rows_of (if b then f ∷ g ∷ gs else g ∷ placed f gs)
  by_le true more = refl
  by_le false more = ap (λ (fs : Rows). (g.id, g.row) ∷ fs) more

by_start-same : (fs : List Flow) → rule.by_start (rows_of fs) ≡ rows_of (by_start fs)
by_start-same [] = refl
by_start-same (f ∷ fs) = ap (λ (gs : Rows). rule.placed (f.id, f.row) gs) (by_start-same fs) ∙ placed-same f (by_start fs)

kept-same : (fs : List Flow) → filter (λ (p : rule.Flow). is_pending p.1.status) (rows_of fs) ≡ rows_of (filter (λ (f : Flow). is_pending f.row.status) fs)
kept-same [] = refl
kept-same (f ∷ fs) = by_status (is_pending f.row.status) (kept-same fs) where
  by_status : (b : Bool) → filter (λ (p : rule.Flow). is_pending p.1.status) (rows_of fs) ≡ rows_of (filter (λ (f : Flow). is_pending f.row.status) fs)
      → cond b ((f.id, f.row) ∷ filter (λ (p : rule.Flow). is_pending p.1.status) (rows_of fs)) (filter (λ (p : rule.Flow). is_pending p.1.status) (rows_of fs)) ≡ rows_of (cond b (f ∷ filter (λ (f : Flow). is_pending f.row.status) fs) (filter (λ (f : Flow). is_pending f.row.status) fs))
  by_status true more = ap (λ (gs : Rows). (f.id, f.row) ∷ gs) more
  by_status false more = more

ids-same : (fs : List Flow) → map (λ (p : rule.Flow). p.0) (rows_of fs) ≡ map (λ (f : Flow). f.id) fs
ids-same [] = refl
ids-same (f ∷ fs) = ap (λ (ids : List Text). f.id ∷ ids) (ids-same fs)

pub pending-tells : PendingTells
pending-tells h k =
    let fs : List Flow = flows_at h k in
    let runs : List Flow = filter (λ (f : Flow). is_pending f.row.status) fs in
    ap (λ (gs : Rows). map (λ (p : rule.Flow). p.0) (rule.by_start gs)) (kept-same fs)
    ∙ ap (λ (gs : Rows). map (λ (p : rule.Flow). p.0) gs) (by_start-same runs) ∙ ids-same (by_start runs)
