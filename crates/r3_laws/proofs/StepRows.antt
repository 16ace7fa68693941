-- Each step that an entry writes on a formed history is new, and its workflow is there.
use Rattle.std.proofs.Common.{◌≡◌, ℕ, Bool, true, false, cond, ◌||◌, List, [], ◌∷◌, ◌++◌, length, Option, Some, None, refl, sym, subst, ap, ◌∙◌}
use Rattle.std.specs.Prelude.{option_and_then, is_some, IsSome}
use Rattle.std.specs.Option.{option_map_or}
use Rattle.std.specs.List.{AllByRecursion}
use Rattle.std.specs.Ordering.{eq_by_cmp}
use Rattle.std.specs.FinMap.{find}
use Rattle.std.proofs.lemmas.List.{append_assoc, append-nil}
use Rattle.r3_rows.specs.declared.rows.Key.{Key}
use Rattle.r3_rows.specs.declared.rows.Key.TheVariants as keys
use Rattle.r3_rows.specs.declared.rows.Cell.{Cell}
use Rattle.r3_rows.specs.declared.rows.Cell.TheVariants as cells
use Rattle.r3_rows.specs.declared.rows.FlowRow.{FlowRow}
use Rattle.r3_rows.specs.declared.rows.StepRow.{StepRow}
use Rattle.r3_entry.specs.declared.entry.Entry.{Entry}
use Rattle.r3_entry.specs.Formed.{FollowEachOther, Follows, IsFormed, IsOfKind, IsNewStep}
use Rattle.r3_rows.specs.Keys.{key_cmp}
use Rattle.r3_entry.specs.History.{Write, map_at, cell_at, version_at}
use Rattle.r3_rows.specs.KeyOrder.{key_cmp-same}
use Rattle.r3_model.specs.Language.{Text}
use Rattle.r3_model.specs.Rows.{flow_of, step_of, flow_at, step_at}
use Rattle.r3_model.specs.Acts.{Writes}
use Rattle.r3_laws.proofs.After.{after, cell-after, tied, after-unwritten}
use Rattle.r3_laws.proofs.CaseKinds.{AreOfKind}
use Rattle.r3_laws.proofs.Cells.{AllWrites, map-holds, cell-holds}
use Rattle.r3_laws.proofs.FlowRows.{kinds-follow}
use Rattle.r3_laws.proofs.NewSteps.{touches}

-- ---- a step without a row has no version

no-version : (id : Text) (n : ℕ) (o : Option Write) → option_and_then step_of (option_and_then (λ (w : Write). w.1) o) ≡ None → ((w : Write) → o ≡ Some w → IsOfKind (keys.Step id n, w.1)) → option_map_or (λ (w : Write). w.0) o 0 ≡ 0
no-version id n None gone kinds = refl
no-version id n (Some (j, None)) gone kinds = absurd (kinds (j, None) refl)
no-version id n (Some (j, Some (cells.Row v))) gone kinds = absurd (kinds (j, Some (cells.Row v)) refl)
no-version id n (Some (j, Some (cells.Flow r))) gone kinds = absurd (kinds (j, Some (cells.Flow r)) refl)
no-version id n (Some (j, Some (cells.Step r))) gone kinds = absurd (let z : Some r ≡ None = gone in cc)

pub version-none : (h : List Entry) (id : Text) (n : ℕ) → IsFormed h → step_at h (length h) id n ≡ None → version_at h (length h) (keys.Step id n) ≡ 0
version-none h id n formed gone =
    no-version id n (find key_cmp (keys.Step id n) (map_at h (length h))) gone (λ w found. map-holds IsOfKind h (length h) (kinds-follow [] h formed.entries) (keys.Step id n) w found)

-- ---- a Flow row stays

abbrev pub has_flow : Option Cell → Bool
has_flow c = is_some (option_and_then flow_of c)

flow-row : (id : Text) (k : Key) (c : Option Cell) → keys.Flow id ≡ k → IsOfKind (k, c) → has_flow c ≡ true
flow-row id (keys.User t k) c same kind = absurd (let e : keys.Flow id ≡ keys.User t k = same in cc)
flow-row id (keys.Step i n) c same kind = absurd (let e : keys.Flow id ≡ keys.Step i n = same in cc)
flow-row id (keys.Flow i) None same kind = absurd kind
flow-row id (keys.Flow i) (Some (cells.Row v)) same kind = absurd kind
flow-row id (keys.Flow i) (Some (cells.Step r)) same kind = absurd kind
flow-row id (keys.Flow i) (Some (cells.Flow r)) same kind = refl

one-flow : (id : Text) (w : Key × Option Cell) (c : Option Cell) (b : Bool) → eq_by_cmp key_cmp (keys.Flow id) w.0 ≡ b → IsOfKind w → has_flow c ≡ true → has_flow (cond b w.1 c) ≡ true
one-flow id w c true is kind has = flow-row id w.0 w.1 (key_cmp-same (keys.Flow id) w.0 (tied (key_cmp (keys.Flow id) w.0) is)) kind
one-flow id w c false is kind has = has

flows-stay : (id : Text) (ws : Writes) (c : Option Cell) → AreOfKind ws → has_flow c ≡ true → has_flow (after ws (keys.Flow id) c) ≡ true
flows-stay id [] c kinds has = has
flows-stay id (w ∷ ws) c kinds has = flows-stay id ws (cond (eq_by_cmp key_cmp (keys.Flow id) w.0) w.1 c) kinds.1 (one-flow id w c (eq_by_cmp key_cmp (keys.Flow id) w.0) refl kinds.0 has)

pub flow-stays : (h : List Entry) (e : Entry) (id : Text) → AreOfKind e.writes → has_flow (cell_at h (length h) (keys.Flow id)) ≡ true → has_flow (cell_at (h ++ e ∷ []) (length (h ++ e ∷ [])) (keys.Flow id)) ≡ true
flow-stays h e id kinds has = ap has_flow (cell-after h e (keys.Flow id)) ∙ flows-stay id e.writes (cell_at h (length h) (keys.Flow id)) kinds has

-- ---- where there is no workflow there are no steps

abbrev HasFlows : List Entry → Type 0
HasFlows h = (id : Text) (n : ℕ) (r : StepRow) → step_at h (length h) id n ≡ Some r → has_flow (cell_at h (length h) (keys.Flow id)) ≡ true

as_flow : (c : Option Cell) (id : Text) → IsSome c → ((x : Cell) → c ≡ Some x → IsOfKind (keys.Flow id, Some x)) → has_flow c ≡ true
as_flow None id some kinds = absurd (let z : false ≡ true = some in cc)
as_flow (Some (cells.Row v)) id some kinds = absurd (kinds (cells.Row v) refl)
as_flow (Some (cells.Step r)) id some kinds = absurd (kinds (cells.Step r) refl)
as_flow (Some (cells.Flow r)) id some kinds = refl

-- the step that a write is of
new-at : (old new : List Entry) (id : Text) (n : ℕ) (k : Key) (c : Option Cell) → keys.Step id n ≡ k → IsNewStep old new (k, c) → IsSome (cell_at new (length new) (keys.Flow id))
new-at old new id n (keys.User t k) c same is = absurd (let e : keys.Step id n ≡ keys.User t k = same in cc)
new-at old new id n (keys.Flow i) c same is = absurd (let e : keys.Step id n ≡ keys.Flow i = same in cc)
new-at old new id n (keys.Step i m) c same is =
    let ids : i ≡ id = (let e : keys.Step id n ≡ keys.Step i m = same in cc) in
    let Of : Text → Type 0 = λ x. IsSome (cell_at new (length new) (keys.Flow x)) in
    subst Of ids is.1

first-new : (old new : List Entry) (id : Text) (n : ℕ) (w : Key × Option Cell) (rest b : Bool) → eq_by_cmp key_cmp (keys.Step id n) w.0 ≡ b → IsNewStep old new w → (b || rest) ≡ true
    → (rest ≡ true → IsSome (cell_at new (length new) (keys.Flow id))) → IsSome (cell_at new (length new) (keys.Flow id))
first-new old new id n (k, c) rest true is step touched later = new-at old new id n k c (key_cmp-same (keys.Step id n) k (tied (key_cmp (keys.Step id n) k) is)) step
first-new old new id n (k, c) rest false is step touched later = later touched

touched-new : (old new : List Entry) (id : Text) (n : ℕ) (ws : Writes) → AllByRecursion (IsNewStep old new) ws → touches ws (keys.Step id n) ≡ true → IsSome (cell_at new (length new) (keys.Flow id))
touched-new old new id n [] all is = absurd cc
touched-new old new id n (w ∷ ws) all is = first-new old new id n w (touches ws (keys.Step id n)) (eq_by_cmp key_cmp (keys.Step id n) w.0) refl all.0 is (λ later. touched-new old new id n ws all.1 later)

kinds-push : (g : List Entry) (e : Entry) → AllWrites IsOfKind g → AreOfKind e.writes → AllWrites IsOfKind (g ++ e ∷ [])
kinds-push [] e all kinds = (kinds, tt)
kinds-push (x ∷ g) e all kinds = (all.0, kinds-push g e all.1 kinds)

by_touch : (g : List Entry) (e : Entry) → HasFlows g → AllWrites IsOfKind g → Follows g e → (id : Text) (n : ℕ) (r : StepRow) (b : Bool) → touches e.writes (keys.Step id n) ≡ b → step_at (g ++ e ∷ []) (length (g ++ e ∷ [])) id n ≡ Some r
    → has_flow (cell_at (g ++ e ∷ []) (length (g ++ e ∷ [])) (keys.Flow id)) ≡ true
by_touch g e has kinds f id n r true is there =
    let new : List Entry = g ++ e ∷ [] in
    as_flow (cell_at new (length new) (keys.Flow id)) id (touched-new g new id n e.writes f.steps is) (λ x found. cell-holds IsOfKind new (length new) (keys.Flow id) x (kinds-push g e kinds f.kinds) found)
by_touch g e has kinds f id n r false is there =
    flow-stays g e id f.kinds (has id n r (ap (λ (c : Option Cell). option_and_then step_of c) (sym (cell-after g e (keys.Step id n) ∙ after-unwritten e.writes (keys.Step id n) (cell_at g (length g) (keys.Step id n)) is)) ∙ there))

all-flows : (g es : List Entry) → HasFlows g → AllWrites IsOfKind g → FollowEachOther g es → HasFlows (g ++ es)
all-flows g [] has kinds all = subst HasFlows (sym (append-nil g)) has
all-flows g (e ∷ es) has kinds all =
    subst HasFlows (append_assoc g (e ∷ []) es)
    (all-flows (g ++ e ∷ []) es (λ id n r there. by_touch g e has kinds all.0 id n r (touches e.writes (keys.Step id n)) refl there) (kinds-push g e kinds all.0.kinds) all.1)

no-flow : (c : Option Cell) → option_and_then flow_of c ≡ None → has_flow c ≡ true → ⊥
no-flow c gone has = let clash : false ≡ true = sym (ap (λ (o : Option FlowRow). is_some o) gone) ∙ has in (let z : false ≡ true = clash in cc)

by_step : (h : List Entry) (id : Text) (n : ℕ) → HasFlows h → flow_at h (length h) id ≡ None → (o : Option StepRow) → step_at h (length h) id n ≡ o → o ≡ None
by_step h id n has gone None is = refl
by_step h id n has gone (Some r) is = absurd (no-flow (cell_at h (length h) (keys.Flow id)) gone (has id n r is))

pub steps-none : (h : List Entry) (id : Text) (n : ℕ) → IsFormed h → flow_at h (length h) id ≡ None → step_at h (length h) id n ≡ None
steps-none h id n formed gone =
    by_step h id n (all-flows [] h (λ i m r there. absurd (let z : None ≡ Some r = there in cc)) tt formed.entries) gone (step_at h (length h) id n) refl

pub some-flow : (c : Option Cell) → has_flow c ≡ true → IsSome c
some-flow None has = absurd (let z : false ≡ true = has in cc)
some-flow (Some c) has = refl
