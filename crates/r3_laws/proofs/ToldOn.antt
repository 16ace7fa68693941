-- What one more entry makes of a workflow's recorded steps.
use Rattle.std.proofs.Common.{◌≡◌, ℕ, ◌+◌, ◌<◌, ◌≤◌, Bool, true, false, cond, List, [], ◌∷◌, ◌++◌, length, Option, Some, None, refl, sym, subst, ap, ◌∙◌, arith, inl, inr, length-append}
use Rattle.std.specs.Prelude.{slice_get, option_and_then, bytes_eq}
use Rattle.std.specs.Ordering.{eq_by_cmp}
use Rattle.std.proofs.lemmas.Bool.Decides.{eqb_tells}
use Rattle.std.proofs.lemmas.Slice.Eq.{bytes_eq-Decides}
use Rattle.r3_rows.specs.declared.rows.Key.TheVariants as keys
use Rattle.r3_rows.specs.declared.rows.Cell.{Cell}
use Rattle.r3_rows.specs.declared.rows.Cell.TheVariants as cells
use Rattle.r3_rows.specs.declared.rows.FlowRow.{FlowRow}
use Rattle.r3_rows.specs.declared.rows.StepRow.{StepRow}
use Rattle.r3_entry.specs.declared.entry.Entry.{Entry}
use Rattle.r3_rows.specs.Keys.{key_cmp}
use Rattle.r3_entry.specs.History.{cell_at}
use Rattle.r3_model.specs.Language.{Text, Language}
use Rattle.r3_model.specs.Rows.{flow_of, step_of, flow_at, step_at}
use Rattle.r3_model.specs.Acts.{Writes, flow_write, step_write}
use Rattle.r3_laws.proofs.Frame.{IsQuiet, flow_at-push, step_at-push}
use Rattle.r3_laws.proofs.Quiet.{leaves}
use Rattle.r3_laws.proofs.After.{after, cell-after, after-quiet, after-append, steps-apart, copies, copies-at, copies-flow, or_old}
use Rattle.r3_laws.proofs.Places.{at-end, at-other}
use Rattle.r3_laws.proofs.Expected.{AsksFor, Expected, expected-push}
use Rattle.r3_laws.proofs.Tells.{tie-refl}
use Rattle.r3_laws.proofs.Told.{Told}

own-refl : (id : Text) → bytes_eq id id ≡ true
own-refl id = (bytes_eq-Decides id id).1 refl

module _ (P : Language) (h : List Entry) (e : Entry) (id : Text) (t : Told P h id) where
  abbrev new : List Entry
  new = h ++ e ∷ []

  -- an entry that leaves its rows alone
  pub told-quiet : IsQuiet id e → Told P (h ++ e ∷ []) id
  told-quiet quiet = record {
    steps = t.steps;
    few = t.few;
    are = λ n. step_at-push h e id n quiet ∙ t.are n;
    fresh = λ gone. t.fresh (sym (flow_at-push h e id quiet) ∙ gone);
    asked = λ row there. t.asked row (sym (flow_at-push h e id quiet) ∙ there);
  }

  abbrev flow_cell : Option Cell
  flow_cell = cell_at h (length h) (keys.Flow id)

  abbrev step_cell : ℕ → Option Cell
  step_cell n = cell_at h (length h) (keys.Step id n)

  flow-now : (ws : Writes) → e.writes ≡ ws → flow_at new (length new) id ≡ option_and_then flow_of (after ws (keys.Flow id) flow_cell)
  flow-now ws is = ap (λ (c : Option Cell). option_and_then flow_of c) (cell-after h e (keys.Flow id) ∙ ap (λ (w : Writes). after w (keys.Flow id) flow_cell) is)

  step-now : (ws : Writes) → e.writes ≡ ws → (n : ℕ) → step_at new (length new) id n ≡ option_and_then step_of (after ws (keys.Step id n) (step_cell n))
  step-now ws is n = ap (λ (c : Option Cell). option_and_then step_of c) (cell-after h e (keys.Step id n) ∙ ap (λ (w : Writes). after w (keys.Step id n) (step_cell n)) is)

  row-now : (row : FlowRow) (rest : Writes) → e.writes ≡ flow_write id row ∷ rest → ((c : Option Cell) → after rest (keys.Flow id) c ≡ c) → flow_at new (length new) id ≡ Some row
  row-now row rest is quiet =
      flow-now (flow_write id row ∷ rest) is
      ∙ ap (λ (b : Bool). option_and_then flow_of (after rest (keys.Flow id) (cond b (Some (cells.Flow row)) flow_cell))) (tie-refl (keys.Flow id))
      ∙ ap (λ (c : Option Cell). option_and_then flow_of c) (quiet (Some (cells.Flow row)))

  never : {A : Type 0} (row : FlowRow) → flow_at new (length new) id ≡ Some row → flow_at new (length new) id ≡ None → A
  never row there gone = let clash : Some row ≡ None = sym there ∙ gone in absurd (let z : Some row ≡ None = clash in cc)

  as_row : (row : FlowRow) (steps : List StepRow) → flow_at new (length new) id ≡ Some row → Expected P row.function row.args steps → (other : FlowRow) → flow_at new (length new) id ≡ Some other → Expected P other.function other.args steps
  as_row row steps there all other is =
      let both : Some row ≡ Some other = sym there ∙ is in
      let same : row ≡ other = cc in
      let Of : FlowRow → Type 0 = λ r. Expected P r.function r.args steps in
      subst Of same all

  -- a new Flow row
  pub told-row : (row : FlowRow) (rest : Writes) → e.writes ≡ flow_write id row ∷ rest → leaves id rest ≡ false → Expected P row.function row.args t.steps → Told P (h ++ e ∷ []) id
  told-row row rest is quiet all =
      let there : flow_at new (length new) id ≡ Some row = row-now row rest is (λ c. after-quiet id rest (keys.Flow id) c (own-refl id) quiet) in
      record {
        steps = t.steps;
        few = t.few;
        are = λ n. step-now (flow_write id row ∷ rest) is n ∙ ap (λ (c : Option Cell). option_and_then step_of c) (after-quiet id rest (keys.Step id n) (step_cell n) (own-refl id) quiet) ∙ t.are n;
        fresh = λ gone. never row there gone;
        asked = as_row row t.steps there all;
      }

  or_none : (o : Option StepRow) → or_old o None ≡ o
  or_none None = refl
  or_none (Some r) = refl

  -- a fork
  pub told-fork : (row : FlowRow) (copied : List StepRow) → e.writes ≡ flow_write id row ∷ copies id 0 copied → flow_at h (length h) id ≡ None → length copied ≤ 1000 → Expected P row.function row.args copied → Told P (h ++ e ∷ []) id
  told-fork row copied is gone few all =
      let there : flow_at new (length new) id ≡ Some row = row-now row (copies id 0 copied) is (λ c. copies-flow id 0 copied c) in
      let none : (n : ℕ) → option_and_then step_of (step_cell n) ≡ None = λ n. t.are n ∙ ap (λ (s : List StepRow). slice_get s n) (t.fresh gone) in
      let at : (n : ℕ) → option_and_then step_of (after (copies id 0 copied) (keys.Step id n) (step_cell n)) ≡ or_old (slice_get copied n) (option_and_then step_of (step_cell n)) =
      λ n. let z : n ≡ 0 + n = omega arith in ap (λ (m : ℕ). option_and_then step_of (after (copies id 0 copied) (keys.Step id m) (step_cell n))) z ∙ copies-at id 0 n copied (step_cell n) in
      record {
        steps = copied;
        few = few;
        are = λ n. step-now (flow_write id row ∷ copies id 0 copied) is n ∙ at n ∙ ap (λ (o : Option StepRow). or_old (slice_get copied n) o) (none n) ∙ or_none (slice_get copied n);
        fresh = λ none. never row there none;
        asked = as_row row copied there all;
      }

  -- ---- a step

  last-step : (first : Writes) (m : ℕ) (r : StepRow) → leaves id first ≡ false → (n : ℕ) → after (first ++ step_write id m r ∷ []) (keys.Step id n) (step_cell n) ≡ cond (eq_by_cmp key_cmp (keys.Step id n) (keys.Step id m)) (Some (cells.Step r)) (step_cell n)
  last-step first m r quiet n =
      after-append first (step_write id m r ∷ []) (keys.Step id n) (step_cell n)
      ∙ ap (λ (c : Option Cell). cond (eq_by_cmp key_cmp (keys.Step id n) (keys.Step id m)) (Some (cells.Step r)) c) (after-quiet id first (keys.Step id n) (step_cell n) (own-refl id) quiet)

  step-is : (m : ℕ) (r : StepRow) → m ≡ length t.steps → (n : ℕ) → option_and_then step_of (cond (eq_by_cmp key_cmp (keys.Step id n) (keys.Step id m)) (Some (cells.Step r)) (step_cell n)) ≡ slice_get (t.steps ++ r ∷ []) n
  step-is m r last n =
      elim (eqb_tells n m) [
        | inl same ↦
            ap (λ (j : ℕ). option_and_then step_of (cond (eq_by_cmp key_cmp (keys.Step id j) (keys.Step id m)) (Some (cells.Step r)) (step_cell n))) same.1
            ∙ ap (λ (b : Bool). option_and_then step_of (cond b (Some (cells.Step r)) (step_cell n))) (tie-refl (keys.Step id m))
            ∙ sym (at-end t.steps r) ∙ ap (λ (j : ℕ). slice_get (t.steps ++ r ∷ []) j) (sym (same.1 ∙ last))
        | inr other ↦
            ap (λ (b : Bool). option_and_then step_of (cond b (Some (cells.Step r)) (step_cell n))) (steps-apart id n m other.1)
            ∙ t.are n ∙ sym (at-other t.steps r n (λ same. other.1 (same ∙ sym last)))
      ]

  pub told-step : (first : Writes) (m : ℕ) (r : StepRow) → e.writes ≡ first ++ step_write id m r ∷ [] → leaves id first ≡ false → m ≡ length t.steps → m < 1000
      → (row : FlowRow) → flow_at h (length h) id ≡ Some row → AsksFor P row.function row.args t.steps r.name → Told P (h ++ e ∷ []) id
  told-step first m r is quiet last lt row there asks =
      let now : flow_at new (length new) id ≡ flow_at h (length h) id =
      flow-now (first ++ step_write id m r ∷ []) is
      ∙ ap (λ (c : Option Cell). option_and_then flow_of c) (after-append first (step_write id m r ∷ []) (keys.Flow id) flow_cell ∙ after-quiet id first (keys.Flow id) flow_cell (own-refl id) quiet) in
      record {
        steps = t.steps ++ r ∷ [];
        few = omega (arith, length-append t.steps (r ∷ []), last, lt);
        are = λ n. step-now (first ++ step_write id m r ∷ []) is n ∙ ap (λ (c : Option Cell). option_and_then step_of c) (last-step first m r quiet n) ∙ step-is m r last n;
        fresh = λ gone. never row (now ∙ there) gone;
        asked = as_row row (t.steps ++ r ∷ []) (now ∙ there) (expected-push P row.function row.args t.steps r (t.asked row there) asks);
      }
