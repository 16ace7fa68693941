-- A workflow whose snapshot is open still runs, and still asks for the transaction.
use Rattle.std.proofs.Common.{◌≡◌, ℕ, suc, zero, ◌+◌, ◌<◌, Bool, true, false, cond, ◌&&◌, List, [], ◌∷◌, ◌++◌, map, length, take, drop, Option, Some, None, refl, sym, ap, ◌∙◌, arith, length-take, take-append-drop}
use Rattle.std.specs.Prelude.{find, nat_lt, option_and_then}
use Rattle.std.specs.List.{enumerate_from, list_any, AllByRecursion}
use Rattle.std.proofs.lemmas.List.{append_assoc, append-nil}
use Rattle.r3_rows.specs.declared.rows.Key.{Key}
use Rattle.r3_rows.specs.declared.rows.Key.TheVariants as keys
use Rattle.r3_rows.specs.declared.rows.Cell.{Cell}
use Rattle.r3_rows.specs.declared.rows.StepRow.{StepRow}
use Rattle.r3_entry.specs.declared.entry.Entry.{Entry}
use Rattle.r3_model.specs.Language.{Text, Language}
use Rattle.fn_tree.specs.declared.flow.FlowEnd.TheVariants.{Asks}
use Rattle.r3_model.specs.Rows.{flow_of, step_of, flow_at, step_at, steps_at, answer_of}
use Rattle.r3_model.specs.Turns.{writer_past, flow_end}
use Rattle.r3_model.specs.Made.{is_own}
use Rattle.r3_model.specs.Valid.{IsOpen}
use Rattle.r3_laws.proofs.Frame.{cell_at-before, steps_from-same, flow_at-push, steps_at-push, IsQuiet}
use Rattle.r3_laws.proofs.Opens.{writes, mapped}

-- ---- over many entries that don't write a workflow's rows

module _ (id : Text) where
  frame : {A : Type 0} (f : List Entry → A) → ((h : List Entry) (e : Entry) → IsQuiet id e → f (h ++ e ∷ []) ≡ f h) → (h more : List Entry) → AllByRecursion (IsQuiet id) more → f (h ++ more) ≡ f h
  frame f push h [] quiet = ap f (append-nil h)
  frame f push h (e ∷ es) quiet = ap f (sym (append_assoc h (e ∷ []) es)) ∙ frame f push (h ++ e ∷ []) es quiet.1 ∙ push h e quiet.0

  pub flow_at-quiet : (h more : List Entry) → AllByRecursion (IsQuiet id) more → flow_at (h ++ more) (length (h ++ more)) id ≡ flow_at h (length h) id
  flow_at-quiet = frame (λ (h : List Entry). flow_at h (length h) id) (λ h e q. flow_at-push h e id q)

  pub steps_at-quiet : (h more : List Entry) → AllByRecursion (IsQuiet id) more → steps_at (h ++ more) (length (h ++ more)) id ≡ steps_at h (length h) id
  steps_at-quiet = frame (λ (h : List Entry). steps_at h (length h) id) (λ h e q. steps_at-push h e id q)

-- ---- no writer past s

is_past : (s n : ℕ) → s < n → nat_lt s n ≡ true
is_past s n lt = grind arith

module _ (s : ℕ) (p : Key → Bool) where
  abbrev pub None_in : ℕ → List Entry → Type 0
  None_in n h = find (writes s p) (enumerate_from n h) ≡ None

  both : (b : Bool) (x : ℕ × Entry) (rest : Option (ℕ × Entry)) → cond b (Some x) rest ≡ None → (b ≡ false) × (rest ≡ None)
  both true x rest e = absurd (let z : Some x ≡ None = e in cc)
  both false x rest e = (refl, e)

  second : (a b : Bool) → a ≡ true → (a && b) ≡ false → b ≡ false
  second true b e f = f
  second false b e f = absurd cc

  pub later : (n k : ℕ) (h : List Entry) → None_in n h → None_in (n + k) (drop k h)
  later n zero h none = let z : n + 0 ≡ n = omega arith in ap (λ (m : ℕ). find (writes s p) (enumerate_from m h)) z ∙ none
  later n (suc k) [] none = refl
  later n (suc k) (x ∷ xs) none =
      let z : n + suc k ≡ (n + 1) + k = omega arith in
      ap (λ (m : ℕ). find (writes s p) (enumerate_from m (drop k xs))) z ∙ later (n + 1) k xs (both (writes s p (n, x)) (n, x) _ none).1

  pub quiet : (n : ℕ) (h : List Entry) → s < n → None_in n h → AllByRecursion (λ (e : Entry). list_any (λ (w : Key × Option Cell). p w.0) e.writes ≡ false) h
  quiet n [] lt none = tt
  quiet n (x ∷ xs) lt none =
      let parts = both (writes s p (n, x)) (n, x) (find (writes s p) (enumerate_from (n + 1) xs)) none in
      (second (nat_lt s n) _ (is_past s n lt) parts.0, quiet (n + 1) xs (omega arith) parts.1)

pub past-quiet : (h : List Entry) (s : ℕ) (id : Text) → writer_past h s (is_own id) ≡ None → AllByRecursion (IsQuiet id) (drop s h)
past-quiet h s id none = quiet s (is_own id) (1 + s) (drop s h) (omega arith) (later s (is_own id) 1 s h (mapped (find (writes s (is_own id)) (enumerate_from 1 h)) none))

-- ---- an open snapshot

module _ (P : Language) (h : List Entry) (id : Text) (s : ℕ) (o : IsOpen P h id s) where
  abbrev whole : take s h ++ drop s h ≡ h
  whole = take-append-drop s h

  long : length (take s h) ≡ s
  long = omega (arith, length-take s h, o.past)

  rest-quiet : AllByRecursion (IsQuiet id) (drop s h)
  rest-quiet = past-quiet h s id o.own

  flow_same : flow_at h (length h) id ≡ flow_at h s id
  flow_same =
      let now : flow_at h (length h) id ≡ flow_at (take s h) (length (take s h)) id = ap (λ (g : List Entry). flow_at g (length g) id) (sym whole) ∙ flow_at-quiet id (take s h) (drop s h) rest-quiet in
      let then : flow_at h s id ≡ flow_at (take s h) s id = ap (λ (g : List Entry). flow_at g s id) (sym whole) ∙ ap (λ (c : Option Cell). option_and_then flow_of c) (cell_at-before (take s h) (drop s h) s (keys.Flow id) (omega (arith, long))) in
      now ∙ ap (λ (k : ℕ). flow_at (take s h) k id) long ∙ sym then

  steps_same : steps_at h (length h) id ≡ steps_at h s id
  steps_same =
      let now : steps_at h (length h) id ≡ steps_at (take s h) (length (take s h)) id = ap (λ (g : List Entry). steps_at g (length g) id) (sym whole) ∙ steps_at-quiet id (take s h) (drop s h) rest-quiet in
      let each : (n : ℕ) → step_at (take s h ++ drop s h) s id n ≡ step_at (take s h) s id n = λ n. ap (λ (c : Option Cell). option_and_then step_of c) (cell_at-before (take s h) (drop s h) s (keys.Step id n) (omega (arith, long))) in
      let then : steps_at h s id ≡ steps_at (take s h) s id = ap (λ (g : List Entry). steps_at g s id) (sym whole) ∙ steps_from-same (take s h ++ drop s h) (take s h) s s id each 1000 0 in
      now ∙ ap (λ (k : ℕ). steps_at (take s h) k id) long ∙ sym then

  pub still-there : flow_at h (length h) id ≡ Some o.row
  still-there = flow_same ∙ o.there

  pub still-asks : flow_end P h id o.row ≡ Asks o.request
  still-asks = ap (λ (r : List StepRow). P.flow o.row.function o.row.args (map answer_of r)) steps_same ∙ o.asks
